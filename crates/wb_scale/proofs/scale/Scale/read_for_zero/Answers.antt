use Rattle.std.proofs.Common.{◌≡◌, arith, of_z, pos, sym, to_z, w32, ◌∙◌, refl}
use Rattle.std.proofs.lemmas.Int.{ints}
use Rattle.wb_instrument.specs.Limits.{readings_a_step}
use Rattle.wb_scale.specs.helpers.After.{IsRefused, IsTarget, pause_from, seen}
use Rattle.wb_scale.specs.Stands.{ScaleStands}
use Rattle.wb_scale.specs.State.{State}
use Rattle.wb_scale.proofs.Standing.{IsScale-seen, Stands-read, Takes-behind}
use Rattle.wb_scale.proofs.Zeros.{IsScale-zeroed, Stands-read_only, Stands-read_zeroed, target_answer-seen}
use Rattle.wb_scale.proofs.scale.Scale.read_for_zero.Given.{Over}
use Rattle.wb_scale.specs.Call.{read, read_for_zero}
use Rattle.wb_scale.proofs.scale.Scale.read_for_zero.Goals as goal

pub invariant_of-self : goal.invariant_of-self
invariant_of-self g c = rw c.read.ensures (IsScale-seen _ c.args.reading c.self.invariant c.requires)

pub invariant_of-self-in-Err : goal.invariant_of-self-in-Err
invariant_of-self-in-Err g c = rw c.read.ensures (IsScale-seen _ c.args.reading c.self.invariant c.requires)

abbrev before : (g : Over) → goal.After-self-in-Ok-3-1 g → State
before g c = record { setup = c.self.inside.instrument; held = g.W.Window.held c.self.inside.window; zero = c.self.inside.zero; pause = c.self.inside.pause; tare = c.self.inside.tare; cleared = c.self.inside.cleared }

target : (g : Over) (c : goal.After-self-in-Ok-3-1 g) → IsTarget (seen (before g c) c.args.reading) c.in-Ok.load
target g c = rw c.read.ensures at c.in-Ok.ensures.ok

pause : (g : Over) (c : goal.After-self-in-Ok-3-1 g) → c.pause_after-self-inside.result ≡ pause_from (pos 0) c.self.inside.pause (readings_a_step c.self.inside.instrument)
pause g c = c.pause_after-self-inside.ensures

pub invariant_of-self-in-Ok : goal.invariant_of-self-in-Ok
invariant_of-self-in-Ok g c =
    let load : to_z w32 (of_z w32 c.in-Ok.load) ≡ c.in-Ok.load = omega (arith, ints) in
    rw (load, c.read.ensures, pause g c) (IsScale-zeroed (seen (before g c) c.args.reading) c.in-Ok.load _ (IsScale-seen _ c.args.reading c.self.invariant c.requires) (target g c))

pub returns-in-Ok-clause-answer : goal.returns-in-Ok-clause-answer
returns-in-Ok-clause-answer g c = λ h st.
    let s = before g c in
    let from : ScaleStands s h = rw c.self.view_is st in
    let is = target g c in
    rw (← c.self.view_is) (sym is.done ∙ target_answer-seen s c.args.reading h c.self.invariant from)

pub returns-in-Ok-clause-takes : goal.returns-in-Ok-clause-takes
returns-in-Ok-clause-takes g c =
    let s = before g c in
    let load : to_z w32 (of_z w32 c.in-Ok.load) ≡ c.in-Ok.load = omega (arith, ints) in
    Takes-behind s _ _ (read_for_zero c.args.reading) c.self.view_is refl (λ h from. rw (load, c.read.ensures, pause g c) (Stands-read_zeroed s c.args.reading c.in-Ok.load h c.self.invariant (target g c) from))

abbrev earlier : (g : Over) → goal.After-track g → State
earlier g c = record { setup = c.self.inside.instrument; held = g.W.Window.held c.self.inside.window; zero = c.self.inside.zero; pause = c.self.inside.pause; tare = c.self.inside.tare; cleared = c.self.inside.cleared }

refused : (g : Over) (c : goal.After-track g) → IsRefused (seen (earlier g c) c.args.reading) c.in-Err.answer
refused g c = rw c.read.ensures at c.in-Err.ensures.err

pub returns-in-Err-clause-answer : goal.returns-in-Err-clause-answer
returns-in-Err-clause-answer g c = λ h st.
    let s = earlier g c in
    let from : ScaleStands s h = rw c.self.view_is st in
    let is = refused g c in
    rw (← c.self.view_is) (sym is.is ∙ target_answer-seen s c.args.reading h c.self.invariant from)

pub returns-in-Err-clause-takes : goal.returns-in-Err-clause-takes
returns-in-Err-clause-takes g c =
    let s = earlier g c in
    Takes-behind s _ c.track.new.self (read_for_zero c.args.reading) c.self.view_is (rw c.track.ensures refl) (λ h from. rw (c.track.ensures, c.read.ensures) (Stands-read_only s c.args.reading c.in-Err.answer h c.self.invariant (refused g c) from (Stands-read s c.args.reading h c.self.invariant from)))

pub returns-in-Err-clause-refused : goal.returns-in-Err-clause-refused
returns-in-Err-clause-refused g c = λ _.
    let s = earlier g c in
    Takes-behind s _ c.track.new.self (read c.args.reading) c.self.view_is (rw c.track.ensures refl) (λ h from. rw (c.track.ensures, c.read.ensures) (Stands-read s c.args.reading h c.self.invariant from))
