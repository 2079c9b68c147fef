use Rattle.std.proofs.Common.{◌≡◌, arith, of_z, subst, sym, to_z, w32, ◌∙◌, refl}
use Rattle.std.proofs.lemmas.Int.{ints}
use Rattle.wb_scale.specs.helpers.After.{IsTarget}
use Rattle.wb_scale.specs.State.{IsScale, State}
use Rattle.wb_scale.proofs.Zeros.{Stands-not_zeroed, Stands-zeroed, target_answer-held}
use Rattle.wb_scale.proofs.Standing.{Takes-behind}
use Rattle.wb_scale.specs.Call.{set_zero}
use Rattle.wb_scale.proofs.scale.Scale.zero.Goals as goal

pub returns-in-Ok-clause-takes : goal.returns-in-Ok-clause-takes
returns-in-Ok-clause-takes g c =
    let s : State = record { setup = c.self.inside.instrument; held = g.W.Window.held c.self.inside.window; zero = c.self.inside.zero; pause = c.self.inside.pause; tare = c.self.inside.tare; cleared = c.self.inside.cleared } in
    let target : IsTarget s c.in-Ok.load = rw c.self.view_is c.in-Ok.ensures.ok in
    let load : to_z w32 (of_z w32 c.in-Ok.load) ≡ c.in-Ok.load = omega (arith, ints) in
    Takes-behind s _ _ set_zero c.self.view_is refl (λ h from. rw load (Stands-zeroed s c.in-Ok.load h c.self.invariant target from))

pub returns-in-Err-clause-answer : goal.returns-in-Err-clause-answer
returns-in-Err-clause-answer g c = λ h st. sym c.in-Err.ensures.err.is ∙ target_answer-held c.args.self.now h (subst IsScale c.self.view_is c.self.invariant) st

pub returns-in-Err-clause-takes : goal.returns-in-Err-clause-takes
returns-in-Err-clause-takes g c =
    record { setup = refl; stands = λ h st. Stands-not_zeroed c.args.self.now c.in-Err.answer h (subst IsScale c.self.view_is c.self.invariant) c.in-Err.ensures.err st }
