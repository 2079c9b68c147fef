use Rattle.std.proofs.Common.{◌≡◌, Some, arith, ap, of_z, subst, sym, to_z, w32, ◌∙◌, refl}
use Rattle.std.proofs.lemmas.Int.{ints}
use Rattle.wb_scale.specs.declared.answers.TareAnswer.TheVariants.{Done}
use Rattle.wb_scale.specs.declared.answers.TareNow.TheVariants.{Weighed}
use Rattle.wb_scale.specs.helpers.After.{above, balance_answer}
use Rattle.wb_scale.specs.Call.{tare}
use Rattle.wb_scale.specs.Moment.{nothing}
use Rattle.wb_scale.specs.Stands.{ScaleStands}
use Rattle.wb_scale.specs.Tare.{tare_in_kilograms}
use Rattle.wb_scale.specs.State.{State}
use Rattle.wb_scale.specs.Zero.{last_load}
use Rattle.wb_scale.proofs.Balances.{balance_answer-held, weighed-held, weighed-refused}
use Rattle.wb_scale.proofs.Standing.{Stands-kept, Stands-tare, Takes-behind}
use Rattle.wb_scale.proofs.scale.Scale.tare.Given.{Over}
use Rattle.wb_scale.proofs.scale.Scale.tare.Goals as goal

abbrev before : (g : Over) → goal.After-tare_kilograms g → State
before g c = record { setup = c.self.inside.instrument; held = g.W.Window.held c.self.inside.window; zero = c.self.inside.zero; pause = c.self.inside.pause; tare = c.self.inside.tare; cleared = c.self.inside.cleared }

load : (g : Over) (c : goal.After-tare_kilograms g) → above (last_load (before g c).held.readings) (before g c).zero ≡ Some c.in-Ok.tenths
load g c = subst (λ (t : State). above (last_load t.held.readings) t.zero ≡ Some c.in-Ok.tenths) (sym c.self.view_is) (sym c.above_zero.ensures.value ∙ c.in-Ok.ensures.ok.0)

tared : (g : Over) (c : goal.After-tare_kilograms g) → balance_answer (before g c) ≡ Done (tare_in_kilograms c.self.inside.instrument (Weighed c.in-Ok.tenths))
tared g c = rw (load g c) (rw (c.stable-stable.ensures, c.in-Ok.ensures.ok.0) at c.in-Ok.ensures.ok.1)

pub returns-in-Ok-clause-answer : goal.returns-in-Ok-clause-answer
returns-in-Ok-clause-answer g c = λ h st.
    let s = before g c in
    let from : ScaleStands s h = rw c.self.view_is st in
    let tenths : to_z w32 (of_z w32 c.in-Ok.tenths) ≡ c.in-Ok.tenths = omega (arith, ints) in
    let kg = rw tenths at c.tare_kilograms.ensures in
    let same : to_z w32 (of_z w32 c.tare_kilograms.result) ≡ c.tare_kilograms.result = omega (arith, ints) in
    rw (← c.self.view_is) (ap Done (same ∙ kg) ∙ sym (tared g c) ∙ balance_answer-held s h c.self.invariant from)

pub returns-in-Ok-clause-takes : goal.returns-in-Ok-clause-takes
returns-in-Ok-clause-takes g c =
    let s = before g c in
    let tenths : to_z w32 (of_z w32 c.in-Ok.tenths) ≡ c.in-Ok.tenths = omega (arith, ints) in
    Takes-behind s _ _ tare c.self.view_is refl (λ h from. rw tenths (Stands-tare s tare h (Weighed c.in-Ok.tenths) (ap (λ t. record nothing { tare = t }) (weighed-held s h c.in-Ok.tenths _ c.self.invariant from (load g c) (tared g c))) from))

pub returns-in-Err-clause-answer : goal.returns-in-Err-clause-answer
returns-in-Err-clause-answer g c = λ h st.
    let s : State = record { setup = c.self.inside.instrument; held = g.W.Window.held c.self.inside.window; zero = c.self.inside.zero; pause = c.self.inside.pause; tare = c.self.inside.tare; cleared = c.self.inside.cleared } in
    let from : ScaleStands s h = rw c.self.view_is st in
    let load : c.above_zero.result ≡ above (last_load s.held.readings) s.zero = subst (λ (t : State). c.above_zero.result ≡ above (last_load t.held.readings) t.zero) (sym c.self.view_is) c.above_zero.ensures.value in
    let answer : balance_answer s ≡ c.in-Err.answer = rw (c.stable-stable.ensures, load) at c.in-Err.ensures.err in
    rw (← c.self.view_is) (sym answer ∙ balance_answer-held s h c.self.invariant from)

pub returns-in-Err-clause-takes : goal.returns-in-Err-clause-takes
returns-in-Err-clause-takes g c =
    let s : State = record { setup = c.self.inside.instrument; held = g.W.Window.held c.self.inside.window; zero = c.self.inside.zero; pause = c.self.inside.pause; tare = c.self.inside.tare; cleared = c.self.inside.cleared } in
    let load : c.above_zero.result ≡ above (last_load s.held.readings) s.zero = subst (λ (t : State). c.above_zero.result ≡ above (last_load t.held.readings) t.zero) (sym c.self.view_is) c.above_zero.ensures.value in
    let answer : balance_answer s ≡ c.in-Err.answer = rw (c.stable-stable.ensures, load) at c.in-Err.ensures.err in
    Takes-behind s _ _ tare c.self.view_is (ap (λ t. t.setup) (sym c.self.view_is)) (λ h from. rw (← c.self.view_is) (Stands-kept s tare h (ap (λ t. record nothing { tare = t }) (weighed-refused s h c.in-Err.answer c.self.invariant from answer c.in-Err.ensures.refused)) from))
