use Rattle.std.proofs.Common.{◌≡◌, subst, sym, ◌∙◌}
use Rattle.wb_scale.specs.helpers.After.{above}
use Rattle.wb_scale.specs.Stands.{ScaleStands}
use Rattle.wb_scale.specs.State.{State}
use Rattle.wb_scale.specs.Zero.{last_load}
use Rattle.wb_scale.proofs.Balances.{IsInRange-indicated_at, indicated-held}
use Rattle.wb_scale.proofs.scale.Scale.indicated.Goals as goal

pub returns-clause-value : goal.returns-clause-value
returns-clause-value g c = λ h st.
    let s : State = record { setup = c.self.inside.instrument; held = g.W.Window.held c.self.inside.window; zero = c.self.inside.zero; pause = c.self.inside.pause; tare = c.self.inside.tare; cleared = c.self.inside.cleared } in
    let from : ScaleStands s h = rw c.self.view_is st in
    let load : c.above_zero.result ≡ above (last_load s.held.readings) s.zero = subst (λ (t : State). c.above_zero.result ≡ above (last_load t.held.readings) t.zero) (sym c.self.view_is) c.above_zero.ensures.value in
    rw (← c.self.view_is) (rw (c.stable-stable.ensures, load) at c.indicated_of.ensures ∙ indicated-held s h c.self.invariant from)

pub returns-clause-in_range : goal.returns-clause-in_range
returns-clause-in_range g c =
    rw (← c.self.view_is, c.indicated_of.ensures) (IsInRange-indicated_at c.self.inside.instrument c.stable-stable.result c.self.inside.tare c.above_zero.result c.self.invariant.tare)
