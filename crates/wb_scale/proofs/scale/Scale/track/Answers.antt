use Rattle.std.proofs.Common.{◌≡◌, ◌+ℤ◌, arith, of_z, pos, subst, sym, to_z, w32}
use Rattle.std.proofs.lemmas.Int.{ints}
use Rattle.wb_instrument.specs.Limits.{farthest_zero}
use Rattle.wb_window.specs.Stability.{is_stable}
use Rattle.wb_scale.specs.helpers.After.{step_of, tracked}
use Rattle.wb_scale.specs.State.{IsScale, State}
use Rattle.wb_scale.specs.Zero.{last_load}
use Rattle.wb_scale.proofs.Standing.{IsScale-moved, tracked-parts}
use Rattle.wb_scale.proofs.scale.Scale.track.Given.{Over}
use Rattle.wb_scale.proofs.scale.Scale.track.Goals as goal

abbrev before : (g : Over) → goal.After-self-3-1 g → State
before g c = record { setup = c.self.inside.instrument; held = g.W.Window.held c.self.inside.window; zero = c.self.inside.zero; pause = c.self.inside.pause; tare = c.self.inside.tare; cleared = c.self.inside.cleared }

abbrev after : (g : Over) → goal.After-self-3-1 g → State
after g c = record (before g c) {
  zero = to_z w32 (of_z w32 (to_z w32 (of_z w32 c.self.inside.zero) +ℤ to_z w32 (of_z w32 c.tracking_step-step.result)));
  pause = c.pause_after-self-inside.result;
  cleared = c.cleared_by-self-inside.result;
}

load : (g : Over) (c : goal.After-self-3-1 g) → c.load-load.result ≡ last_load (before g c).held.readings
load g c = subst (λ (t : State). c.load-load.result ≡ last_load t.held.readings) (sym c.self.view_is) c.load-load.ensures.value

step : (g : Over) (c : goal.After-self-3-1 g) → let s = before g c in
    c.tracking_step-step.result ≡ step_of (is_stable s.held.size s.held.band s.held.readings) s.pause (pos (farthest_zero s.setup)) s.zero (last_load s.held.readings)
step g c =
    let zero : to_z w32 (of_z w32 c.self.inside.zero) ≡ c.self.inside.zero = omega (arith, ints) in
    rw (zero, load g c) at c.tracking_step-step.ensures.value

left : (g : Over) (c : goal.After-self-3-1 g) → after g c ≡ tracked (before g c)
left g c =
    let same : to_z w32 (of_z w32 c.tracking_step-step.result) ≡ c.tracking_step-step.result = omega (arith, ints) in
    let sum : (after g c).zero ≡ c.self.inside.zero +ℤ c.tracking_step-step.result = omega (arith, ints) in
    let pause = rw (same, c.tracking_gap-gap.ensures.value) at c.pause_after-self-inside.ensures in
    let cleared = rw (c.load_above.ensures.value, load g c) at c.cleared_by-self-inside.ensures in
    tracked-parts (before g c) (after g c).zero (after g c).pause (after g c).cleared c.tracking_step-step.result (step g c) sum pause cleared

pub invariant_of-self : goal.invariant_of-self
invariant_of-self g c =
    let zero : to_z w32 (of_z w32 c.self.inside.zero) ≡ c.self.inside.zero = omega (arith, ints) in
    let within = rw (zero, step g c) at c.tracking_step-step.ensures.within in
    subst IsScale (sym (left g c)) (IsScale-moved (before g c) _ c.self.invariant within)

pub returns : goal.returns
returns g c = rw (← c.self.view_is) (left g c)
