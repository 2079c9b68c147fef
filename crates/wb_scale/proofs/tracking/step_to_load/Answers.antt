use Rattle.std.proofs.Common.{◌≡◌, ◌≢◌, ◌-ℤ◌, pos, sym, ◌∙◌, arith, to_z, of_z, w32}
use Rattle.std.proofs.lemmas.Int.{ints}
use Rattle.wb_instrument.specs.Limits.{farthest_zero}
use Rattle.wb_instrument.specs.Rounding.{round}
use Rattle.wb_scale.proofs.Tracks.{step_to-gross, step_to-nought}
use Rattle.wb_scale.proofs.tracking.step_to_load.Goals as goal

pub returns-then-gross-ne0-clause-value : goal.returns-then-gross-ne0-clause-value
returns-then-gross-ne0-clause-value c =
    let difference : to_z w32 (of_z w32 (to_z w32 (of_z w32 c.args.load) -ℤ to_z w32 (of_z w32 c.args.zero))) ≡ c.args.load -ℤ c.args.zero = omega (arith, ints) in
    let gross = rw difference at c.round_tenths-gross.ensures.value in
    let not : c.round_tenths-gross.result ≢ pos 0 = λ e. absurd (omega (arith, ints)) in
    sym (step_to-gross (pos (farthest_zero c.args.instrument.now)) c.args.zero c.args.load (λ e. not (gross ∙ e)))

pub returns-clause-value : goal.returns-clause-value
returns-clause-value c =
    let zero : to_z w32 (of_z w32 c.args.zero) ≡ c.args.zero = omega (arith, ints) in
    let load : to_z w32 (of_z w32 c.args.load) ≡ c.args.load = omega (arith, ints) in
    let difference : to_z w32 (of_z w32 (to_z w32 (of_z w32 c.args.load) -ℤ to_z w32 (of_z w32 c.args.zero))) ≡ c.args.load -ℤ c.args.zero = omega (arith, ints) in
    let nought : c.round_tenths-gross.result ≡ pos 0 = omega (arith, ints) in
    let gross : round (c.args.load -ℤ c.args.zero) ≡ pos 0 = sym (rw difference at c.round_tenths-gross.ensures.value) ∙ nought in
    let step = rw (zero, load) at c.tenth_towards-step.ensures.value in
    let limit : to_z w32 (of_z w32 c.zero_limit.result) ≡ pos (farthest_zero c.args.instrument.now) = omega (arith, ints, c.zero_limit.ensures.value) in
    let same : to_z w32 (of_z w32 c.tenth_towards-step.result) ≡ c.tenth_towards-step.result = omega (arith, ints) in
    let shown : to_z w32 (of_z w32 c.step_within.result) ≡ c.step_within.result = omega (arith, ints) in
    let moved = rw (limit, zero, same, step) at c.step_within.ensures.value in
    shown ∙ moved ∙ sym (step_to-nought (pos (farthest_zero c.args.instrument.now)) c.args.zero c.args.load gross)
