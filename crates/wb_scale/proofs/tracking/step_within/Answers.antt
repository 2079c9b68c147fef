use Rattle.std.proofs.Common.{◌≡◌, ◌+ℤ◌, sym, ◌∙◌, arith, refl, false, to_z, of_z, true, w32}
use Rattle.std.proofs.lemmas.Int.{ints}
use Rattle.wb_scale.specs.Tracking.{is_within_limit}
use Rattle.wb_scale.proofs.Tracks.{within-true}
use Rattle.wb_scale.proofs.tracking.step_within.Goals as goal

pub returns-then-is_within-clause-value : goal.returns-then-is_within-clause-value
returns-then-is_within-clause-value c =
    let limit : to_z w32 (of_z w32 c.args.limit) ≡ c.args.limit = omega (arith, ints) in
    let same : to_z w32 (of_z w32 c.args.step) ≡ c.args.step = omega (arith, ints) in
    let sum : to_z w32 (of_z w32 (to_z w32 (of_z w32 c.args.zero) +ℤ to_z w32 (of_z w32 c.args.step))) ≡ c.args.zero +ℤ c.args.step = omega (arith, ints) in
    let within : is_within_limit c.args.limit (c.args.zero +ℤ c.args.step) ≡ true = sym (rw (limit, sum) at c.is_within.ensures) ∙ c.if-is_within.true in
    rw (within, same) refl

pub returns-then-is_within-clause-within : goal.returns-then-is_within-clause-within
returns-then-is_within-clause-within c =
    let limit : to_z w32 (of_z w32 c.args.limit) ≡ c.args.limit = omega (arith, ints) in
    let same : to_z w32 (of_z w32 c.args.step) ≡ c.args.step = omega (arith, ints) in
    let sum : to_z w32 (of_z w32 (to_z w32 (of_z w32 c.args.zero) +ℤ to_z w32 (of_z w32 c.args.step))) ≡ c.args.zero +ℤ c.args.step = omega (arith, ints) in
    rw same (within-true c.args.limit (c.args.zero +ℤ c.args.step) (sym (rw (limit, sum) at c.is_within.ensures) ∙ c.if-is_within.true))

pub returns-else-is_within-clause-value : goal.returns-else-is_within-clause-value
returns-else-is_within-clause-value c =
    let limit : to_z w32 (of_z w32 c.args.limit) ≡ c.args.limit = omega (arith, ints) in
    let sum : to_z w32 (of_z w32 (to_z w32 (of_z w32 c.args.zero) +ℤ to_z w32 (of_z w32 c.args.step))) ≡ c.args.zero +ℤ c.args.step = omega (arith, ints) in
    let outside : is_within_limit c.args.limit (c.args.zero +ℤ c.args.step) ≡ false = sym (rw (limit, sum) at c.is_within.ensures) ∙ c.if-is_within.false in
    rw outside refl
