use Rattle.std.proofs.Common.{◌≡◌, pos, neg_ℤ, ◌≤ℤ◌, length, w32, w64, to_z, of_z, arith}
use Rattle.std.proofs.lemmas.Int.{ints}
use Rattle.wb_calibration.specs.Line.{IsNearest}
use Rattle.wb_converter.proofs.Means.{mean_above, mean_below}
use Rattle.wb_converter.proofs.sample.mean.Goals as goal

is_nearest : (c : goal.After-nearest-mean) → IsNearest c.sum.result (pos (length c.args.counts.now)) c.nearest-mean.result
is_nearest c =
    let s : to_z w64 (of_z w64 c.sum.result) ≡ c.sum.result = omega (arith, ints, c.sum.ensures.low, c.sum.ensures.high, c.requires.few) in
    let n : to_z w64 (length c.args.counts.now) ≡ pos (length c.args.counts.now) = omega (arith, ints, c.requires.few) in
    rw (s, n) at c.nearest-mean.ensures

bounds : (c : goal.After-nearest-mean) → (neg_ℤ (pos 2147483648) ≤ℤ c.nearest-mean.result) × (c.nearest-mean.result ≤ℤ pos 2147483647)
bounds c =
    let is = is_nearest c in (
      mean_above c.sum.result c.nearest-mean.result (length c.args.counts.now) c.requires.some is c.sum.ensures.low,
      mean_below c.sum.result c.nearest-mean.result (length c.args.counts.now) c.requires.some is c.sum.ensures.high,
    )

pub overflow_cast-result : goal.overflow_cast-result
overflow_cast-result c =
    let b = bounds c in
    omega (arith, ints, b.0, b.1)

pub returns : goal.returns
returns c =
    let b = bounds c in
    let same : to_z w32 (of_z w32 (to_z w64 (of_z w64 c.nearest-mean.result))) ≡ c.nearest-mean.result = omega (arith, ints, b.0, b.1) in
    let is = rw c.sum.ensures.sum at (is_nearest c) in
    rw same is
