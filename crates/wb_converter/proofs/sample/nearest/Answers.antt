use Rattle.std.proofs.Common.{◌≡◌, ◌≤◌, ◌+ℤ◌, ◌*ℤ◌, pos, unsigned_abs, w64, to_z, of_z, arith}
use Rattle.std.proofs.lemmas.Int.{ints}
use Rattle.std.specs.Int.{int_div_euclid}
use Rattle.wb_calibration.proofs.Products.{quotient_small}
use Rattle.wb_calibration.proofs.Rounding.{IsNearest-quotient}
use Rattle.wb_converter.proofs.sample.nearest.Goals as goal

pub returns : goal.returns
returns c =
    let p = c.args.sum in
    let run = c.args.number in
    let y : to_z w64 (of_z w64 (to_z w64 (of_z w64 (pos 2 *ℤ to_z w64 (of_z w64 p))) +ℤ to_z w64 (of_z w64 run))) ≡ pos 2 *ℤ p +ℤ run = omega (arith, ints, c.requires.sum, c.requires.positive, c.requires.number) in
    let d : to_z w64 (of_z w64 (pos 2 *ℤ to_z w64 (of_z w64 run))) ≡ pos 2 *ℤ run = omega (arith, ints, c.requires.positive, c.requires.number) in
    let q : c.div_euclid.result ≡ int_div_euclid (pos 2 *ℤ p +ℤ run) (pos 2 *ℤ run) = rw (y, d) at c.div_euclid.ensures in
    let small : unsigned_abs c.div_euclid.result ≤ unsigned_abs (pos 2 *ℤ p +ℤ run) = rw q (quotient_small (pos 2 *ℤ p +ℤ run) (pos 2 *ℤ run) (omega (arith, ints, c.requires.positive))) in
    let bound : unsigned_abs c.div_euclid.result ≤ 4611686018427387904 = omega (arith, ints, small, c.requires.sum, c.requires.positive, c.requires.number) in
    let back : to_z w64 (of_z w64 c.div_euclid.result) ≡ c.div_euclid.result = omega (arith, ints, bound) in
    rw back (IsNearest-quotient p run c.div_euclid.result c.requires.positive q)
