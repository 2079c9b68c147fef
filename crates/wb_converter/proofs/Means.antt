-- A mean lies between the bounds of what it is made of.
use Rattle.std.proofs.Common.{ℕ, ◌*◌, ◌<◌, ℤ, pos, neg_ℤ, ◌≤ℤ◌, arith}
use Rattle.std.proofs.lemmas.Int.{ints}
use Rattle.wb_calibration.specs.Line.{IsNearest}
use Rattle.wb_calibration.proofs.Products.{mul_cancel}

pub mean_above : (sum q : ℤ) (n : ℕ) → 0 < n → IsNearest sum (pos n) q → neg_ℤ (pos (2147483648 * n)) ≤ℤ sum → neg_ℤ (pos 2147483648) ≤ℤ q
mean_above sum q n some is low =
    mul_cancel (pos (2 * n)) (neg_ℤ (pos 2147483648)) q (omega (arith, ints)) (omega (arith, ints, is.below, low))

pub mean_below : (sum q : ℤ) (n : ℕ) → 0 < n → IsNearest sum (pos n) q → sum ≤ℤ pos (2147483647 * n) → q ≤ℤ pos 2147483647
mean_below sum q n some is high =
    mul_cancel (pos (2 * n)) q (pos 2147483647) (omega (arith, ints)) (omega (arith, ints, is.above, high))
