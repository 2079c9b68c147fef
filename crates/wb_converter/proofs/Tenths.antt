-- Weights in tenths.
use Rattle.std.proofs.Common.{◌≡◌, sym, ap, ℕ, ◌*◌, ◌/◌, ◌<◌, ◌≤◌, ℤ, pos, negsuc, suc, zero, arith}
use Rattle.std.proofs.lemmas.Int.{ints}
use Rattle.std.proofs.Math.Nat.{mul-div_cancel}
use Rattle.wb_converter.specs.Weights.{IsTenthsOf}

-- the quotient is the tenths, if there are such
pub tenths_divided : (kilograms interval : ℕ) (tenths : ℤ) → IsTenthsOf kilograms interval tenths
    → (tenths ≡ pos (kilograms * 10 / interval)) × (kilograms * 10 / interval * interval ≡ kilograms * 10)
tenths_divided kilograms interval (pos t) is =
    let whole : t * interval ≡ kilograms * 10 = omega (arith, ints, is.whole) in
    let q : t ≡ kilograms * 10 / interval = rw whole at (sym (mul-div_cancel t is.positive)) in
    (ap pos q, rw (sym q) whole)
tenths_divided kilograms zero (negsuc t) is = absurd (omega (arith, is.positive))
tenths_divided kilograms (suc n) (negsuc t) is = absurd (omega (arith, ints, is.whole))

pub IsTenthsOf-divided : (kilograms interval : ℕ) → 0 < interval → kilograms * 10 / interval * interval ≡ kilograms * 10 → kilograms * 10 / interval ≤ 2000000
    → IsTenthsOf kilograms interval (pos (kilograms * 10 / interval))
IsTenthsOf-divided kilograms interval some whole most = record { positive = some; whole = ap pos whole; most = omega (arith, ints, most) }
