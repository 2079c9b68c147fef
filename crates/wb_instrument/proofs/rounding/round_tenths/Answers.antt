use Rattle.std.proofs.Common.{◌≡◌, arith, ℤ, pos, ◌+ℤ◌, to_z, of_z, w64, refl}
use Rattle.std.proofs.lemmas.Int.{ints}
use Rattle.std.specs.Int.{int_div_euclid}
use Rattle.wb_instrument.specs.Rounding.{round}
use Rattle.wb_instrument.proofs.offered.Rounding.{IsRounded-round}
use Rattle.wb_instrument.proofs.rounding.round_tenths.Goals as goal

-- the code's quotient is the rounding
round-divided : (q y d t : ℤ) → q ≡ int_div_euclid y d → y ≡ t +ℤ pos 5 → d ≡ pos 10 → q ≡ round t
unfolding round
round-divided q y d t e ey ed = rw (e, ey, ed)

pub returns : goal.returns
returns c =
    let y : ℤ = to_z w64 (of_z w64 (to_z w64 (of_z w64 c.from.result) +ℤ pos 5)) in
    let is : y ≡ c.args.tenths +ℤ pos 5 = omega (arith, ints) in
    let q : c.div_euclid.result ≡ round c.args.tenths = round-divided c.div_euclid.result y (pos 10) c.args.tenths c.div_euclid.ensures is refl in
    let r = IsRounded-round c.args.tenths in
    record { nearest = (omega (arith, ints), omega (arith, ints)); value = omega (arith, ints) }
