-- Counts fit with the other sign too.
use Rattle.std.proofs.Common.{◌≡◌, ◌∙◌, ap, Bool, true, false, ℤ, pos, neg_ℤ, ◌-ℤ◌, ◌≤ℤ◌, SFits, w32, w64, to_z, of_z, to_z-of_z, arith}
use Rattle.std.proofs.lemmas.Int.{ints}
use Rattle.wb_calibration.specs.Turned.{rising_counts}

pub turned_between : (falling : Bool) (counts : ℤ) → SFits w32 counts → (neg_ℤ (pos 2147483648) ≤ℤ rising_counts falling counts) × (rising_counts falling counts ≤ℤ pos 2147483648)
turned_between true counts f = (omega (arith, ints), omega (arith, ints))
turned_between false counts f = (omega (arith, ints), omega (arith, ints))

-- what the code gives of counts that it passes on
pub turned_passed : (falling : Bool) (counts is : ℤ) → SFits w32 counts → is ≡ rising_counts falling (to_z w32 (of_z w32 counts)) → is ≡ rising_counts falling counts
turned_passed falling counts is f e = e ∙ ap (rising_counts falling) (to_z-of_z f)

-- the difference of two
pub turned_apart : (falling : Bool) (counts others is are : ℤ) → SFits w32 counts → SFits w32 others
    → is ≡ rising_counts falling (to_z w32 (of_z w32 counts)) → are ≡ rising_counts falling (to_z w32 (of_z w32 others))
    → to_z w64 (of_z w64 (to_z w64 (of_z w64 is) -ℤ to_z w64 (of_z w64 are))) ≡ rising_counts falling counts -ℤ rising_counts falling others
turned_apart falling counts others is are f g e h =
    let a = turned_passed falling counts is f e in
    let b = turned_passed falling others are g h in
    omega (arith, ints, a, b, turned_between falling counts f, turned_between falling others g)
