-- How large the numbers of a segment are.
use Rattle.std.proofs.Common.{◌≤◌, Bool, ℤ, pos, ◌*ℤ◌, ◌≤ℤ◌, unsigned_abs, SFits, w32, w64, to_z, of_z, to_z-of_z, ◌≡◌, arith}
use Rattle.std.proofs.lemmas.Int.{ints, fits_signed_from_abs, unsigned_abs-mul}
use Rattle.std.proofs.lemmas.Nat.{mul-le}
use Rattle.wb_calibration.specs.declared.segment.Segment.{Segment}
use Rattle.wb_calibration.specs.Line.{past, rise, run}
use Rattle.wb_calibration.specs.helpers.Neighbours.{IsSegment}
use Rattle.wb_calibration.proofs.Turning.{turned_between}

pub run_small : (falling : Bool) (s : Segment) → IsSegment falling s → SFits w32 s.lower.counts → SFits w32 s.upper.counts
    → (pos 100 ≤ℤ run falling s) × (run falling s ≤ℤ pos 4294967296)
run_small falling s is l u =
    let a = turned_between falling s.lower.counts l in
    let b = turned_between falling s.upper.counts u in
    (omega (arith, ints, is.apart.counts), omega (arith, ints, a, b))

pub past_small : (falling : Bool) (s : Segment) (counts : ℤ) → SFits w32 s.lower.counts → SFits w32 counts → unsigned_abs (past falling s counts) ≤ 4294967296
past_small falling s counts l c =
    let a = turned_between falling s.lower.counts l in
    let b = turned_between falling counts c in
    omega (arith, ints, a, b)

pub rise_small : (falling : Bool) (s : Segment) → IsSegment falling s → (pos 100 ≤ℤ rise s) × (rise s ≤ℤ pos 2000000)
rise_small falling s is = (omega (arith, ints, is.apart.loads), omega (arith, ints, is.lower, is.upper))

pub product_small : (falling : Bool) (s : Segment) (counts : ℤ) → IsSegment falling s → SFits w32 s.lower.counts → SFits w32 counts
    → unsigned_abs (past falling s counts *ℤ rise s) ≤ 8589934592000000
product_small falling s counts is l c =
    let k = mul-le (unsigned_abs (past falling s counts)) (unsigned_abs (rise s)) 4294967296 2000000 (past_small falling s counts l c) (omega (arith, ints, rise_small falling s is)) in
    rw unsigned_abs-mul k

-- so it fits, and comes back from its bits as it was
pub product_fits : (falling : Bool) (s : Segment) (counts : ℤ) → IsSegment falling s → SFits w32 s.lower.counts → SFits w32 counts
    → SFits w64 (past falling s counts *ℤ rise s)
product_fits falling s counts is l c =
    let k = product_small falling s counts is l c in
    fits_signed_from_abs w64 (past falling s counts *ℤ rise s) (omega (arith, k))

pub product_passed : (falling : Bool) (s : Segment) (counts : ℤ) → IsSegment falling s → SFits w32 s.lower.counts → SFits w32 counts
    → to_z w64 (of_z w64 (past falling s counts *ℤ rise s)) ≡ past falling s counts *ℤ rise s
product_passed falling s counts is l c = to_z-of_z (product_fits falling s counts is l c)
