-- What is rounded on the line of two neighbours.
use Rattle.std.proofs.Common.{◌≡◌, ◌*◌, Bool, ℤ, pos, negsuc, ◌+ℤ◌, ◌-ℤ◌, ◌*ℤ◌, ◌≤ℤ◌, ◌<ℤ◌, arith}
use Rattle.std.proofs.lemmas.Int.{ints}
use Rattle.std.specs.Int.{int_div_euclid}
use Rattle.wb_calibration.specs.declared.segment.Segment.{Segment}
use Rattle.wb_calibration.specs.Line.{IsNearest, IsRoundedOnLine, past, rise, run}
use Rattle.wb_calibration.specs.helpers.Neighbours.{IsSegment}
use Rattle.wb_calibration.specs.Turned.{rising_counts}
use Rattle.wb_calibration.proofs.Products.{mul_keeps, mul_cancel, quotient_down}

-- of two products with the rise, the greater is rounded to no less
rounds_in_order : (run rise less more d e : ℤ) → pos 0 ≤ℤ run → pos 0 ≤ℤ rise → less ≤ℤ more
    → (pos 2 *ℤ (run *ℤ d)) ≤ℤ (pos 2 *ℤ (less *ℤ rise) +ℤ run)
    → (pos 2 *ℤ (more *ℤ rise)) <ℤ (pos 2 *ℤ (run *ℤ e) +ℤ run)
    → d ≤ℤ e
rounds_in_order run rise less more d e r s h above below =
    let k = mul_keeps rise less more s h in
    mul_cancel run d e r (omega (arith, ints, k, above, below))

-- half a run on, divided by the run and rounded down
pub IsNearest-quotient : (product run q : ℤ) → pos 0 <ℤ run → q ≡ int_div_euclid (pos 2 *ℤ product +ℤ run) (pos 2 *ℤ run) → IsNearest product run q
IsNearest-quotient product (pos n) q h e =
    let y = pos 2 *ℤ product +ℤ pos n in
    let k : ((pos (2 * n) *ℤ q) ≤ℤ y) × (y <ℤ (pos (2 * n) *ℤ q +ℤ pos (2 * n))) =
    rw e (quotient_down y (pos (2 * n)) (omega (arith, ints))) in
    record { below = omega (arith, ints, k.1); above = omega (arith, ints, k.0) }
IsNearest-quotient product (negsuc n) q h e = absurd (omega (arith, ints))

pub positive_run : (falling : Bool) (s : Segment) → IsSegment falling s → pos 0 <ℤ run falling s
positive_run falling s is = omega (arith, ints, is.apart.counts)

pub positive_rise : (falling : Bool) (s : Segment) → IsSegment falling s → pos 0 <ℤ rise s
positive_rise falling s is = omega (arith, ints, is.apart.loads)

-- more counts are rounded to no less tenths
pub IsRoundedOnLine-order : (falling : Bool) (s : Segment) → IsSegment falling s → (counts others tenths more : ℤ) → rising_counts falling counts ≤ℤ rising_counts falling others
    → IsRoundedOnLine falling s counts tenths → IsRoundedOnLine falling s others more → tenths ≤ℤ more
IsRoundedOnLine-order falling s is counts others tenths more h is_less is_more =
    let run_is = positive_run falling s is in
    let rise_is = positive_rise falling s is in
    let k : (tenths -ℤ s.lower.tenths) ≤ℤ (more -ℤ s.lower.tenths) =
    rounds_in_order (run falling s) (rise s) (past falling s counts) (past falling s others) _ _ (omega (arith, ints, run_is)) (omega (arith, ints, rise_is)) (omega (arith, ints, h)) is_less.above is_more.below in
    omega (arith, ints, k)

-- nothing is rounded at the points themselves
pub IsRoundedOnLine-lower : (falling : Bool) (s : Segment) → IsSegment falling s → IsRoundedOnLine falling s s.lower.counts s.lower.tenths
IsRoundedOnLine-lower falling s is =
    let counts : past falling s s.lower.counts ≡ pos 0 = omega (arith, ints) in
    let tenths : s.lower.tenths -ℤ s.lower.tenths ≡ pos 0 = omega (arith, ints) in
    let run_is = positive_run falling s is in
    record { below = rw (counts, tenths) (omega (arith, ints, run_is)); above = rw (counts, tenths) (omega (arith, ints, run_is)) }

pub IsRoundedOnLine-upper : (falling : Bool) (s : Segment) → IsSegment falling s → IsRoundedOnLine falling s s.upper.counts s.upper.tenths
IsRoundedOnLine-upper falling s is =
    let run_is = positive_run falling s is in
    record { below = omega (arith, ints, run_is); above = omega (arith, ints, run_is) }

-- the nearest whole number from the lower point on is rounded
pub IsRoundedOnLine-nearest : (falling : Bool) (s : Segment) (counts q tenths : ℤ) → IsNearest (past falling s counts *ℤ rise s) (run falling s) q
    → tenths ≡ s.lower.tenths +ℤ q → IsRoundedOnLine falling s counts tenths
IsRoundedOnLine-nearest falling s counts q tenths near t =
    let d : tenths -ℤ s.lower.tenths ≡ q = omega (arith, ints, t) in
    rw d near
