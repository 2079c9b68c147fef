-- The line of a calibration's counts, and its laws.
use Rattle.std.proofs.Common.{◌≡◌, refl, sym, ap, ℕ, zero as nought, suc, Bool, true, false, ℤ, pos, ◌+ℤ◌, ◌*ℤ◌, ◌≤ℤ◌, List, [], ◌∷◌, slice_get, Option, Some, unwrap_or, if◌then◌else◌, arith}
use Rattle.std.proofs.lemmas.Int.{ints}
use Rattle.std.specs.Int.{int_div_euclid}
use Rattle.wb_calibration.specs.declared.point.Point.{Point}
use Rattle.wb_calibration.specs.declared.segment.Segment.{Segment}
use Rattle.wb_calibration.specs.Calibration.{AreBehind, IsPoint}
use Rattle.wb_calibration.specs.Laws.{AllInOrder, AllNear, AllOnLine, ExactAtPoints}
use Rattle.wb_calibration.specs.Line.{IsRoundedOnLine, stands_for_less, past, rise, run, segment_among}
use Rattle.wb_calibration.specs.helpers.Neighbours.{IsSegment}
use Rattle.wb_calibration.specs.Turned.{counts_fall, rising_counts}
use Rattle.wb_calibration.proofs.Rounding.{IsNearest-quotient, IsRoundedOnLine-lower, IsRoundedOnLine-nearest, IsRoundedOnLine-order, IsRoundedOnLine-upper, positive_run}
use Rattle.wb_calibration.proofs.Segments.{IsRoundedOnLine-on_line, IsSegment-from}

-- ---- all counts are on the line
all_rounded : (falling : Bool) (s : Segment) → IsSegment falling s → (counts : ℤ) → (tenths : ℤ) × IsRoundedOnLine falling s counts tenths
all_rounded falling s is counts =
    let product = past falling s counts *ℤ rise s in
    let q = int_div_euclid (pos 2 *ℤ product +ℤ run falling s) (pos 2 *ℤ run falling s) in
    let near = IsNearest-quotient product (run falling s) q (positive_run falling s is) refl in
    (s.lower.tenths +ℤ q, IsRoundedOnLine-nearest falling s counts q (s.lower.tenths +ℤ q) near refl)

pub all_on_line : AllOnLine
all_on_line [] is counts = absurd (omega (arith, is.two))
all_on_line (p ∷ []) is counts = absurd (omega (arith, is.two))
all_on_line (p ∷ q ∷ rest) is counts =
    let falling = counts_fall (p ∷ q ∷ rest) in
    let s = segment_among falling p q rest counts in
    let k = all_rounded falling s (IsSegment-from falling p q rest counts is.in_order.0 is.in_order.1) counts in
    (k.0, record { segment = s; neighbours = refl; rounded = k.1 })

-- ---- at the points
same_point : (p q : Point) → Some p ≡ Some q → q ≡ p
same_point p q e = sym (ap (λ (o : Option Point). unwrap_or o p) e)

-- a calibration's points: each behind the first is one, and above it
behind_at : (falling : Bool) (p : Point) (rest : List Point) → IsPoint p → AreBehind falling p rest
    → (place : ℕ) (q : Point) → slice_get (p ∷ rest) place ≡ Some q → IsPoint q × (rising_counts falling p.counts ≤ℤ rising_counts falling q.counts)
behind_at falling p rest is behind nought q e =
    let k : q ≡ p = same_point p q e in
    rw k (is, omega (arith, ints))
behind_at falling p [] is behind (suc place) q e = absurd (cc)
behind_at falling p (n ∷ rest) is behind (suc place) q e =
    let k = behind_at falling n rest behind.0 behind.2 place q e in
    (k.0, omega (arith, ints, k.1, behind.1.counts))

exact_at : (falling : Bool) (lower upper : Point) (above : List Point) → IsPoint lower → AreBehind falling lower (upper ∷ above)
    → (place : ℕ) (p : Point) → slice_get (lower ∷ upper ∷ above) place ≡ Some p
    → IsRoundedOnLine falling (segment_among falling lower upper above p.counts) p.counts p.tenths
exact_at falling lower upper [] is behind nought p e =
    let s : Segment = record { lower = lower; upper = upper } in
    let k : p ≡ lower = same_point lower p e in
    rw k (IsRoundedOnLine-lower falling s (record { lower = is; upper = behind.0; apart = behind.1 }))
exact_at falling lower upper [] is behind (suc nought) p e =
    let s : Segment = record { lower = lower; upper = upper } in
    let k : p ≡ upper = same_point upper p e in
    rw k (IsRoundedOnLine-upper falling s (record { lower = is; upper = behind.0; apart = behind.1 }))
exact_at falling lower upper [] is behind (suc (suc place)) p e = absurd (cc)
exact_at falling lower upper (next ∷ above) is behind nought p e =
    let s : Segment = record { lower = lower; upper = upper } in
    let k : p ≡ lower = same_point lower p e in
    let below : stands_for_less falling lower.counts upper.counts ≡ true = sym (omega (arith, ints, behind.1.counts)) in
    rw (k, below) (IsRoundedOnLine-lower falling s (record { lower = is; upper = behind.0; apart = behind.1 }))
exact_at falling lower upper (next ∷ above) is behind (suc place) p e =
    let h = behind_at falling upper (next ∷ above) behind.0 behind.2 place p e in
    let reached : stands_for_less falling p.counts upper.counts ≡ false = sym (omega (arith, ints, h.1)) in
    rw reached (exact_at falling upper next above behind.0 behind.2 place p e)

pub exact_at_points : ExactAtPoints
exact_at_points [] is place p e = absurd (cc)
exact_at_points (q ∷ []) is place p e = absurd (omega (arith, is.two))
exact_at_points (q ∷ r ∷ rest) is place p e =
    let falling = counts_fall (q ∷ r ∷ rest) in
    let k = exact_at falling q r rest is.in_order.0 is.in_order.1 place p e in
    let h = behind_at falling q (r ∷ rest) is.in_order.0 is.in_order.1 place p e in
    record {
      on_line = record { segment = segment_among falling q r rest p.counts; neighbours = refl; rounded = k };
      least = omega (arith, ints, h.0.0);
      most = h.0.1;
    }

-- ---- in order
first_cases : {A : Type 0} {B : Type 0} (b : Bool) (x y : A) (P : A → Type 0) → (b ≡ true → P x → B) → (b ≡ false → P y → B) → P (if b then x else y) → B
first_cases true x y P f g k = f refl k
first_cases false x y P f g k = g refl k

-- counts at a point or past it have no less tenths
from_first : (falling : Bool) (lower upper : Point) (above : List Point) → IsPoint lower → AreBehind falling lower (upper ∷ above)
    → (counts tenths : ℤ) → rising_counts falling lower.counts ≤ℤ rising_counts falling counts → IsRoundedOnLine falling (segment_among falling lower upper above counts) counts tenths
    → lower.tenths ≤ℤ tenths
from_first falling lower upper [] is behind counts tenths h r =
    let s : Segment = record { lower = lower; upper = upper } in
    let segment : IsSegment falling s = record { lower = is; upper = behind.0; apart = behind.1 } in
    IsRoundedOnLine-order falling s segment lower.counts counts lower.tenths tenths h (IsRoundedOnLine-lower falling s segment) r
from_first falling lower upper (next ∷ above) is behind counts tenths h r =
    let s : Segment = record { lower = lower; upper = upper } in
    let segment : IsSegment falling s = record { lower = is; upper = behind.0; apart = behind.1 } in
    first_cases (stands_for_less falling counts upper.counts) s (segment_among falling upper next above counts) (λ t. IsRoundedOnLine falling t counts tenths)
    (λ e k. IsRoundedOnLine-order falling s segment lower.counts counts lower.tenths tenths h (IsRoundedOnLine-lower falling s segment) k)
    (λ e k. let more = from_first falling upper next above behind.0 behind.2 counts tenths (omega (arith, ints, e)) k in omega (arith, ints, more, behind.1.loads))
    r

order_from : (falling : Bool) (lower upper : Point) (above : List Point) → IsPoint lower → AreBehind falling lower (upper ∷ above)
    → (counts others tenths more : ℤ) → rising_counts falling counts ≤ℤ rising_counts falling others
    → IsRoundedOnLine falling (segment_among falling lower upper above counts) counts tenths
    → IsRoundedOnLine falling (segment_among falling lower upper above others) others more → tenths ≤ℤ more
order_from falling lower upper [] is behind counts others tenths more h r q =
    let s : Segment = record { lower = lower; upper = upper } in
    IsRoundedOnLine-order falling s (record { lower = is; upper = behind.0; apart = behind.1 }) counts others tenths more h r q
order_from falling lower upper (next ∷ above) is behind counts others tenths more h r q =
    let s : Segment = record { lower = lower; upper = upper } in
    let segment : IsSegment falling s = record { lower = is; upper = behind.0; apart = behind.1 } in
    first_cases (stands_for_less falling counts upper.counts) s (segment_among falling upper next above counts) (λ t. IsRoundedOnLine falling t counts tenths)
    (λ e k. first_cases (stands_for_less falling others upper.counts) s (segment_among falling upper next above others) (λ t. IsRoundedOnLine falling t others more)
    (λ f j. IsRoundedOnLine-order falling s segment counts others tenths more h k j)
    (λ f j. let low = IsRoundedOnLine-order falling s segment counts upper.counts tenths upper.tenths (omega (arith, ints, e)) k (IsRoundedOnLine-upper falling s segment) in
    let high = from_first falling upper next above behind.0 behind.2 others more (omega (arith, ints, f)) j in
    omega (arith, ints, low, high))
    q)
    (λ e k. first_cases (stands_for_less falling others upper.counts) s (segment_among falling upper next above others) (λ t. IsRoundedOnLine falling t others more)
    (λ f j. absurd (omega (arith, ints, e, f, h)))
    (λ f j. order_from falling upper next above behind.0 behind.2 counts others tenths more h k j)
    q)
    r

pub all_in_order : AllInOrder
all_in_order [] is counts others tenths more h r q = absurd (omega (arith, is.two))
all_in_order (a ∷ []) is counts others tenths more h r q = absurd (omega (arith, is.two))
all_in_order (a ∷ b ∷ rest) is counts others tenths more h r q =
    order_from (counts_fall (a ∷ b ∷ rest)) a b rest is.in_order.0 is.in_order.1 counts others tenths more h (IsRoundedOnLine-on_line a b rest counts tenths r) (IsRoundedOnLine-on_line a b rest others more q)

-- ---- near
pub all_near : AllNear
all_near points counts tenths on =
    (omega (arith, ints, on.rounded.above, on.rounded.below), omega (arith, ints, on.rounded.above, on.rounded.below))
