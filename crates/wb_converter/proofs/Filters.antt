-- What every filter shows.
use Rattle.std.proofs.Common.{◌≡◌, ◌∙◌, ap, refl, ℕ, ◌<◌, ◌≤◌, ℤ, pos, negsuc, ◌+ℤ◌, ◌*ℤ◌, ◌≤ℤ◌, List, [], ◌∷◌, ◌++◌, Option, Some, None, length, take, replicate, suc, zero, arith}
use Rattle.std.specs.List.{All, fold}
use Rattle.std.proofs.lemmas.Int.{ints}
use Rattle.std.proofs.lemmas.List.{length-replicate, length-take}
use Rattle.std.proofs.lemmas.List.Elements.{All-head, All-tail, All-replicate}
use Rattle.wb_calibration.specs.declared.filter.Filter.{Filter}
use Rattle.wb_calibration.specs.declared.filter.Filter.TheVariants.{Median, Mean}
use Rattle.wb_calibration.specs.Filter.{readings_of}
use Rattle.wb_calibration.specs.Line.{IsNearest}
use Rattle.wb_calibration.proofs.Products.{mul_cancel}
use Rattle.wb_converter.specs.Filter.{IsMade, IsMadeOf, counts_since_lost, last_counts}
use Rattle.wb_converter.specs.FilterLaws.{FollowsInTime, IsOne, LiesBetween, WaitsAfterLost}
use Rattle.wb_converter.specs.Sample.{sum_of}
use Rattle.wb_converter.proofs.Places.{IsAtPlace-between, IsAtPlace-one}

abbrev IsBetween : ℤ → ℤ → ℤ → Type 0
IsBetween low high counts = (low ≤ℤ counts) × (counts ≤ℤ high)

abbrev AreBetween : ℤ → ℤ → List ℤ → Type 0
AreBetween low high = All (IsBetween low high)

-- ---- means

one_more : (n : ℕ) (z : ℤ) → pos (suc n) *ℤ z ≡ pos n *ℤ z +ℤ z
one_more n (pos z) = omega (arith, ints)
one_more n (negsuc z) = omega (arith, ints)

sum_low : (low high a : ℤ) (counts : List ℤ) → AreBetween low high counts → (a +ℤ pos (length counts) *ℤ low) ≤ℤ fold ◌+ℤ◌ a counts
sum_low low high a [] all = omega (arith, ints)
sum_low low high a (x ∷ xs) all =
    let first = All-head (IsBetween low high) x xs all in
    let rest = sum_low low high (a +ℤ x) xs (All-tail (IsBetween low high) x xs all) in
    omega (arith, ints, first.0, rest, one_more (length xs) low)

sum_high : (low high a : ℤ) (counts : List ℤ) → AreBetween low high counts → fold ◌+ℤ◌ a counts ≤ℤ (a +ℤ pos (length counts) *ℤ high)
sum_high low high a [] all = omega (arith, ints)
sum_high low high a (x ∷ xs) all =
    let first = All-head (IsBetween low high) x xs all in
    let rest = sum_high low high (a +ℤ x) xs (All-tail (IsBetween low high) x xs all) in
    omega (arith, ints, first.1, rest, one_more (length xs) high)

IsNearest-low : (product q low : ℤ) (n : ℕ) → 0 < n → IsNearest product (pos n) q → (pos n *ℤ low) ≤ℤ product → low ≤ℤ q
IsNearest-low product q low n some is h = mul_cancel (pos n) low q (omega (arith, ints)) (omega (arith, ints, is.below, h))

IsNearest-high : (product q high : ℤ) (n : ℕ) → 0 < n → IsNearest product (pos n) q → product ≤ℤ (pos n *ℤ high) → q ≤ℤ high
IsNearest-high product q high n some is h = mul_cancel (pos n) q high (omega (arith, ints)) (omega (arith, ints, is.above, h))

IsNearest-least : (product q r : ℤ) (n : ℕ) → 0 < n → IsNearest product (pos n) q → IsNearest product (pos n) r → q ≤ℤ r
IsNearest-least product q r n some is are = mul_cancel (pos n) q r (omega (arith, ints)) (omega (arith, ints, is.above, are.below))

IsNearest-one : (product q r : ℤ) (n : ℕ) → 0 < n → IsNearest product (pos n) q → IsNearest product (pos n) r → q ≡ r
IsNearest-one product q r n some is are =
    let less = IsNearest-least product q r n some is are in
    let more = IsNearest-least product r q n some are is in
    omega (arith, ints, less, more)

-- ---- all of them

between : (f : Filter) (counts : List ℤ) (x low high : ℤ) → 0 < length counts → IsMade f counts x → AreBetween low high counts → (low ≤ℤ x) × (x ≤ℤ high)
between (Median n) counts x low high some is all =
    let lower = IsAtPlace-between low high counts _ is.lower is.lower_place all in
    let upper = IsAtPlace-between low high counts _ is.upper is.upper_place all in (
      IsNearest-low (is.lower +ℤ is.upper) x low 2 (omega arith) is.middle (omega (arith, ints, lower.0, upper.0)),
      IsNearest-high (is.lower +ℤ is.upper) x high 2 (omega arith) is.middle (omega (arith, ints, lower.1, upper.1)),
    )
between (Mean n) counts x low high some is all = (
  IsNearest-low (sum_of counts) x low (length counts) some is (omega (arith, ints, sum_low low high (pos 0) counts all)),
  IsNearest-high (sum_of counts) x high (length counts) some is (omega (arith, ints, sum_high low high (pos 0) counts all)),
)

pub lies_between : LiesBetween
lies_between f readings x low high some is all = between f (last_counts f readings) x low high (omega (arith, some, is.0)) is.1 all

one : (f : Filter) (counts : List ℤ) (x y : ℤ) → 0 < length counts → IsMade f counts x → IsMade f counts y → x ≡ y
one (Median n) counts x y some is are =
    let lower = IsAtPlace-one counts _ is.lower are.lower is.lower_place are.lower_place in
    let upper = IsAtPlace-one counts _ is.upper are.upper is.upper_place are.upper_place in
    IsNearest-one (is.lower +ℤ is.upper) x y 2 (omega arith) is.middle (rw (lower, upper) are.middle)
one (Mean n) counts x y some is are = IsNearest-one (sum_of counts) x y (length counts) some is are

pub is_one : IsOne
is_one f readings None None some is are = refl
is_one f readings None (Some y) some is are = absurd (omega (arith, is, are.0))
is_one f readings (Some x) None some is are = absurd (omega (arith, is.0, are))
is_one f readings (Some x) (Some y) some is are = ap Some (one f (last_counts f readings) x y (omega (arith, some, is.0)) is.1 are.1)

-- ---- readings

since_few : (since earlier : List (Option ℤ)) → length (counts_since_lost (since ++ None ∷ earlier)) ≤ length since
since_few [] earlier = omega arith
since_few (None ∷ since) earlier = omega arith
since_few (Some counts ∷ since) earlier = omega (arith, since_few since earlier)

pub waits_after_lost : WaitsAfterLost
waits_after_lost f since earlier None few is = refl
waits_after_lost f since earlier (Some x) few is =
    let n = length-take (readings_of f) (counts_since_lost (since ++ None ∷ earlier)) in
    absurd (omega (arith, few, is.0, n, since_few since earlier))

same_since : (n : ℕ) (counts : ℤ) (earlier : List (Option ℤ)) → counts_since_lost (replicate n (Some counts) ++ earlier) ≡ replicate n counts ++ counts_since_lost earlier
same_since zero counts earlier = refl
same_since (suc n) counts earlier = ap (λ l. counts ∷ l) (same_since n counts earlier)

take_same : (n : ℕ) (counts : ℤ) (more : List ℤ) → take n (replicate n counts ++ more) ≡ replicate n counts
take_same zero counts more = refl
take_same (suc n) counts more = ap (λ l. counts ∷ l) (take_same n counts more)

shown : (f : Filter) (counts : ℤ) (value : Option ℤ) → 0 < readings_of f → IsMadeOf f (replicate (readings_of f) counts) value → value ≡ Some counts
shown f counts None some is = absurd (omega (arith, is, length-replicate (readings_of f) counts))
shown f counts (Some x) some is =
    let all : AreBetween counts counts (replicate (readings_of f) counts) = All-replicate (IsBetween counts counts) (readings_of f) counts (omega (arith, ints), omega (arith, ints)) in
    let k = between f (replicate (readings_of f) counts) x counts counts (omega (arith, some, is.0)) is.1 all in
    let same : x ≡ counts = omega (arith, ints, k.0, k.1) in
    ap Some same

pub follows_in_time : FollowsInTime
follows_in_time f earlier counts value some is =
    let n = readings_of f in
    let last : last_counts f (replicate n (Some counts) ++ earlier) ≡ replicate n counts =
    ap (take n) (same_since n counts earlier) ∙ take_same n counts (counts_since_lost earlier) in
    shown f counts value some (rw last at is)
