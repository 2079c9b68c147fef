-- Counts at a place of their order.
use Rattle.std.proofs.Common.{◌≡◌, ap, refl, ℕ, ◌+◌, ◌-◌, ◌/◌, ◌<◌, ◌≤◌, true, false, ℤ, pos, ◌+ℤ◌, ◌≤ℤ◌, ◌<ℤ◌, List, [], ◌∷◌, length, suc, Some, unwrap_or, zero, slice_index_or, if◌then◌else◌, arith}
use Rattle.std.specs.Prelude.{int_lt, int_le, slice_get}
use Rattle.std.specs.List.{All}
use Rattle.std.specs.List.Sorted.{IsPermutation, IsSorted}
use Rattle.std.specs.Ordering.{int_cmp, is_lt}
use Rattle.std.proofs.lemmas.Int.{by_lt_z, ints}
use Rattle.std.proofs.lemmas.List.Elements.{All-head, All-tail}
use Rattle.std.proofs.lemmas.List.Sums.{sum_by-cons}
use Rattle.std.proofs.lemmas.List.Sorted.{length_permutation, sum_by-IsPermutation}
use Rattle.std.proofs.lemmas.Option.{slice_get-get_or}
use Rattle.wb_calibration.specs.Line.{IsNearest}
use Rattle.wb_converter.specs.Filter.{IsAtPlace, IsMedian, how_many_below, how_many_up_to}

abbrev below : ℤ → ℤ → ℕ
below x counts = if int_lt counts x then 1 else 0

abbrev up_to : ℤ → ℤ → ℕ
up_to x counts = if int_le counts x then 1 else 0

-- ---- counts in order

abbrev AreFrom : ℤ → List ℤ → Type 0
AreFrom x [] = Unit {0}
AreFrom x (y ∷ ys) = (x ≤ℤ y) × AreFrom x ys

abbrev AreRising : List ℤ → Type 0
AreRising [] = Unit {0}
AreRising (x ∷ xs) = AreFrom x xs × AreRising xs

not_less : (x y : ℤ) → is_lt (int_cmp x y) ≡ false → y ≤ℤ x
not_less x y h = elim (int_lt x y) as (λ v. int_lt x y ≡ v → y ≤ℤ x) [ true ↦ λ e. absurd (cc (e, h)) | false ↦ λ e. grind (arith, ints, e) ] refl

AreFrom-weaker : (x y : ℤ) (ys : List ℤ) → x ≤ℤ y → AreFrom y ys → AreFrom x ys
AreFrom-weaker x y [] h a = tt
AreFrom-weaker x y (z ∷ zs) h a = (omega (arith, ints, h, a.0), AreFrom-weaker x y zs h a.1)

rising : (xs : List ℤ) → IsSorted int_cmp xs → AreRising xs
rising [] s = tt
rising (x ∷ []) s = (tt, tt)
rising (x ∷ y ∷ ys) s =
    let rest = rising (y ∷ ys) (λ k d l h.
    let next : k + 1 ≡ suc k = omega arith in
    let after : suc k + 1 ≡ suc (k + 1) = omega arith in
    rw after at (s (suc k) d (omega arith) (omega (arith, h)))) in
    let first : x ≤ℤ y = not_less y x (s 0 x (omega arith) (omega arith)) in
    ((first, AreFrom-weaker x y ys first rest.0), rest)

below-cons : (x y : ℤ) (ys : List ℤ) → how_many_below x (y ∷ ys) ≡ below x y + how_many_below x ys
below-cons x y ys = sum_by-cons (below x) y ys

up_to-cons : (x y : ℤ) (ys : List ℤ) → how_many_up_to x (y ∷ ys) ≡ up_to x y + how_many_up_to x ys
up_to-cons x y ys = sum_by-cons (up_to x) y ys

not_below : (x y : ℤ) → x ≤ℤ y → below x y ≡ 0
not_below x y h =
    let no : int_lt y x ≡ false = grind (arith, ints, h) in
    rw no refl

is_up_to : (x y : ℤ) → y ≤ℤ x → up_to x y ≡ 1
is_up_to x y h =
    let yes : int_le y x ≡ true = grind (arith, ints, h) in
    rw yes refl

is_below : (x y : ℤ) → y <ℤ x → below x y ≡ 1
is_below x y h =
    let yes : int_lt y x ≡ true = grind (arith, ints, h) in
    rw yes refl

not_up_to : (x y : ℤ) → x <ℤ y → up_to x y ≡ 0
not_up_to x y h =
    let no : int_le y x ≡ false = grind (arith, ints, h) in
    rw no refl

at_most_one : (x y : ℤ) → below x y ≤ 1
at_most_one x y = elim (int_lt y x) as (λ v. (if v then 1 else 0) ≤ 1) [ true ↦ omega arith | false ↦ omega arith ]

none_below : (x : ℤ) (xs : List ℤ) → AreFrom x xs → how_many_below x xs ≡ 0
none_below x [] a = refl
none_below x (y ∷ ys) a = omega (arith, below-cons x y ys, not_below x y a.0, none_below x ys a.1)

from_at : (x : ℤ) (ys : List ℤ) → AreFrom x ys → (place : ℕ) (y : ℤ) → slice_get ys place ≡ Some y → x ≤ℤ y
from_at x [] a place y e = absurd (cc e)
from_at x (z ∷ zs) a zero y e =
    let same : z ≡ y = ap (λ o. unwrap_or o y) e in
    rw same at a.0
from_at x (z ∷ zs) a (suc place) y e = from_at x zs a.1 place y e

-- of rising counts the one at a place stands at that place
placed : (xs : List ℤ) → AreRising xs → (place : ℕ) (x : ℤ) → slice_get xs place ≡ Some x → IsAtPlace xs place x
placed [] r place x e = absurd (cc e)
placed (y ∷ ys) r zero x e =
    let same : y ≡ x = ap (λ o. unwrap_or o x) e in
    let from : AreFrom x ys = rw same at r.0 in
    record {
      below = omega (arith, below-cons x y ys, not_below x y (omega (arith, ints, same)), none_below x ys from);
      up_to = omega (arith, up_to-cons x y ys, is_up_to x y (omega (arith, ints, same)));
    }
placed (y ∷ ys) r (suc place) x e =
    let is = placed ys r.1 place x e in
    record {
      below = omega (arith, below-cons x y ys, at_most_one x y, is.below);
      up_to = omega (arith, up_to-cons x y ys, is_up_to x y (from_at y ys r.0 place x e), is.up_to);
    }

-- so it does of the same counts in any order
pub IsAtPlace-sorted : (counts sorted : List ℤ) → IsPermutation counts sorted → IsSorted int_cmp sorted → (place : ℕ) (x : ℤ) → slice_get sorted place ≡ Some x
    → IsAtPlace counts place x
IsAtPlace-sorted counts sorted same order place x e =
    let is = placed sorted (rising sorted order) place x e in
    let b : how_many_below x sorted ≡ how_many_below x counts = sum_by-IsPermutation (below x) counts sorted same in
    let u : how_many_up_to x sorted ≡ how_many_up_to x counts = sum_by-IsPermutation (up_to x) counts sorted same in
    record { below = omega (arith, b, is.below); up_to = omega (arith, u, is.up_to) }

pub IsMedian-sorted : (counts sorted : List ℤ) (d e x : ℤ) → 0 < length counts → IsPermutation counts sorted → IsSorted int_cmp sorted
    → IsNearest (slice_index_or sorted ((length sorted - 1) / 2) d +ℤ slice_index_or sorted (length sorted / 2) e) (pos 2) x → IsMedian counts x
IsMedian-sorted counts sorted d e x some same order middle =
    let n : length sorted ≡ length counts = length_permutation counts sorted same in
    let lower = slice_get-get_or sorted ((length counts - 1) / 2) d (omega (arith, n, some)) in
    let upper = slice_get-get_or sorted (length counts / 2) e (omega (arith, n, some)) in
    record {
      lower = slice_index_or sorted ((length counts - 1) / 2) d;
      upper = slice_index_or sorted (length counts / 2) e;
      lower_place = IsAtPlace-sorted counts sorted same order ((length counts - 1) / 2) _ lower;
      upper_place = IsAtPlace-sorted counts sorted same order (length counts / 2) _ upper;
      middle = rw n at middle;
    }

-- ---- bounds, and no two at one place

reached : (low high x : ℤ) (counts : List ℤ) → how_many_below x counts < how_many_up_to x counts
    → All (λ c. (low ≤ℤ c) × (c ≤ℤ high)) counts → (low ≤ℤ x) × (x ≤ℤ high)
reached low high x [] more all = absurd (omega (arith, more))
reached low high x (y ∷ ys) more all =
    let first = All-head (λ c. (low ≤ℤ c) × (c ≤ℤ high)) y ys all in
    let rest = λ (h : how_many_below x ys < how_many_up_to x ys). reached low high x ys h (All-tail (λ c. (low ≤ℤ c) × (c ≤ℤ high)) y ys all) in
    let b = below-cons x y ys in
    let u = up_to-cons x y ys in
    by_lt_z x y
    (λ above. rest (omega (arith, more, b, u, not_below x y (omega (arith, ints, above)), not_up_to x y above)))
    (λ under. by_lt_z y x
    (λ less. rest (omega (arith, more, b, u, is_below x y less, is_up_to x y (omega (arith, ints, less)))))
    (λ same. (omega (arith, ints, under, same, first.0), omega (arith, ints, under, same, first.1))))

pub IsAtPlace-between : (low high : ℤ) (counts : List ℤ) (place : ℕ) (x : ℤ) → IsAtPlace counts place x → All (λ c. (low ≤ℤ c) × (c ≤ℤ high)) counts
    → (low ≤ℤ x) × (x ≤ℤ high)
IsAtPlace-between low high counts place x is all = reached low high x counts (omega (arith, is.below, is.up_to)) all

fewer : (x y : ℤ) → x <ℤ y → (counts : List ℤ) → how_many_up_to x counts ≤ how_many_below y counts
fewer x y h [] = omega arith
fewer x y h (z ∷ zs) =
    let b = below-cons y z zs in
    let u = up_to-cons x z zs in
    let rest = fewer x y h zs in
    by_lt_z x z
    (λ above. omega (arith, b, u, rest, not_up_to x z above))
    (λ under. omega (arith, b, u, rest, is_up_to x z under, is_below y z (omega (arith, ints, h, under))))

pub IsAtPlace-one : (counts : List ℤ) (place : ℕ) (x y : ℤ) → IsAtPlace counts place x → IsAtPlace counts place y → x ≡ y
IsAtPlace-one counts place x y is are =
    by_lt_z x y
    (λ less. absurd (omega (arith, fewer x y less counts, is.up_to, are.below)))
    (λ most. by_lt_z y x
    (λ more. absurd (omega (arith, fewer y x more counts, are.up_to, is.below)))
    (λ least. omega (arith, ints, most, least)))
