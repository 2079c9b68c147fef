-- The two points whose line holds are those between which the counts lie.
use Rattle.std.proofs.Common.{◌≡◌, refl, ap, ℕ, suc, ◌+◌, ◌⊎◌, inl, inr, Bool, true, false, ℤ, ◌≤ℤ◌, ◌<ℤ◌, List, [], ◌∷◌, length, slice_get, Option, Some, unwrap_or, if◌then◌else◌, arith}
use Rattle.std.proofs.lemmas.Int.{ints}
use Rattle.wb_calibration.specs.declared.point.Point.{Point}
use Rattle.wb_calibration.specs.declared.segment.Segment.{Segment}
use Rattle.wb_calibration.specs.Laws.{AllBetween}
use Rattle.wb_calibration.specs.Line.{stands_for_less, segment_among}
use Rattle.wb_calibration.specs.Turned.{counts_fall, rising_counts}

-- whichever way the counts go
record LieFrom (falling : Bool) (points : List Point) (counts : ℤ) (s : Segment) : Type 0 where
  pub place : ℕ
  pub lower : slice_get points place ≡ Some s.lower
  pub upper : slice_get points (place + 1) ≡ Some s.upper
  pub from : (place ≡ 0) ⊎ (rising_counts falling s.lower.counts ≤ℤ rising_counts falling counts)
  pub to : (place + 2 ≡ length points) ⊎ (rising_counts falling counts <ℤ rising_counts falling s.upper.counts)

choose : {A : Type 0} (b : Bool) (x y : A) (P : A → Type 0) → (b ≡ true → P x) → (b ≡ false → P y) → P (if b then x else y)
choose true x y P f g = f refl
choose false x y P f g = g refl

-- the same with a point before them, which the counts pass
LieFrom-more : (falling : Bool) (lower upper : Point) (above : List Point) (counts : ℤ) (s : Segment) → rising_counts falling upper.counts ≤ℤ rising_counts falling counts
    → LieFrom falling (upper ∷ above) counts s → LieFrom falling (lower ∷ upper ∷ above) counts s
LieFrom-more falling lower upper above counts s passed k =
    let next : suc k.place + 1 ≡ suc (k.place + 1) = omega arith in
    let first : k.place ≡ 0 → rising_counts falling s.lower.counts ≤ℤ rising_counts falling counts = λ z.
    let e : upper ≡ s.lower = ap (λ (o : Option Point). unwrap_or o upper) (rw z at k.lower) in
    rw (← e) passed in
    record {
      place = suc k.place;
      lower = k.lower;
      upper = rw next k.upper;
      from = elim k.from as (λ _. (suc k.place ≡ 0) ⊎ (rising_counts falling s.lower.counts ≤ℤ rising_counts falling counts)) [ inl z ↦ inr (first z) | inr h ↦ inr h ];
      to = elim k.to as (λ _. (suc k.place + 2 ≡ length (lower ∷ upper ∷ above)) ⊎ (rising_counts falling counts <ℤ rising_counts falling s.upper.counts)) [ inl z ↦ inl (omega (arith, z)) | inr h ↦ inr h ];
    }

between_from : (falling : Bool) (lower upper : Point) (above : List Point) (counts : ℤ) → LieFrom falling (lower ∷ upper ∷ above) counts (segment_among falling lower upper above counts)
between_from falling lower upper [] counts = record { place = 0; lower = refl; upper = refl; from = inl refl; to = inl (omega arith) }
between_from falling lower upper (next ∷ above) counts =
    choose (stands_for_less falling counts upper.counts) (record { lower = lower; upper = upper }) (segment_among falling upper next above counts)
    (λ s. LieFrom falling (lower ∷ upper ∷ next ∷ above) counts s)
    (λ e. record { place = 0; lower = refl; upper = refl; from = inl refl; to = inr (omega (arith, ints, e)) })
    (λ e. LieFrom-more falling lower upper (next ∷ above) counts (segment_among falling upper next above counts) (omega (arith, ints, e)) (between_from falling upper next above counts))

pub all_between : AllBetween
all_between [] counts s e = absurd (cc)
all_between (p ∷ []) counts s e = absurd (cc)
all_between (p ∷ q ∷ rest) counts s e =
    let is : segment_among (counts_fall (p ∷ q ∷ rest)) p q rest counts ≡ s = ap (λ (o : Option Segment). unwrap_or o s) e in
    let found = between_from (counts_fall (p ∷ q ∷ rest)) p q rest counts in
    let k = rw is at found in
    record { place = k.place; lower = k.lower; upper = k.upper; from = k.from; to = k.to }
