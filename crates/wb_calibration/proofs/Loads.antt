-- The load of counts is the one that is rounded on their segment, if a converter may hand it in.
use Rattle.std.proofs.Common.{◌≡◌, refl, sym, ap, ◌∙◌, ◌-◌, ◌≤◌, ◌⊎◌, ◌↔◌, inl, inr, Bool, true, false, ◌&&◌, ℤ, neg_ℤ, ◌≤ℤ◌, int_le, List, [], ◌∷◌, length, get_or, take, drop, Option, Some, None, unwrap_or, if◌then◌else◌, SFits, w32, to_z, of_z, to_z-of_z, arith}
use Rattle.std.proofs.lemmas.Int.{ints}
use Rattle.std.proofs.lemmas.List.{take_all}
use Rattle.wb_window.specs.Reading.{greatest_load, reading_of}
use Rattle.wb_window.specs.declared.reading.Reading.{Reading}
use Rattle.wb_window.specs.declared.reading.Reading.TheVariants.{Load, Lost}
use Rattle.wb_calibration.specs.declared.point.Point.{Point}
use Rattle.wb_calibration.specs.declared.segment.Segment.{Segment}
use Rattle.wb_calibration.specs.Calibration.{IsCalibration}
use Rattle.wb_calibration.specs.Line.{IsLoadOf, IsOnLine, IsRoundedOnLine, segment_among, segment_of}
use Rattle.wb_calibration.specs.helpers.Neighbours.{IsSegment}
use Rattle.wb_calibration.specs.Turned.{counts_fall}
use Rattle.wb_calibration.proofs.Rounding.{IsRoundedOnLine-order}
use Rattle.wb_calibration.proofs.Segments.{IsSegment-from}

-- the segment that the code finds
pub segment_of-found : (points : List Point) (falling : Bool) (counts : ℤ) (s : Segment) (d : Point) → 2 ≤ length points → falling ≡ counts_fall points
    → s ≡ segment_among falling (get_or points 0 d) (get_or points 1 d) (take (length points - 2) (drop 2 points)) counts → segment_of points counts ≡ Some s
segment_of-found [] falling counts s d n f e = absurd (omega arith)
segment_of-found (p ∷ []) falling counts s d n f e = absurd (omega arith)
segment_of-found (p ∷ q ∷ rest) falling counts s d n f e =
    let all : take (length (p ∷ q ∷ rest) - 2) (drop 2 (p ∷ q ∷ rest)) ≡ rest = take_all _ rest (omega arith) in
    let k : s ≡ segment_among (counts_fall (p ∷ q ∷ rest)) p q rest counts = rw (all, f) at e in
    ap Some (sym k)

-- with what the code passes on
pub segment_of-passed : (points passed : List Point) (falling : Bool) (counts : ℤ) (s : Segment) (d : Point) → passed ≡ points → 2 ≤ length passed → falling ≡ counts_fall passed → SFits w32 counts
    → s ≡ segment_among falling (get_or passed 0 d) (get_or passed 1 d) (take (length passed - 2) (drop 2 passed)) (to_z w32 (of_z w32 counts))
    → segment_of points counts ≡ Some s
segment_of-passed points passed falling counts s d same n f fits e =
    let k = segment_of-found passed falling counts s d n f (rw (to_z-of_z fits) at e) in
    rw same at k

pub IsRoundedOnLine-passed : (points passed : List Point) (falling : Bool) (counts : ℤ) (s : Segment) (rounded : ℤ) → passed ≡ points → falling ≡ counts_fall passed → SFits w32 counts
    → IsRoundedOnLine falling s (to_z w32 (of_z w32 counts)) rounded → IsRoundedOnLine (counts_fall points) s counts rounded
IsRoundedOnLine-passed points passed falling counts s rounded same f fits r =
    let e : falling ≡ counts_fall points = rw same at f in
    rw (to_z-of_z fits, e) at r

-- it is one of neighbours
pub IsSegment-found : (points : List Point) (counts : ℤ) (s : Segment) → IsCalibration points → segment_of points counts ≡ Some s → IsSegment (counts_fall points) s
IsSegment-found [] counts s is e = absurd (omega (arith, is.two))
IsSegment-found (p ∷ []) counts s is e = absurd (omega (arith, is.two))
IsSegment-found (p ∷ q ∷ rest) counts s is e =
    let falling = counts_fall (p ∷ q ∷ rest) in
    let k : s ≡ segment_among falling p q rest counts = sym (ap (λ (o : Option Segment). unwrap_or o s) e) in
    rw k (IsSegment-from falling p q rest counts is.in_order.0 is.in_order.1)

-- tenths on the line are the rounded ones
pub same_tenths : (points : List Point) (counts : ℤ) (s : Segment) (rounded tenths : ℤ) → IsCalibration points → segment_of points counts ≡ Some s
    → IsRoundedOnLine (counts_fall points) s counts rounded → IsOnLine points counts tenths → tenths ≡ rounded
same_tenths points counts s rounded tenths is e r on =
    let k : on.segment ≡ s = ap (λ (o : Option Segment). unwrap_or o s) (sym on.neighbours ∙ e) in
    let t : IsRoundedOnLine (counts_fall points) s counts tenths = rw k at on.rounded in
    let segment = IsSegment-found points counts s is e in
    let a = IsRoundedOnLine-order (counts_fall points) s segment counts counts tenths rounded (omega (arith, ints)) t r in
    let b = IsRoundedOnLine-order (counts_fall points) s segment counts counts rounded tenths (omega (arith, ints)) r t in
    omega (arith, ints, a, b)

abbrev load_or : Reading → ℤ → ℤ
load_or (Load tenths) d = tenths
load_or Lost d = d

-- a reading is lost past the range
abbrev InRange : ℤ → Type 0
InRange tenths = (neg_ℤ greatest_load ≤ℤ tenths) × (tenths ≤ℤ greatest_load)

reading_cases : (tenths : ℤ) → ((reading_of tenths ≡ Load tenths) × InRange tenths) ⊎ ((reading_of tenths ≡ Lost) × ¬ (InRange tenths))
reading_cases tenths = go (int_le (neg_ℤ greatest_load) tenths) (int_le tenths greatest_load) refl refl
  where
    go : (a b : Bool) → int_le (neg_ℤ greatest_load) tenths ≡ a → int_le tenths greatest_load ≡ b
        → (((if a && b then Load tenths else Lost) ≡ Load tenths) × InRange tenths) ⊎ (((if a && b then Load tenths else Lost) ≡ Lost) × ¬ (InRange tenths))
    go true true e f = inl (refl, (omega (arith, ints, e), omega (arith, ints, f)))
    go true false e f = inr (refl, λ h. omega (arith, ints, f, h.1))
    go false b e f = inr (refl, λ h. omega (arith, ints, e, h.0))

-- what the reading of the rounded tenths says of the load
pub load_clause : (points : List Point) (counts : ℤ) (s : Segment) (rounded tenths : ℤ) → IsCalibration points → segment_of points counts ≡ Some s
    → IsRoundedOnLine (counts_fall points) s counts rounded → (read : ℤ) → Load read ≡ reading_of rounded → (Some read ≡ Some tenths) ↔ IsLoadOf points counts tenths
load_clause points counts s rounded tenths is e r read k =
    elim (reading_cases rounded) as (λ _. (Some read ≡ Some tenths) ↔ IsLoadOf points counts tenths) [
      | inl h ↦
          let same : read ≡ rounded = ap (λ v. load_or v read) (k ∙ h.0) in
          let on : IsOnLine points counts rounded = record { segment = s; neighbours = e; rounded = r } in
          let there : Some read ≡ Some tenths → IsLoadOf points counts tenths = λ t.
          let is_rounded : tenths ≡ rounded = ap (λ o. unwrap_or o tenths) (sym t) ∙ same in
          rw is_rounded (record { on_line = on; least = h.1.0; most = h.1.1 }) in
          let back : IsLoadOf points counts tenths → Some read ≡ Some tenths = λ load.
          ap Some (same ∙ sym (same_tenths points counts s rounded tenths is e r load.on_line)) in
          (there, back)
      | inr h ↦ absurd (cc (k, h.0))
    ]

-- and what a lost one says
pub lost_clause : (points : List Point) (counts : ℤ) (s : Segment) (rounded tenths : ℤ) → IsCalibration points → segment_of points counts ≡ Some s
    → IsRoundedOnLine (counts_fall points) s counts rounded → Lost ≡ reading_of rounded → (None ≡ Some tenths) ↔ IsLoadOf points counts tenths
lost_clause points counts s rounded tenths is e r k =
    let there : None ≡ Some tenths → IsLoadOf points counts tenths = λ t. absurd (cc t) in
    let back : IsLoadOf points counts tenths → None ≡ Some tenths = λ load.
    let same = same_tenths points counts s rounded tenths is e r load.on_line in
    elim (reading_cases rounded) as (λ _. None ≡ Some tenths) [
      | inl h ↦ absurd (cc (k, h.0))
      | inr h ↦ absurd (h.1 (rw (← same) (load.least, load.most)))
    ] in
    (there, back)
