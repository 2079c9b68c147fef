-- The readings behind a stable indication.
use Rattle.std.proofs.Common.{◌≡◌, ℕ, suc, zero as nought, ◌≤◌, Bool, true, false, ◌&&◌, cond, List, [], ◌∷◌, length, get_or, take, Option, Some, None, option_map, refl, ℤ, pos, ◌-ℤ◌, ◌+ℤ◌, ◌≤ℤ◌, neg_ℤ, ◌+◌, arith}
use Rattle.std.specs.Prelude.{All, int_le, int_lt, nat_le}
use Rattle.std.specs.List.{list_all}
use Rattle.std.proofs.lemmas.Bool.Decides.{nat_tests}
use Rattle.std.proofs.lemmas.Int.{ints}
use Rattle.std.proofs.lemmas.List.{length-take}
use Rattle.std.proofs.lemmas.List.Folds.{list_all_at}
use Rattle.wb_instrument.proofs.offered.Rounding.{IsRounded-round}
use Rattle.wb_instrument.specs.Rounding.{round}
use Rattle.wb_instrument.specs.Setup.{Setup, intervals_in_max}
use Rattle.wb_window.specs.Stability.{are_near, is_stable, near}
use Rattle.wb_window.specs.declared.reading.Reading.{Reading}
use Rattle.wb_window.specs.declared.reading.Reading.TheVariants.{Load, Lost}
use Rattle.wb_scale.specs.declared.answers.Indicated.TheVariants.{Over, Shown, Under}
use Rattle.wb_scale.specs.declared.answers.TareNow.{TareNow}
use Rattle.wb_scale.specs.History.{moments}
use Rattle.wb_scale.specs.Indication.{indicated, indicated_at}
use Rattle.wb_scale.specs.Moment.{readings}
use Rattle.wb_scale.specs.Steady.{IsNear, NearAll}
use Rattle.wb_scale.specs.Tare.{tare_now, tare_tenths}
use Rattle.wb_scale.specs.Zero.{above_zero, last_load, zero_now}

and-left : (a b : Bool) → (a && b) ≡ true → a ≡ true
and-left true b e = refl
and-left false b e = absurd (cc)

and-right : (a b : Bool) → (a && b) ≡ true → b ≡ true
and-right true b e = e
and-right false b e = absurd (cc)

le-true : (a b : ℤ) → int_le a b ≡ true → a ≤ℤ b
le-true a b e = grind (arith, ints)

-- a load near another indicates 1 e more or less at most
near-IsNear : (band : ℕ) (load zero gross : ℤ) (r : Reading) → band ≤ 2 → round (load -ℤ zero) ≡ gross → near band (Load load) r ≡ true → IsNear zero gross r
near-IsNear band load zero gross Lost b e n = absurd (cc)
near-IsNear band load zero gross (Load other) b e n =
    let low = le-true load (other +ℤ pos band) (and-left _ _ n) in
    let high = le-true other (load +ℤ pos band) (and-right (int_le load (other +ℤ pos band)) _ n) in
    let here = IsRounded-round (load -ℤ zero) in
    let there = IsRounded-round (other -ℤ zero) in
    (omega (arith, ints), omega (arith, ints))

all_near : (band : ℕ) (load zero gross : ℤ) (rs : List Reading) → band ≤ 2 → round (load -ℤ zero) ≡ gross → list_all (near band (Load load)) rs ≡ true → All (IsNear zero gross) rs
all_near band load zero gross rs b e n k d l = near-IsNear band load zero gross (get_or rs k d) b e (go (near band (Load load) (get_or rs k d)) refl)
  where
    go : (t : Bool) → near band (Load load) (get_or rs k d) ≡ t → t ≡ true
    go true q = refl
    go false q = absurd (cc (list_all_at (near band (Load load)) rs k d l q, n))

steady : (n band : ℕ) (zero gross : ℤ) (rs : List Reading) → 1 ≤ n → band ≤ 2 → is_stable n band rs ≡ true → option_map round (option_map (λ load. load -ℤ zero) (last_load rs)) ≡ Some gross
    → All (IsNear zero gross) (take n rs)
steady nought band zero gross rs l b s e = absurd (omega arith)
steady (suc n) band zero gross [] l b s e = absurd (cc)
steady (suc n) band zero gross (Lost ∷ rs) l b s e = absurd (cc)
steady (suc n) band zero gross (Load load ∷ rs) l b s e =
    let all : are_near band (Load load ∷ take n rs) ≡ true = and-right (nat_le (suc n) (length (Load load ∷ rs))) _ s in
    let first : list_all (near band (Load load)) (Load load ∷ take n rs) ≡ true = and-left _ _ all in
    let same : round (load -ℤ zero) ≡ gross = cc in
    all_near band load zero gross (Load load ∷ take n rs) b same first

full : (n band : ℕ) (rs : List Reading) → is_stable n band rs ≡ true → length (take n rs) ≡ n
full n band rs s =
    let enough : nat_le n (length rs) ≡ true = and-left _ _ s in
    let l : n ≤ length rs = grind (arith, nat_tests) in
    rw length-take (omega arith)

-- what is shown stable is stable, and its gross is the load above the zero, rounded
shown-stable : (s : Setup) (stable : Bool) (tare : TareNow) (tenths : Option ℤ) (gross net : ℤ) → indicated_at s stable tare tenths ≡ Shown gross net true → (stable ≡ true) × (option_map round tenths ≡ Some gross)
shown-stable s stable tare None gross net e = absurd (cc)
shown-stable s stable tare (Some x) gross net e = go (int_lt (pos (intervals_in_max s + 9)) (round x)) (int_lt (round x) (neg_ℤ (pos 20))) (round x) (round (x -ℤ tare_tenths tare)) e
  where
    go : (a b : Bool) (g n : ℤ) → cond a Over (cond b Under (Shown g n stable)) ≡ Shown gross net true → (stable ≡ true) × (Some g ≡ Some gross)
    go true b g n q = absurd (cc)
    go false true g n q = absurd (cc)
    go false false g n q = (cc, cc)

pub near_all : NearAll
unfolding indicated above_zero
near_all s is h gross net e =
    let ms = moments s h in
    let p = shown-stable s (is_stable s.window s.band (readings ms)) (tare_now ms) (above_zero ms) gross net e in
    let window = is.window in
    let band = is.band in
    (full s.window s.band (readings ms) p.0, steady s.window s.band (zero_now ms) gross (readings ms) (omega arith) (omega arith) p.0 p.1)
