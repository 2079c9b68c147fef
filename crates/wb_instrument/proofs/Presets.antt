-- Preset tares: the intervals of so many grams, and when there are none.
use Rattle.std.proofs.Common.{◌≡◌, ℕ, ◌+◌, ◌*◌, ◌/◌, ◌≤◌, ◌<◌, Option, ℤ, pos, option_map, ◌↔◌, Bool, true, false, cond, ◌&&◌, Some, None, refl, sym, ◌∙◌, ap, arith}
use Rattle.std.proofs.Math.Nat.{mul-le-mul_left}
use Rattle.std.proofs.lemmas.Bool.Decides.{nat_tests}
use Rattle.std.specs.Prelude.{nat_le, nat_lt}
use Rattle.wb_instrument.specs.Setup.{Setup, intervals_in_max}
use Rattle.wb_instrument.specs.Preset.{IsPreset, preset_in_range, preset}

pub in_range-inside : (n m : ℕ) → 1 ≤ m → m ≤ n → preset_in_range n m ≡ Some m
in_range-inside n m p q =
    let low : nat_le 1 m ≡ true = grind (arith, nat_tests) in
    let high : nat_le m n ≡ true = grind (arith, nat_tests) in
    rw (low, high) refl

pub in_range-above : (n m : ℕ) → n < m → preset_in_range n m ≡ None
in_range-above n m p = go (nat_le 1 m)
  where
    high : nat_le m n ≡ false
    high = grind (arith, nat_tests)

    go : (b : Bool) → cond (b && nat_le m n) (Some m) None ≡ None
    go true = rw high refl
    go false = refl

-- what in_range answers is inside
in_range-some : (n q m : ℕ) → preset_in_range n q ≡ Some m → (q ≡ m) × (1 ≤ m) × (m ≤ n)
in_range-some n q m e = go (nat_le 1 q) (nat_le q n) refl refl
  where
    go : (a b : Bool) → nat_le 1 q ≡ a → nat_le q n ≡ b → (q ≡ m) × (1 ≤ m) × (m ≤ n)
    go true true low high =
        let e' : Some q ≡ Some m = rw (low, high) at e in
        let same : q ≡ m = cc in
        let least : 1 ≤ q = grind (arith, nat_tests) in
        let most : q ≤ n = grind (arith, nat_tests) in
        (same, omega arith, omega arith)
    go true false low high = absurd (cc (rw (low, high) at e))
    go false b low high = absurd (cc (rw low at e))

-- more than the greatest preset tare
pub rounded-above : (u n w : ℕ) → 1 ≤ u → (n + 1) * u < w → n < (2 * w + u) / (2 * u)
rounded-above u n w p h = go (nat_lt n ((2 * w + u) / (2 * u))) refl
  where
    go : (b : Bool) → nat_lt n ((2 * w + u) / (2 * u)) ≡ b → n < (2 * w + u) / (2 * u)
    go true e = grind (arith, nat_tests)
    go false e =
        let q : (2 * w + u) / (2 * u) ≤ n = grind (arith, nat_tests) in
        let m : (2 * u) * ((2 * w + u) / (2 * u)) ≤ (2 * u) * n = mul-le-mul_left (2 * u) q in
        absurd (omega arith)

-- the quotient is the only number that the inequalities allow
rounded-only : (u w m : ℕ) → 1 ≤ u → 2 * m * u ≤ 2 * w + u → 2 * w < (2 * m + 1) * u → (2 * w + u) / (2 * u) ≡ m
rounded-only u w m p below above = go (nat_lt m q) (nat_lt q m) refl refl
  where
    q : ℕ
    q = (2 * w + u) / (2 * u)

    go : (a b : Bool) → nat_lt m q ≡ a → nat_lt q m ≡ b → q ≡ m
    go true b e f =
        let l : m + 1 ≤ (2 * w + u) / (2 * u) = grind (arith, nat_tests) in
        let k : (2 * u) * (m + 1) ≤ (2 * u) * ((2 * w + u) / (2 * u)) = mul-le-mul_left (2 * u) l in
        absurd (omega arith)
    go false true e f =
        let l : (2 * w + u) / (2 * u) + 1 ≤ m = grind (arith, nat_tests) in
        let k : (2 * u) * ((2 * w + u) / (2 * u) + 1) ≤ (2 * u) * m = mul-le-mul_left (2 * u) l in
        absurd (omega arith)
    go false false e f = grind (arith, nat_tests)

-- the preset tare is the one that the inequalities give
pub preset-only : (s : Setup) (w m : ℕ) → 1 ≤ s.interval_kg → IsPreset s w m → preset s w ≡ Some m
unfolding preset
preset-only s w m p is =
    let u = 1000 * s.interval_kg in
    let same : (2 * w + u) / (2 * u) ≡ m = rounded-only u w m (omega arith) is.below is.above in
    rw same (in_range-inside (intervals_in_max s) m is.positive is.within_max)

-- the quotient is within the inequalities
rounded-within : (u w m : ℕ) → 1 ≤ u → (2 * w + u) / (2 * u) ≡ m → (2 * m * u ≤ 2 * w + u) × (2 * w < (2 * m + 1) * u)
rounded-within u w m p e =
    let below : 2 * ((2 * w + u) / (2 * u)) * u ≤ 2 * w + u = omega arith in
    let above : 2 * w < (2 * ((2 * w + u) / (2 * u)) + 1) * u = omega arith in
    (rw e at below, rw e at above)

pub IsPreset-preset : (s : Setup) (w m : ℕ) → 1 ≤ s.interval_kg → preset s w ≡ Some m → IsPreset s w m
unfolding preset
IsPreset-preset s w m p e =
    let u = 1000 * s.interval_kg in
    let h = in_range-some (intervals_in_max s) ((2 * w + u) / (2 * u)) m e in
    let k = rounded-within u w m (omega arith) h.0 in
    record { below = k.0; above = k.1; positive = h.1; within_max = h.2 }

-- what the preset tare is says of which number it is
pub exact-from_value : (s : Setup) (w : ℕ) (answer : Option ℤ) → 1 ≤ s.interval_kg → answer ≡ option_map pos (preset s w)
    → (m : ℕ) → (answer ≡ Some (pos m)) ↔ IsPreset s w m
exact-from_value s w answer p e m = (λ is. IsPreset-preset s w m p (only (preset s w) (sym e ∙ is)), λ is. e ∙ ap (option_map pos) (preset-only s w m p is))
  where
    only : (o : Option ℕ) → option_map pos o ≡ Some (pos m) → o ≡ Some m
    only None q = absurd (cc)
    only (Some k) q = cc

-- more than the greatest preset tare is none
pub preset-above : (s : Setup) (w : ℕ) → 1 ≤ s.interval_kg → (intervals_in_max s + 1) * (1000 * s.interval_kg) < w → preset s w ≡ None
unfolding preset
preset-above s w p h = in_range-above (intervals_in_max s) _ (rounded-above (1000 * s.interval_kg) (intervals_in_max s) w (omega arith) h)

-- the quotient that the code computes
pub preset-divided : (s : Setup) (w u n : ℕ) → u ≡ 1000 * s.interval_kg → n ≡ intervals_in_max s → preset_in_range n ((2 * w + u) / (2 * u)) ≡ preset s w
unfolding preset
preset-divided s w u n e k = rw (e, k) refl
