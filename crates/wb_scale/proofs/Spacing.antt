-- Steps of zero tracking are the tracking gap apart, so any readings in a row that come in a second hold five at most.
use Rattle.std.proofs.Common.{◌≡◌, ℕ, suc, zero as nought, ◌+◌, ◌-◌, ◌*◌, ◌≤◌, Bool, true, false, ◌&&◌, cond, List, [], ◌∷◌, take, drop, ◌⊎◌, inl, inr, refl, sym, ◌∙◌, ap, subst, ℤ, pos, arith, Some, None}
use Rattle.std.proofs.Math.Nat.{mul-le-mul_left}
use Rattle.std.proofs.lemmas.List.Sums.{sum_by-cons}
use Rattle.std.proofs.lemmas.Bool.Decides.{nat_tests}
use Rattle.std.specs.Prelude.{nat_lt, not, count_by}
use Rattle.std.specs.List.{list_all}
use Rattle.std.specs.Ordering.{int_eq}
use Rattle.wb_instrument.specs.Limits.{readings_a_step, farthest_zero}
use Rattle.wb_instrument.specs.Setup.{Setup}
use Rattle.wb_window.specs.Stability.{is_stable}
use Rattle.wb_window.specs.declared.reading.Reading.{Reading}
use Rattle.wb_scale.specs.Call.{Call, read, read_for_zero, set_zero, tare, preset, clear_tare, stored}
use Rattle.wb_scale.specs.Drift.{FiveAtMost, is_step}
use Rattle.wb_scale.specs.History.{moments}
use Rattle.wb_scale.specs.Moment.{Moment, readings}
use Rattle.wb_scale.specs.Tracking.{is_quiet, step_at, step_to, steps}
use Rattle.wb_scale.specs.Zero.{load_of, zero_now}
use Rattle.wb_scale.proofs.Moments.{steps-none, steps-taken}

-- none of the first n is a step
abbrev still : ℕ → List ℤ → Bool
still n xs = list_all (λ d. int_eq d (pos 0)) (take n xs)

-- after each step, going back, there are g readings with none
abbrev Spaced : ℕ → List ℤ → Type 0
Spaced g [] = Unit {0}
Spaced g (d ∷ xs) = (is_step d ≡ true → still g xs ≡ true) × Spaced g xs

Spaced-drop : (g n : ℕ) (xs : List ℤ) → Spaced g xs → Spaced g (drop n xs)
Spaced-drop g nought xs s = s
Spaced-drop g (suc n) [] s = tt
Spaced-drop g (suc n) (d ∷ xs) s = Spaced-drop g n xs s.1

-- with the first j still, a step in the first m costs g + 1 places
abbrev Few : ℕ → ℕ → ℕ → List ℤ → Type 0
Few g j m xs = (count_by is_step (take m xs) ≡ 0) ⊎ (((g + 1) * count_by is_step (take m xs)) + j ≤ m + g)

few-cons : (g m : ℕ) (d : ℤ) (xs : List ℤ) (b : Bool) → int_eq d (pos 0) ≡ b → (is_step d ≡ true → still g xs ≡ true) → ((j : ℕ) → still j xs ≡ true → Few g j m xs) → (j : ℕ) → still j (d ∷ xs) ≡ true → Few g j (suc m) (d ∷ xs)
few-cons g m d xs true e s ih nought q =
    let n = count_by is_step (take m xs) in
    let t : count_by is_step (take (suc m) (d ∷ xs)) ≡ 0 + n = sum_by-cons (λ x. cond (is_step x) 1 0) d (take m xs) ∙ ap (λ (b : Bool). cond (not b) 1 0 + n) e in
    subst (λ (c : ℕ). (c ≡ 0) ⊎ (((g + 1) * c) + 0 ≤ suc m + g)) (sym t) (elim (ih 0 refl) [ inl z ↦ inl (omega arith) | inr l ↦ inr (unmoved n l) ])
  where
    unmoved : (n : ℕ) → ((g + 1) * n) + 0 ≤ m + g → ((g + 1) * (0 + n)) + 0 ≤ suc m + g
    unmoved n l = omega arith
few-cons g m d xs true e s ih (suc j) q =
    let n = count_by is_step (take m xs) in
    let t : count_by is_step (take (suc m) (d ∷ xs)) ≡ 0 + n = sum_by-cons (λ x. cond (is_step x) 1 0) d (take m xs) ∙ ap (λ (b : Bool). cond (not b) 1 0 + n) e in
    let p : still j xs ≡ true = subst (λ (b : Bool). (b && still j xs) ≡ true) e q in
    subst (λ (c : ℕ). (c ≡ 0) ⊎ (((g + 1) * c) + suc j ≤ suc m + g)) (sym t) (elim (ih j p) [ inl z ↦ inl (omega arith) | inr l ↦ inr (unmoved n l) ])
  where
    unmoved : (n : ℕ) → ((g + 1) * n) + j ≤ m + g → ((g + 1) * (0 + n)) + suc j ≤ suc m + g
    unmoved n l = omega arith
few-cons g m d xs false e s ih nought q =
    let n = count_by is_step (take m xs) in
    let t : count_by is_step (take (suc m) (d ∷ xs)) ≡ 1 + n = sum_by-cons (λ x. cond (is_step x) 1 0) d (take m xs) ∙ ap (λ (b : Bool). cond (not b) 1 0 + n) e in
    let moves : is_step d ≡ true = ap not e in
    subst (λ (c : ℕ). (c ≡ 0) ⊎ (((g + 1) * c) + 0 ≤ suc m + g)) (sym t) (inr (elim (ih g (s moves)) [ inl z ↦ rw z (omega arith) | inr l ↦ moved n l ]))
  where
    moved : (n : ℕ) → ((g + 1) * n) + g ≤ m + g → ((g + 1) * (1 + n)) + 0 ≤ suc m + g
    moved n l = omega arith
few-cons g m d xs false e s ih (suc j) q = let p : (false && still j xs) ≡ true = subst (λ (b : Bool). (b && still j xs) ≡ true) e q in absurd (cc)

few : (g j m : ℕ) (xs : List ℤ) → Spaced g xs → still j xs ≡ true → Few g j m xs
few g j nought xs s q = inl refl
few g j (suc m) [] s q = inl refl
few g j (suc m) (d ∷ xs) s q = few-cons g m d xs (int_eq d (pos 0)) refl s.0 (λ k p. few g k m xs s.1 p) j q

step_quiet : (i : Setup) (r : Reading) (ms : List Moment) → is_step (step_at i r ms) ≡ true → is_quiet (readings_a_step i - 1) ms ≡ true
step_quiet i r ms e = go (is_stable i.window i.band (r ∷ readings ms)) (is_quiet (readings_a_step i - 1) ms) (step_to (pos (farthest_zero i)) (zero_now ms) (load_of r)) e
  where
    go : (a b : Bool) (d : ℤ) → is_step (cond (a && b) d (pos 0)) ≡ true → b ≡ true
    go true true d k = refl
    go true false d k = absurd (cc)
    go false b d k = absurd (cc)

spaced-read : (i : Setup) (r : Reading) (ms : List Moment) (m : Moment) → m.reading ≡ Some r → ((m.step ≡ step_at i r ms) ⊎ (m.step ≡ pos 0)) → Spaced (readings_a_step i - 1) (steps ms) → Spaced (readings_a_step i - 1) (steps (m ∷ ms))
spaced-read i r ms m e d s =
    rw (steps-taken m ms r e) (
      elim d [
        | inl a ↦ λ k. step_quiet i r ms (rw a at k)
        | inr a ↦ λ k. absurd (cc (rw a at k))
      ],
      s,
    )

spaced-nothing : (g : ℕ) → Spaced g (steps [])
unfolding steps
spaced-nothing g = tt

spaced-none : (g : ℕ) (m : Moment) (ms : List Moment) → m.reading ≡ None → Spaced g (steps ms) → Spaced g (steps (m ∷ ms))
spaced-none g m ms e s = rw (steps-none m ms e) s

spaced-either : (g : ℕ) (b : Bool) (m n : Moment) (ms : List Moment) → Spaced g (steps (m ∷ ms)) → Spaced g (steps (n ∷ ms)) → Spaced g (steps (cond b m n ∷ ms))
spaced-either g true m n ms s t = s
spaced-either g false m n ms s t = t

spaced : (i : Setup) (h : List Call) → Spaced (readings_a_step i - 1) (steps (moments i h))
spaced i [] = spaced-nothing (readings_a_step i - 1)
spaced i (read r ∷ h) = spaced-read i r (moments i h) _ refl (inl refl) (spaced i h)
spaced i (read_for_zero r ∷ h) =
    spaced-either _ _ _ _ (moments i h) (spaced-read i r (moments i h) _ refl (inr refl) (spaced i h)) (spaced-read i r (moments i h) _ refl (inl refl) (spaced i h))
spaced i (set_zero ∷ h) =
    spaced-either _ _ _ _ (moments i h) (spaced-none _ _ (moments i h) refl (spaced i h)) (spaced-none _ _ (moments i h) refl (spaced i h))
spaced i (tare ∷ h) = spaced-none _ _ (moments i h) refl (spaced i h)
spaced i (preset grams ∷ h) = spaced-none _ _ (moments i h) refl (spaced i h)
spaced i (clear_tare ∷ h) = spaced-none _ _ (moments i h) refl (spaced i h)
spaced i (stored ∷ h) = spaced-none _ _ (moments i h) refl (spaced i h)

five : (k c p : ℕ) → 1 ≤ k → p ≤ 5 * k → (k * c) + 0 ≤ p + (k - 1) → c ≤ 5
five k c p l q h = go (nat_lt 5 c) refl
  where
    go : (t : Bool) → nat_lt 5 c ≡ t → c ≤ 5
    go true e = let more : 6 ≤ c = grind (arith, nat_tests) in let m : k * 6 ≤ k * c = mul-le-mul_left k more in absurd (omega arith)
    go false e = grind (arith, nat_tests)

pub five_at_most : FiveAtMost
five_at_most i is h n =
    let g = readings_a_step i - 1 in
    elim (few g 0 i.pace (drop n (steps (moments i h))) (Spaced-drop g n (steps (moments i h)) (spaced i h)) refl) [
      | inl z ↦ omega arith
      | inr l ↦
          let pace = is.pace in
          let one : 1 ≤ readings_a_step i = omega arith in
          let whole : g + 1 ≡ readings_a_step i = omega arith in
          five (readings_a_step i) (count_by is_step (take i.pace (drop n (steps (moments i h))))) i.pace one (omega arith) (rw whole at l)
    ]
