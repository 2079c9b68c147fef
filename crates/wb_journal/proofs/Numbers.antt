-- The least number that passes a test, among the numbers below one.
use Rattle.std.proofs.Common.{◌≡◌, ℕ, zero as nought, suc, ◌<◌, ◌≤◌, Bool, true, false, [], ◌∷◌, Some, None, refl, sym, ◌∙◌, ap, arith}
use Rattle.std.proofs.lemmas.Bool.{ltb-true, ltb-false}
use Rattle.std.proofs.lemmas.List.Folds.{find-append}
use Rattle.std.specs.List.{find}
use Rattle.std.specs.Option.{option_or}
use Rattle.std.specs.Prelude.{nat_lt}
use Rattle.wb_journal.specs.Check.{numbers_below}

module _ (p : ℕ → Bool) where
  one-more : (m : ℕ) → find p (numbers_below (suc m)) ≡ option_or (find p (numbers_below m)) (find p (m ∷ []))
  one-more m = find-append p (numbers_below m) (m ∷ [])

  pub least-none : (m : ℕ) → ((k : ℕ) → k < m → p k ≡ false) → find p (numbers_below m) ≡ None
  least-none nought none = refl
  least-none (suc m) none =
      let rest : find p (numbers_below m) ≡ None = least-none m (λ k low. none k (omega arith)) in
      let here : p m ≡ false = none m (omega arith) in
      let alone : find p (m ∷ []) ≡ None = rw here refl in
      one-more m ∙ ap (λ o. option_or o (find p (m ∷ []))) rest ∙ alone

  pub least-some : (m n : ℕ) → n < m → p n ≡ true → ((k : ℕ) → k < n → p k ≡ false) → find p (numbers_below m) ≡ Some n
  least-some nought n low is none = absurd (omega arith)
  least-some (suc m) n low is none = go (nat_lt n m) refl (λ h. least-some m n h is none)
    where
      go : (b : Bool) → nat_lt n m ≡ b → (n < m → find p (numbers_below m) ≡ Some n) → find p (numbers_below (suc m)) ≡ Some n
      go true t rest = one-more m ∙ ap (λ o. option_or o (find p (m ∷ []))) (rest (ltb-true n m t))
      go false t before =
          let high : m ≤ n = ltb-false n m t in
          let same : m ≡ n = omega arith in
          let here : p m ≡ true = ap p same ∙ is in
          let alone : find p (m ∷ []) ≡ Some m = rw here refl in
          let rest : find p (numbers_below m) ≡ None = least-none m (λ k below. none k (omega arith)) in
          one-more m ∙ ap (λ o. option_or o (find p (m ∷ []))) rest ∙ alone ∙ ap Some same

-- two tests that agree find the same number
pub least-same : (p q : ℕ → Bool) (m : ℕ) → ((k : ℕ) → p k ≡ q k) → find p (numbers_below m) ≡ find q (numbers_below m)
least-same p q nought same = refl
least-same p q (suc m) same =
    let alone : find p (m ∷ []) ≡ find q (m ∷ []) = rw (same m) refl in
    one-more p m ∙ ap (λ o. option_or o (find p (m ∷ []))) (least-same p q m same) ∙ ap (option_or (find q (numbers_below m))) alone ∙ sym (one-more q m)
