-- What a search of a list finds.
use Rattle.std.proofs.Common.{◌≡◌, Bool, false, cond, List, [], ◌∷◌, Some, None, find, refl, ap₂}
use Rattle.wb_tables.proofs.Common.{AllByRecursion}

module _ {X : Type 0} (p : X → Bool) where
  pub find_alike : (q : X → Bool) (xs : List X) → AllByRecursion (λ x. p x ≡ q x) xs → find p xs ≡ find q xs
  find_alike q [] h = refl
  find_alike q (x ∷ xs) h = ap₂ (λ b o. cond b (Some x) o) h.0 (find_alike q xs h.1)

  pub find_none : (xs : List X) → AllByRecursion (λ x. p x ≡ false) xs → find p xs ≡ None
  find_none [] h = refl
  find_none (x ∷ xs) h = rw h.0 (find_none xs h.1)
