-- Members of a list, and what a search of it finds, for the crates above.
use Rattle.std.proofs.Common.{◌≡◌, ℕ, zero as nought, suc, ◌<◌, get_or, length, arith, Bool, true, false, ◌⊎◌, inl, inr, List, [], ◌∷◌, ◌++◌, Some, None, refl, subst}
use Rattle.std.specs.List.{find}
use Rattle.std.specs.Prelude.{Contains}

-- x is one of the list
abbrev pub Among : {A : Type 0} → A → List A → Type 0
Among x [] = ⊥
Among x (y ∷ ys) = (x ≡ y) ⊎ Among x ys

pub find-among : {A : Type 0} (p : A → Bool) (xs : List A) (x : A) → find p xs ≡ Some x → Among x xs × (p x ≡ true)
find-among p [] x e = absurd (cc)
find-among p (y ∷ ys) x e = go (p y) refl (λ r. find-among p ys x r)
  where
    go : (b : Bool) → p y ≡ b → (find p ys ≡ Some x → Among x ys × (p x ≡ true)) → Among x (y ∷ ys) × (p x ≡ true)
    go true t next = let same : Some y ≡ Some x = rw t at e in let is : x ≡ y = cc in (inl is, cc)
    go false t next = let r = next (rw t at e) in (inr r.0, r.1)

pub find-absent : {A : Type 0} (p : A → Bool) (xs : List A) → ((x : A) → Among x xs → p x ≡ false) → find p xs ≡ None
find-absent p [] h = refl
find-absent p (y ∷ ys) h = rw (h y (inl refl)) (find-absent p ys (λ x m. h x (inr m)))

pub among-either : {A : Type 0} (x : A) (xs ys : List A) → Among x (xs ++ ys) → Among x xs ⊎ Among x ys
among-either x [] ys h = inr h
among-either x (z ∷ zs) ys (inl e) = inl (inl e)
among-either x (z ∷ zs) ys (inr h) = go (among-either x zs ys h)
  where
    go : Among x zs ⊎ Among x ys → Among x (z ∷ zs) ⊎ Among x ys
    go (inl m) = inl (inr m)
    go (inr m) = inr m

pub among-at : {A : Type 0} (xs : List A) (k : ℕ) (d : A) → k < length xs → Among (get_or xs k d) xs
among-at [] k d h = absurd (omega arith)
among-at (y ∷ ys) nought d h = inl refl
among-at (y ∷ ys) (suc k) d h = inr (among-at ys k d (omega arith))

pub among-contains : {A : Type 0} (x : A) (xs : List A) → Contains xs x → Among x xs
among-contains x xs h = subst (λ y. Among y xs) h.2 (among-at xs h.0 x h.1)
