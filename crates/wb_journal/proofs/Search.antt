-- What a test of some member says, what a search finds, and what holds of each member.
use Rattle.std.proofs.Common.{◌≡◌, ℕ, suc, ◌<◌, get_or, length, arith, Bool, true, false, cond, ◌||◌, inl, inr, List, [], ◌∷◌, ◌++◌, Some, None, refl, sym, ap, subst}
use Rattle.std.specs.List.{find, list_any}
use Rattle.std.specs.Prelude.{All, Any}
use Rattle.wb_journal.proofs.offered.Members.{Among, among-at}

pub list_any-among : {A : Type 0} (p : A → Bool) (x : A) (xs : List A) → Among x xs → p x ≡ true → list_any p xs ≡ true
list_any-among p x [] h e = absurd h
list_any-among p x (y ∷ ys) (inl same) e = let here : p y ≡ true = rw same at e in rw here refl
list_any-among p x (y ∷ ys) (inr h) e = go (p y) (list_any-among p x ys h e)
  where
    go : (b : Bool) → list_any p ys ≡ true → (b || list_any p ys) ≡ true
    go true r = refl
    go false r = r

pub list_any-none : {A : Type 0} (p : A → Bool) (xs : List A) → ((x : A) → Among x xs → p x ≡ false) → list_any p xs ≡ false
list_any-none p [] h = refl
list_any-none p (y ∷ ys) h = rw (h y (inl refl)) (list_any-none p ys (λ x m. h x (inr m)))

pub find-none : {A : Type 0} (p : A → Bool) (xs : List A) (x : A) → find p xs ≡ None → Among x xs → p x ≡ false
find-none p [] x e h = absurd h
find-none p (y ∷ ys) x e h = go (p y) refl (λ r m. find-none p ys x r m)
  where
    go : (b : Bool) → p y ≡ b → (find p ys ≡ None → Among x ys → p x ≡ false) → p x ≡ false
    go true t next = absurd (cc (rw t at e))
    go false t next = here h
      where
        here : Among x (y ∷ ys) → p x ≡ false
        here (inl same) = cc
        here (inr m) = next (rw t at e) m

-- the only one that passes is found
pub find-only : {A : Type 0} (p : A → Bool) (xs : List A) (x : A) → Among x xs → p x ≡ true → ((y : A) → Among y xs → p y ≡ true → y ≡ x)
    → find p xs ≡ Some x
find-only p [] x h e only = absurd h
find-only p (y ∷ ys) x h e only = go (p y) refl h (λ m. find-only p ys x m e (λ z n. only z (inr n)))
  where
    go : (b : Bool) → p y ≡ b → Among x (y ∷ ys) → (Among x ys → find p ys ≡ Some x) → cond (p y) (Some y) (find p ys) ≡ Some x
    go true t m next = rw t (ap Some (only y (inl refl) t))
    go false t (inl same) next = absurd (cc)
    go false t (inr m) next = rw t (next m)

pub among-left : {A : Type 0} (x : A) (xs ys : List A) → Among x xs → Among x (xs ++ ys)
among-left x [] ys h = absurd h
among-left x (z ∷ zs) ys (inl e) = inl e
among-left x (z ∷ zs) ys (inr h) = inr (among-left x zs ys h)

pub among-right : {A : Type 0} (x : A) (xs ys : List A) → Among x ys → Among x (xs ++ ys)
among-right x [] ys h = h
among-right x (z ∷ zs) ys h = inr (among-right x zs ys h)

among-place : {A : Type 0} (x : A) (xs : List A) → Among x xs → (k : ℕ) × ((k < length xs) × (get_or xs k x ≡ x))
among-place x [] h = absurd h
among-place x (y ∷ ys) (inl e) = (0, (omega arith, sym e))
among-place x (y ∷ ys) (inr h) = let r = among-place x ys h in (suc r.0, (omega (arith, r.1.0), r.1.1))

pub all-among : {A : Type 0} (P : A → Type 0) (x : A) (xs : List A) → All P xs → Among x xs → P x
all-among P x xs all h = let r = among-place x xs h in subst P r.1.1 (all r.0 x r.1.0)

pub all-from : {A : Type 0} (P : A → Type 0) (xs : List A) → ((x : A) → Among x xs → P x) → All P xs
all-from P xs h = λ k d lt. h (get_or xs k d) (among-at xs k d lt)

pub any-from : {A : Type 0} (P : A → Type 0) (x : A) (xs : List A) → Among x xs → P x → Any P xs
any-from P x xs h p = let r = among-place x xs h in (r.0, x, r.1.0, r.1.1, p)

pub any-some : {A : Type 0} (P : A → Type 0) (xs : List A) → Any P xs → (x : A) × (Among x xs × P x)
any-some P xs any = (any.1, (subst (λ y. Among y xs) any.3 (among-at xs any.0 any.1 any.2), any.4))
