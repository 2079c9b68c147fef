-- Members of lists of entries.
use Rattle.std.proofs.Common.{◌≡◌, ◌∙◌, sym, ap, ℕ, suc, ◌<◌, ◌≤◌, nat_le, nat_lt, Bool, true, false, cond, ◌||◌, inl, inr, List, [], ◌∷◌, ◌++◌, map, refl, arith, true≢false}
use Rattle.wb_office.proofs.Common.{nat_tests, list_any, Contains, EntryParts, kept, Among, entries_below, spent_by}

pub contains : {A : Type 0} (x : A) (xs : List A) → Among x xs → Contains xs x
contains x [] h = absurd h
contains x (y ∷ ys) (inl e) = (0, omega arith, sym e)
contains x (y ∷ ys) (inr h) = let r = contains x ys h in (suc r.0, omega (arith, r.1), r.2)

pub among_left : {A : Type 0} (x : A) (xs ys : List A) → Among x xs → Among x (xs ++ ys)
among_left x [] ys h = absurd h
among_left x (z ∷ zs) ys (inl e) = inl e
among_left x (z ∷ zs) ys (inr h) = inr (among_left x zs ys h)

pub among_right : {A : Type 0} (x : A) (xs ys : List A) → Among x ys → Among x (xs ++ ys)
among_right x [] ys h = h
among_right x (z ∷ zs) ys h = inr (among_right x zs ys h)

-- a member that passes a test is one that does, and none passes one by which nothing is found
pub some_passes : {A : Type 0} (p : A → Bool) (x : A) (xs : List A) → Among x xs → p x ≡ true → list_any p xs ≡ true
some_passes p x [] h e = absurd h
some_passes p x (y ∷ ys) (inl same) e = let here : p y ≡ true = ap p (sym same) ∙ e in rw here refl
some_passes p x (y ∷ ys) (inr h) e = go (p y) (some_passes p x ys h e)
  where
    go : (b : Bool) → list_any p ys ≡ true → (b || list_any p ys) ≡ true
    go true r = refl
    go false r = r

pub none_passes : {A : Type 0} (p : A → Bool) (x : A) (xs : List A) → list_any p xs ≡ false → Among x xs → p x ≡ false
none_passes p x xs none h = go (p x) refl
  where
    go : (b : Bool) → p x ≡ b → p x ≡ false
    go true t = absurd (true≢false (sym (some_passes p x xs h t) ∙ none))
    go false t = t

-- ---- a purge

pub among_kept : (b : ℕ) (es : List EntryParts) (x : EntryParts) → Among x (kept b es) → Among x es × (b ≤ x.number)
among_kept b [] x m = absurd m
among_kept b (e ∷ es) x m = go (nat_le b e.number) refl (λ n. among_kept b es x n) m
  where
    high : nat_le b e.number ≡ true → x ≡ e → b ≤ x.number
    high t same = let numbers : x.number ≡ e.number = ap (λ z. z.number) same in let low : b ≤ e.number = grind (arith, nat_tests) in omega arith

    go : (k : Bool) → nat_le b e.number ≡ k → (Among x (kept b es) → Among x es × (b ≤ x.number)) → Among x (cond k (e ∷ kept b es) (kept b es)) → Among x (e ∷ es) × (b ≤ x.number)
    go true t rest (inl same) = (inl same, high t same)
    go true t rest (inr n) = let r = rest n in (inr r.0, r.1)
    go false t rest n = let r = rest n in (inr r.0, r.1)

-- an entry from the bound on is kept
pub kept_among : (b : ℕ) (es : List EntryParts) (x : EntryParts) → Among x es → b ≤ x.number → Among x (kept b es)
kept_among b [] x m high = absurd m
kept_among b (e ∷ es) x m high = go (nat_le b e.number) refl (λ n. kept_among b es x n high) m
  where
    low : nat_le b e.number ≡ false → x ≡ e → ⊥
    low t same = let numbers : x.number ≡ e.number = ap (λ z. z.number) same in let under : e.number < b = grind (arith, nat_tests) in omega arith

    go : (k : Bool) → nat_le b e.number ≡ k → (Among x es → Among x (kept b es)) → Among x (e ∷ es) → Among x (cond k (e ∷ kept b es) (kept b es))
    go true t rest (inl same) = inl same
    go true t rest (inr n) = inr (rest n)
    go false t rest (inl same) = absurd (low t same)
    go false t rest (inr n) = rest n

-- the key of one below it is spent, with its number
pub spent_among : (b : ℕ) (es : List EntryParts) (x : EntryParts) → Among x es → x.number < b → Among (spent_by x) (map spent_by (entries_below b es))
spent_among b [] x m low = absurd m
spent_among b (e ∷ es) x m low = go (nat_lt e.number b) refl (λ n. spent_among b es x n low) m
  where
    not_low : nat_lt e.number b ≡ false → x ≡ e → ⊥
    not_low t same = let numbers : x.number ≡ e.number = ap (λ z. z.number) same in let over : b ≤ e.number = grind (arith, nat_tests) in omega arith

    go : (k : Bool) → nat_lt e.number b ≡ k → (Among x es → Among (spent_by x) (map spent_by (entries_below b es))) → Among x (e ∷ es)
        → Among (spent_by x) (map spent_by (cond k (e ∷ entries_below b es) (entries_below b es)))
    go true t rest (inl same) = inl (ap spent_by same)
    go true t rest (inr n) = inr (rest n)
    go false t rest (inl same) = absurd (not_low t same)
    go false t rest (inr n) = rest n
