-- A key that is stored or spent stays so, and no entry is added under it.
use Rattle.std.proofs.Common.{◌≡◌, ◌∙◌, sym, subst, ℕ, ◌+◌, ◌≤◌, Bool, true, false, cond, not, ◌||◌, if◌then◌else◌, List, [], ◌∷◌, ◌++◌, map, nat_le, nat_lt, ◌⊎◌, inl, inr, Some, None, refl, arith, true≢false}
use Rattle.wb_office.proofs.Common.{nat_tests, list_any-append, sum_by-cons, bytes_eq-Decides, list_any, Contains, count_by, bytes_eq, EntryParts, kept, among-contains, AreLists, entry_by_key, has_key, is_of_key, is_spent, SpentKey, Request, Outcome, adds, entries_below, entries_after, nothing, outcome, purges, spent_by_outcome, spent_by, Asking, Situation, AreBounds, Journal, RequestTurn, added, added_by, additions, after, left, situation_of_turn, with_one, OneEntryPerKey, is_taken, accepted, verdict}
use Rattle.wb_office.proofs.courses.AcceptedEntries.{Comes, added_is, adding, asking_for, comes, is_new, purging, stays}
use Rattle.wb_office.proofs.FoundEntries.{find_none}
use Rattle.wb_office.proofs.courses.KnownEntries.{IsLasting, added_lasts}
use Rattle.wb_office.proofs.courses.StoredEntries.{IsPast, IsStored}

abbrev pub taken_in : List EntryParts → List SpentKey → List ℕ → Bool
taken_in es ks key = list_any (has_key key) es || is_spent ks key

abbrev room : Bool → ℕ
room b = if b then 0 else 1

less_room : (a b : Bool) → (a ≡ true → b ≡ true) → room b ≤ room a
less_room true true h = omega arith
less_room true false h = absurd (true≢false (sym (h refl)))
less_room false true h = omega arith
less_room false false h = omega arith

or_left : (a b : Bool) → a ≡ true → (a || b) ≡ true
or_left true b h = refl
or_left false b h = absurd (cc)

or_right : (a b : Bool) → b ≡ true → (a || b) ≡ true
or_right true b h = refl
or_right false b h = h

or_either : {C : Type 0} (a b : Bool) → (a || b) ≡ true → (a ≡ true → C) → (b ≡ true → C) → C
or_either true b h left right = left refl
or_either false b h left right = right h

any_grows : {X : Type 0} (p : X → Bool) (xs ys : List X) → list_any p xs ≡ true → list_any p (xs ++ ys) ≡ true
any_grows p xs ys h = list_any-append p xs ys ∙ or_left (list_any p xs) (list_any p ys) h

any_behind : {X : Type 0} (p : X → Bool) (xs ys : List X) → list_any p ys ≡ true → list_any p (xs ++ ys) ≡ true
any_behind p xs ys h = list_any-append p xs ys ∙ or_right (list_any p xs) (list_any p ys) h

-- an entry is kept by a purge or its key is spent
kept_or_spent : (b : ℕ) (key : List ℕ) (es : List EntryParts) → list_any (has_key key) es ≡ true
    → (list_any (has_key key) (kept b es) || list_any (is_of_key key) (map spent_by (entries_below b es))) ≡ true
kept_or_spent b key [] h = absurd (cc)
kept_or_spent b key (e ∷ es) h = go (nat_le b e.number) (nat_lt e.number b) (turned b e.number) (bytes_eq e.key key) refl (λ r. kept_or_spent b key es r)
  where
    turned : (m n : ℕ) → nat_lt n m ≡ not (nat_le m n)
    turned m n = grind (arith, nat_tests)

    rest : bytes_eq e.key key ≡ false → list_any (has_key key) es ≡ true
    rest t = rw t at h

    go : (k s : Bool) → s ≡ not k → (a : Bool) → bytes_eq e.key key ≡ a
        → (list_any (has_key key) es ≡ true → (list_any (has_key key) (kept b es) || list_any (is_of_key key) (map spent_by (entries_below b es))) ≡ true)
        → (list_any (has_key key) (cond k (e ∷ kept b es) (kept b es)) || list_any (is_of_key key) (map spent_by (cond s (e ∷ entries_below b es) (entries_below b es)))) ≡ true
    go true true f a t more = absurd (true≢false f)
    go true false f true t more = rw t refl
    go true false f false t more = rw t (more (rest t))
    go false true f true t more = or_right (list_any (has_key key) (kept b es)) (bytes_eq e.key key || list_any (is_of_key key) (map spent_by (entries_below b es))) (rw t refl)
    go false true f false t more = rw t (more (rest t))
    go false false f a t more = absurd (true≢false (sym f))

-- a key that is taken stays so
stays_taken : (w : Situation) (key : List ℕ) (o : Outcome) → taken_in w.entries w.spent key ≡ true → taken_in (entries_after o w.entries) (spent_by_outcome o w.entries w.spent) key ≡ true
stays_taken w key nothing taken = taken
stays_taken w key (adds e) taken =
    or_either (list_any (has_key key) w.entries) (is_spent w.spent key) taken
    (λ h. or_left (list_any (has_key key) (w.entries ++ e ∷ [])) (is_spent w.spent key) (any_grows (has_key key) w.entries (e ∷ []) h))
    (λ h. or_right (list_any (has_key key) (w.entries ++ e ∷ [])) (is_spent w.spent key) h)
stays_taken w key (purges b) taken =
    or_either (list_any (has_key key) w.entries) (is_spent w.spent key) taken
    (λ h. or_either (list_any (has_key key) (kept b w.entries)) (list_any (is_of_key key) (map spent_by (entries_below b w.entries))) (kept_or_spent b key w.entries h)
    (λ k. or_left (list_any (has_key key) (kept b w.entries)) _ k)
    (λ k. or_right (list_any (has_key key) (kept b w.entries)) _ (any_behind (is_of_key key) w.spent (map spent_by (entries_below b w.entries)) k)))
    (λ h. or_right (list_any (has_key key) (kept b w.entries)) _ (any_grows (is_of_key key) w.spent (map spent_by (entries_below b w.entries)) h))

one_of : (key : List ℕ) (e : EntryParts) (es : List EntryParts) → count_by (has_key key) (e ∷ es) ≡ cond (has_key key e) 1 0 + count_by (has_key key) es
one_of key e es = sum_by-cons (λ x. cond (has_key key x) 1 0) e es

-- an entry is added under a key that is free, and takes it
takes_free : (a : Asking) (e : EntryParts) → verdict a ≡ accepted e
    → (taken_in a.now.entries a.now.spent e.key ≡ false) × (taken_in (a.now.entries ++ e ∷ []) a.now.spent e.key ≡ true)
takes_free a e is =
    let new = is_new a e is in
    let key : e.key ≡ a.key = rw new.made refl in
    let free : list_any (has_key a.key) a.now.entries ≡ false = find_none (has_key a.key) a.now.entries new.free in
    let unspent : is_spent a.now.spent a.key ≡ false = new.unspent in (
      rw (key, free, unspent) refl,
      or_left (list_any (has_key e.key) (a.now.entries ++ e ∷ [])) _ (any_behind (has_key e.key) a.now.entries (e ∷ []) (or_left (bytes_eq e.key e.key) false ((bytes_eq-Decides e.key e.key).1 refl))),
    )

-- what a request adds under a key, and whether it is free then
abbrev CountsOne : Situation → List ℕ → List EntryParts → Outcome → Type 0
CountsOne w key before o =
    count_by (has_key key) (with_one (added_by o) before) + room (taken_in (entries_after o w.entries) (spent_by_outcome o w.entries w.spent) key)
    ≤ count_by (has_key key) before + room (taken_in w.entries w.spent key)

one_request : (w : Situation) (b : ℕ) (request : Request) (key : List ℕ) (before : List EntryParts) → CountsOne w key before (outcome w b request)
one_request w b request key before = go (comes w b request)
  where
    less : (o : Outcome) → room (taken_in (entries_after o w.entries) (spent_by_outcome o w.entries w.spent) key) ≤ room (taken_in w.entries w.spent key)
    less o = less_room (taken_in w.entries w.spent key) (taken_in (entries_after o w.entries) (spent_by_outcome o w.entries w.spent) key) (stays_taken w key o)

    go : {o : Outcome} → Comes w b request o → CountsOne w key before o
    go (stays none) = omega arith
    go (purging ask count sound none) = let l = less (purges b) in omega (arith, l)
    go (adding asked e is one) = under (bytes_eq e.key key) refl
      where
        under : (c : Bool) → bytes_eq e.key key ≡ c → CountsOne w key before (adds e)
        under true t =
            let same : e.key ≡ key = (bytes_eq-Decides e.key key).0 t in
            let both = takes_free (asking_for asked w) e is in
            let free : taken_in w.entries w.spent key ≡ false = subst (λ k. taken_in w.entries w.spent k ≡ false) same both.0 in
            let taken : taken_in (w.entries ++ e ∷ []) w.spent key ≡ true = subst (λ k. taken_in (w.entries ++ e ∷ []) w.spent k ≡ true) same both.1 in
            rw (free, taken, one_of key e before, t) (omega arith)
        under false t = let l = less (adds e) in rw (one_of key e before, t) (omega (arith, l))

one_turn : (made : Bool) (j : Journal) (t : RequestTurn) (key : List ℕ) (before : List EntryParts)
    → count_by (has_key key) (with_one (if made then added (situation_of_turn j t) t.request else None) before) + room (is_taken (if made then left j t else j) key)
    ≤ count_by (has_key key) before + room (is_taken j key)
one_turn true j t key before =
    subst (λ o. count_by (has_key key) (with_one o before) + room (is_taken (left j t) key) ≤ count_by (has_key key) before + room (is_taken j key))
    (sym (added_is (comes (situation_of_turn j t) t.bound t.request))) (one_request (situation_of_turn j t) t.bound t.request key before)
one_turn false j t key before = omega arith

counted : (j : Journal) (ts : List RequestTurn) (key : List ℕ) → count_by (has_key key) (additions j ts) + room (is_taken (after j ts) key) ≤ room (is_taken j key)
counted j [] key = omega arith
counted j (t ∷ ts) key =
    let before = counted j ts key in
    let now = one_turn t.is_made (after j ts) t key (additions j ts) in
    omega (arith, before, now)

at_most_one : (j : Journal) (ts : List RequestTurn) (key : List ℕ) → count_by (has_key key) (additions j ts) ≤ (if is_taken j key then 0 else 1)
at_most_one j ts key = let all = counted j ts key in omega (arith, all)

-- what was added under it is stored, or was purged
stored_or_spent : (j : Journal) (ts : List RequestTurn) (key : List ℕ) → AreLists j.entries j.spent → AreBounds j ts → (e : EntryParts) → Contains (additions j ts) e → e.key ≡ key
    → (entry_by_key (after j ts).entries key ≡ Some e) ⊎ (is_spent (after j ts).spent key ≡ true)
stored_or_spent j ts key lists bounds e added same = go last.known.state
  where
    last : IsLasting (after j ts) e
    last = added_lasts j ts e lists.rising bounds (among-contains e (additions j ts) added)

    go : IsStored (after j ts).entries (after j ts).spent e last.first ⊎ IsPast (after j ts).entries (after j ts).spent e
        → (entry_by_key (after j ts).entries key ≡ Some e) ⊎ (is_spent (after j ts).spent key ≡ true)
    go (inl stored) = inl (subst (λ k. entry_by_key (after j ts).entries k ≡ Some e) same stored.found)
    go (inr past) = inr (subst (λ k. is_spent (after j ts).spent k ≡ true) same past.spent)

pub one_entry_per_key : OneEntryPerKey
one_entry_per_key j ts key = record { once = at_most_one j ts key; for_good = stored_or_spent j ts key }
