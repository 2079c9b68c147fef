-- An entry that is stored, after other entries were added and after purges.
use Rattle.std.proofs.Common.{◌≡◌, ◌∙◌, sym, ap, ap₂, ℕ, ◌≤◌, ◌<◌, ◌==◌, Bool, true, false, cond, inl, inr, not, ◌&&◌, ◌||◌, nat_le, nat_lt, List, [], ◌∷◌, ◌++◌, map, Option, Some, None, refl, arith, true≢false}
use Rattle.wb_office.proofs.Common.{nat_tests, find-append, list_any-append, bytes_eq-Decides, find, list_any, option_or, bytes_eq, EntryParts, is_closing_kind, is_first_of, is_partner, lies_between, may_pair_of, partner_in, IsPurgeBound, kept, IsRising, kept-partner, Among, find-among, entry_by_key, has_key, is_of_key, is_spent, SpentKey, entries_below, spent_by}
use Rattle.wb_office.proofs.FoundEntries.{is_some_same}

-- another entry of the same key
abbrev pub is_twin : EntryParts → EntryParts → Bool
is_twin e x = has_key e.key x && not (x.number == e.number)

-- an entry is stored, alone under its key, with this partner
pub record IsStored (es : List EntryParts) (ks : List SpentKey) (e : EntryParts) (p : Option EntryParts) : Type 0 where
  pub found : entry_by_key es e.key ≡ Some e
  pub alone : list_any (is_twin e) es ≡ false
  pub unspent : is_spent ks e.key ≡ false
  pub paired : partner_in es e ≡ p

-- an entry was purged
pub record IsPast (es : List EntryParts) (ks : List SpentKey) (e : EntryParts) : Type 0 where
  pub spent : is_spent ks e.key ≡ true
  pub absent : list_any (has_key e.key) es ≡ false

neither : (a b : Bool) → (a || b) ≡ false → (a ≡ false) × (b ≡ false)
neither true b h = absurd (true≢false h)
neither false b h = (refl, h)

none_more : (p : EntryParts → Bool) (es : List EntryParts) (f : EntryParts) → list_any p es ≡ false → p f ≡ false → list_any p (es ++ f ∷ []) ≡ false
none_more p es f none not_it = list_any-append p es (f ∷ []) ∙ rw (none, not_it) refl

none_kept : (p : EntryParts → Bool) (b : ℕ) (es : List EntryParts) → list_any p es ≡ false → list_any p (kept b es) ≡ false
none_kept p b [] none = refl
none_kept p b (x ∷ xs) none = go (nat_le b x.number) (neither (p x) (list_any p xs) none) (λ n. none_kept p b xs n)
  where
    go : (k : Bool) → (p x ≡ false) × (list_any p xs ≡ false) → (list_any p xs ≡ false → list_any p (kept b xs) ≡ false) → list_any p (cond k (x ∷ kept b xs) (kept b xs)) ≡ false
    go true both rest = rw both.0 (rest both.1)
    go false both rest = rest both.1

and_false : (b : Bool) → (b && false) ≡ false
and_false true = refl
and_false false = refl

or_false : (b : Bool) → (b || false) ≡ b
or_false true = refl
or_false false = refl

or_none : {X : Type 0} (o : Option X) → option_or o None ≡ o
or_none None = refl
or_none (Some x) = refl

find_same : (p q : EntryParts → Bool) → ((x : EntryParts) → p x ≡ q x) → (xs : List EntryParts) → find p xs ≡ find q xs
find_same p q same [] = refl
find_same p q same (x ∷ xs) = ap₂ (λ b o. cond b (Some x) o) (same x) (find_same p q same xs)

-- ---- one entry more

same_test : (es : List EntryParts) (e f : EntryParts) → e.number < f.number → (x : EntryParts) → is_partner (es ++ f ∷ []) e x ≡ is_partner es e x
same_test es e f above x =
    ap (λ r. is_closing_kind e.kind && is_first_of e.plate x && nat_lt x.number e.number && not r)
    (list_any-append (lies_between e.plate x.number e.number) es (f ∷ []) ∙ rw (no, and_false (may_pair_of e.plate f && nat_lt x.number f.number)) (or_false _))
  where
    no : nat_lt f.number e.number ≡ false
    no = grind (arith, nat_tests)

-- a later entry is nobody's partner among those before it
pub partner_more : (es : List EntryParts) (e f : EntryParts) → e.number < f.number → partner_in (es ++ f ∷ []) e ≡ partner_in es e
unfolding partner_in
partner_more es e f above =
    find_same (is_partner (es ++ f ∷ []) e) (is_partner es e) (same_test es e f above) (es ++ f ∷ [])
    ∙ find-append (is_partner es e) es (f ∷ []) ∙ ap (option_or (find (is_partner es e) es)) last ∙ or_none (find (is_partner es e) es)
  where
    no : nat_lt f.number e.number ≡ false
    no = grind (arith, nat_tests)

    none : (a b : Bool) → ((a && false) && b) ≡ false
    none true b = refl
    none false b = refl

    last : find (is_partner es e) (f ∷ []) ≡ None
    last = rw (no, none (is_closing_kind e.kind && is_first_of e.plate f) (not (list_any (lies_between e.plate f.number e.number) es))) refl

-- an entry is stored still, with the same partner, when one of another key was added behind it
pub stored_more : (es : List EntryParts) (ks : List SpentKey) (e f : EntryParts) (p : Option EntryParts) → IsStored es ks e p → e.number < f.number → has_key e.key f ≡ false
    → IsStored (es ++ f ∷ []) ks e p
stored_more es ks e f p is above other = record {
  found = find-append (has_key e.key) es (f ∷ []) ∙ rw is.found refl;
  alone = none_more (is_twin e) es f is.alone (rw other refl);
  unspent = is.unspent;
  paired = partner_more es e f above ∙ is.paired;
}

-- ---- a purge

find_kept : (p : EntryParts → Bool) (b : ℕ) (es : List EntryParts) (e : EntryParts) → b ≤ e.number → find p es ≡ Some e → find p (kept b es) ≡ Some e
find_kept p b [] e high found = absurd (cc)
find_kept p b (x ∷ xs) e high found = go (nat_le b x.number) refl (p x) refl found (λ f. find_kept p b xs e high f)
  where
    low : nat_le b x.number ≡ false → x ≡ e → ⊥
    low t same = let numbers : x.number ≡ e.number = ap (λ z. z.number) same in let under : x.number < b = grind (arith, nat_tests) in omega arith

    go : (k : Bool) → nat_le b x.number ≡ k → (c : Bool) → p x ≡ c → cond c (Some x) (find p xs) ≡ Some e → (find p xs ≡ Some e → find p (kept b xs) ≡ Some e)
        → find p (cond k (x ∷ kept b xs) (kept b xs)) ≡ Some e
    go true t true u f rest = rw u f
    go true t false u f rest = rw u (rest f)
    go false t true u f rest = absurd (low t (is_some_same f))
    go false t false u f rest = rest f

-- no key of an entry that is purged is that of one that stays alone under it
none_below : (b : ℕ) (es : List EntryParts) (e : EntryParts) → b ≤ e.number → list_any (is_twin e) es ≡ false → list_any (is_of_key e.key) (map spent_by (entries_below b es)) ≡ false
none_below b [] e high alone = refl
none_below b (x ∷ xs) e high alone = go (nat_lt x.number b) refl (neither (is_twin e x) (list_any (is_twin e) xs) alone) (λ n. none_below b xs e high n)
  where
    other : nat_lt x.number b ≡ true → (x.number == e.number) ≡ false
    other t = grind (arith, nat_tests)

    key_of : (c : Bool) → (c && true) ≡ false → c ≡ false
    key_of true h = h
    key_of false h = refl

    go : (k : Bool) → nat_lt x.number b ≡ k → (is_twin e x ≡ false) × (list_any (is_twin e) xs ≡ false)
        → (list_any (is_twin e) xs ≡ false → list_any (is_of_key e.key) (map spent_by (entries_below b xs)) ≡ false)
        → list_any (is_of_key e.key) (map spent_by (cond k (x ∷ entries_below b xs) (entries_below b xs))) ≡ false
    go true t both rest = rw (key_of (bytes_eq x.key e.key) (rw (other t) at both.0)) (rest both.1)
    go false t both rest = rest both.1

-- an entry from the bound on is stored still, with the same partner
pub stored_kept : (es : List EntryParts) (ks : List SpentKey) (e : EntryParts) (p : Option EntryParts) (next day retention b : ℕ) → IsRising es → IsPurgeBound es next day retention b
    → IsStored es ks e p → b ≤ e.number → IsStored (kept b es) (ks ++ map spent_by (entries_below b es)) e p
stored_kept es ks e p next day retention b rising bound is high = record {
  found = find_kept (has_key e.key) b es e high is.found;
  alone = none_kept (is_twin e) b es is.alone;
  unspent = list_any-append (is_of_key e.key) ks (map spent_by (entries_below b es)) ∙ rw (is.unspent, none_below b es e high is.alone) refl;
  paired = kept-partner es next day retention b rising bound e ((find-among (has_key e.key) es e is.found).0) high ∙ is.paired;
}

key_below : (b : ℕ) (es : List EntryParts) (e : EntryParts) → e.number < b → Among e es → list_any (is_of_key e.key) (map spent_by (entries_below b es)) ≡ true
key_below b [] e low m = absurd m
key_below b (x ∷ xs) e low m = go (nat_lt x.number b) refl m (λ n. key_below b xs e low n)
  where
    or_true : (c : Bool) → (c || true) ≡ true
    or_true true = refl
    or_true false = refl

    not_low : nat_lt x.number b ≡ false → e ≡ x → ⊥
    not_low t same = let numbers : e.number ≡ x.number = ap (λ z. z.number) same in let over : b ≤ x.number = grind (arith, nat_tests) in omega arith

    here : e ≡ x → bytes_eq x.key e.key ≡ true
    here same = (bytes_eq-Decides x.key e.key).1 (ap (λ z. z.key) (sym same))

    go : (k : Bool) → nat_lt x.number b ≡ k → Among e (x ∷ xs) → (Among e xs → list_any (is_of_key e.key) (map spent_by (entries_below b xs)) ≡ true)
        → list_any (is_of_key e.key) (map spent_by (cond k (x ∷ entries_below b xs) (entries_below b xs))) ≡ true
    go true t (inl same) rest = rw (here same) refl
    go true t (inr n) rest = rw (rest n) (or_true (bytes_eq x.key e.key))
    go false t (inl same) rest = absurd (not_low t same)
    go false t (inr n) rest = rest n

-- no entry of the key is left
none_left : (b : ℕ) (es : List EntryParts) (e : EntryParts) → e.number < b → list_any (is_twin e) es ≡ false → list_any (has_key e.key) (kept b es) ≡ false
none_left b [] e low alone = refl
none_left b (x ∷ xs) e low alone = go (nat_le b x.number) refl (neither (is_twin e x) (list_any (is_twin e) xs) alone) (λ n. none_left b xs e low n)
  where
    other : nat_le b x.number ≡ true → (x.number == e.number) ≡ false
    other t = grind (arith, nat_tests)

    key_of : (c : Bool) → (c && true) ≡ false → c ≡ false
    key_of true h = h
    key_of false h = refl

    go : (k : Bool) → nat_le b x.number ≡ k → (is_twin e x ≡ false) × (list_any (is_twin e) xs ≡ false)
        → (list_any (is_twin e) xs ≡ false → list_any (has_key e.key) (kept b xs) ≡ false) → list_any (has_key e.key) (cond k (x ∷ kept b xs) (kept b xs)) ≡ false
    go true t both rest = rw (key_of (bytes_eq x.key e.key) (rw (other t) at both.0)) (rest both.1)
    go false t both rest = rest both.1

-- an entry below the bound is purged
pub past_kept : (es : List EntryParts) (ks : List SpentKey) (e : EntryParts) (p : Option EntryParts) (b : ℕ) → IsStored es ks e p → e.number < b
    → IsPast (kept b es) (ks ++ map spent_by (entries_below b es)) e
past_kept es ks e p b is low = record {
  spent = list_any-append (is_of_key e.key) ks (map spent_by (entries_below b es)) ∙ rw (key_below b es e low ((find-among (has_key e.key) es e is.found).0)) (or_true (is_spent ks e.key));
  absent = none_left b es e low is.alone;
}
  where
    or_true : (c : Bool) → (c || true) ≡ true
    or_true true = refl
    or_true false = refl

-- and stays so
pub past_stays : (es : List EntryParts) (ks more : List SpentKey) (e : EntryParts) (b : ℕ) → IsPast es ks e → IsPast (kept b es) (ks ++ more) e
past_stays es ks more e b is = record {
  spent = list_any-append (is_of_key e.key) ks more ∙ rw is.spent refl;
  absent = none_kept (has_key e.key) b es is.absent;
}

pub past_more : (es : List EntryParts) (ks : List SpentKey) (e f : EntryParts) → IsPast es ks e → has_key e.key f ≡ false → IsPast (es ++ f ∷ []) ks e
past_more es ks e f is other = record { spent = is.spent; absent = none_more (has_key e.key) es f is.absent other }
