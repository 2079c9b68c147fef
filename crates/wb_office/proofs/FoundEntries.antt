-- Entries found by key and by number.
use Rattle.std.proofs.Common.{◌≡◌, ◌∙◌, sym, ℕ, ◌<◌, ◌==◌, Bool, true, false, ◌||◌, if◌then◌else◌, List, [], ◌∷◌, Option, Some, None, unwrap_or, refl, ap, arith, true≢false}
use Rattle.wb_office.proofs.Common.{nat_tests, bytes_eq-Decides, AllByRecursion, find, list_any, bytes_eq, EntryParts, with_number, IsRising, IsRisingFrom, entry_by_key, has_key, is_spent, SpentKey}

-- what is found passes the test
pub find_any : {X : Type 0} (p : X → Bool) (xs : List X) (x : X) → find p xs ≡ Some x → list_any p xs ≡ true
find_any p [] x found = absurd (cc)
find_any p (y ∷ ys) x found = go (p y) found (λ f. find_any p ys x f)
  where
    go : (b : Bool) → (if b then Some y else find p ys) ≡ Some x → (find p ys ≡ Some x → list_any p ys ≡ true) → (b || list_any p ys) ≡ true
    go true f more = refl
    go false f more = more f

-- no element passes a test by which none is found
pub find_none : {X : Type 0} (p : X → Bool) (xs : List X) → find p xs ≡ None → list_any p xs ≡ false
find_none p [] found = refl
find_none p (y ∷ ys) found = go (p y) found (λ f. find_none p ys f)
  where
    go : (b : Bool) → (if b then Some y else find p ys) ≡ None → (find p ys ≡ None → list_any p ys ≡ false) → (b || list_any p ys) ≡ false
    go true f more = absurd (cc)
    go false f more = more f

pub none_some : {X C : Type 0} {x : X} → ◌≡◌ {A = Option X} None (Some x) → C
none_some same = absurd (cc)

pub is_some_same : {X : Type 0} {x y : X} → Some x ≡ Some y → x ≡ y
is_some_same {x = x} some = ap (λ o. unwrap_or o x) some

same_number : (x : EntryParts) (rest : Option EntryParts) → (if x.number == x.number then Some x else rest) ≡ Some x
same_number x rest = let same : (x.number == x.number) ≡ true = grind (arith, nat_tests) in rw same refl

other_number : (x e : EntryParts) (rest : Option EntryParts) → x.number < e.number → rest ≡ Some e → (if x.number == e.number then Some x else rest) ≡ Some e
other_number x e rest below more = let other : (x.number == e.number) ≡ false = grind (arith, nat_tests) in rw other more

found_above : (p : EntryParts → Bool) (n : ℕ) (es : List EntryParts) (e : EntryParts) → IsRisingFrom n es → find p es ≡ Some e → n < e.number
found_above p n [] e rising found = absurd (cc)
found_above p n (x ∷ xs) e rising found = go (p x) found (λ f. found_above p x.number xs e rising.1 f)
  where
    go : (b : Bool) → (if b then Some x else find p xs) ≡ Some e → (find p xs ≡ Some e → x.number < e.number) → n < e.number
    go true f more = rw (is_some_same f) at rising.0
    go false f more = let above : x.number < e.number = more f in let first : n < x.number = rising.0 in omega arith

found_from : (p : EntryParts → Bool) (n : ℕ) (es : List EntryParts) (e : EntryParts) → IsRisingFrom n es → find p es ≡ Some e → with_number e.number es ≡ Some e
found_from p n [] e rising found = absurd (cc)
found_from p n (x ∷ xs) e rising found = go (p x) found (λ f. found_from p x.number xs e rising.1 f) (λ f. found_above p x.number xs e rising.1 f)
  where
    go : (b : Bool) → (if b then Some x else find p xs) ≡ Some e → (find p xs ≡ Some e → with_number e.number xs ≡ Some e) → (find p xs ≡ Some e → x.number < e.number)
        → (if x.number == e.number then Some x else with_number e.number xs) ≡ Some e
    go true f more above = rw (sym (is_some_same f)) (same_number x (with_number x.number xs))
    go false f more above = other_number x e (with_number e.number xs) (above f) (more f)

-- an entry that is found has its number alone
pub found_by_number : (p : EntryParts → Bool) (es : List EntryParts) (e : EntryParts) → IsRising es → find p es ≡ Some e → with_number e.number es ≡ Some e
found_by_number p [] e rising found = absurd (cc)
found_by_number p (x ∷ xs) e rising found = go (p x) found (λ f. found_from p x.number xs e rising f) (λ f. found_above p x.number xs e rising f)
  where
    go : (b : Bool) → (if b then Some x else find p xs) ≡ Some e → (find p xs ≡ Some e → with_number e.number xs ≡ Some e) → (find p xs ≡ Some e → x.number < e.number)
        → (if x.number == e.number then Some x else with_number e.number xs) ≡ Some e
    go true f more above = rw (sym (is_some_same f)) (same_number x (with_number x.number xs))
    go false f more above = other_number x e (with_number e.number xs) (above f) (more f)

-- its key wasn't spent
pub found_unspent : (es : List EntryParts) (ks : List SpentKey) (key : List ℕ) (e : EntryParts) → AllByRecursion (λ s. list_any (has_key s.key) es ≡ false) ks → entry_by_key es key ≡ Some e
    → is_spent ks key ≡ false
found_unspent es [] key e apart found = refl
found_unspent es (s ∷ rest) key e apart found = go (bytes_eq s.key key) refl (found_unspent es rest key e apart.1 found)
  where
    go : (b : Bool) → bytes_eq s.key key ≡ b → is_spent rest key ≡ false → (b || is_spent rest key) ≡ false
    go true same more =
        let key_same : s.key ≡ key = (bytes_eq-Decides s.key key).0 same in
        let none : list_any (has_key key) es ≡ false = rw key_same at apart.0 in
        absurd (true≢false (sym (find_any (has_key key) es e found) ∙ none))
    go false same more = more
