-- The partner of an entry is found from its number back.
use Rattle.std.proofs.Common.{◌≡◌, ◌==◌, ◌&&◌, ℕ, ◌<◌, ◌≤◌, Bool, true, false, not, cond, List, [], ◌∷◌, ◌++◌, Some, None, find, reverse, nat_lt, option_and_then, refl, sym, ap, ap₂, ◌∙◌, arith}
use Rattle.wb_tables.proofs.Common.{and_right, nat_tests, reverse-append, find-append, AllByRecursion, option_or, bytes_eq, all_weaker, EntryParts, Kind, First, Second, Single, Void, is_closing_kind, is_single_kind, first_alone, may_pair_of, partner_in, partner_of, with_number, IsRising, may_pair_below, nearest_below, code_of_kind}
use Rattle.wb_journal.proofs.offered.Partners.{partner-paired}
use Rattle.wb_tables.proofs.lemmas.lists.Both.{parts}
use Rattle.wb_tables.proofs.lemmas.lists.Found.{find_alike, find_none}
use Rattle.wb_tables.proofs.lemmas.lists.NumberOrder.{all_reversed, ascending}

-- an entry that is found, between those before it and those after it
split : (p : EntryParts → Bool) (es : List EntryParts) (s : EntryParts) → Some s ≡ find p es → (xs : List EntryParts) × (ys : List EntryParts) × (es ≡ xs ++ s ∷ ys)
split p [] s is = absurd cc
split p (e ∷ es) s is = go (p e) is (split p es s)
  where
    go : (b : Bool) → Some s ≡ cond b (Some e) (find p es) → (Some s ≡ find p es → (xs : List EntryParts) × (ys : List EntryParts) × (es ≡ xs ++ s ∷ ys)) → (xs : List EntryParts) × (ys : List EntryParts) × (e ∷ es ≡ xs ++ s ∷ ys)
    go true here more = let same : e ≡ s = cc in ([], es, ap (λ x. x ∷ es) same)
    go false later more = let rest = more later in (e ∷ rest.0, rest.1, ap (λ l. e ∷ l) rest.2)

fails : (plate : List ℕ) (n : ℕ) (x : EntryParts) → n ≤ x.number → may_pair_below plate n x ≡ false
fails plate n x high = and_right _ _ (and_right _ _ (not_less x.number n high))
  where
    not_less : (a b : ℕ) → b ≤ a → nat_lt a b ≡ false
    not_less a b h = grind (arith, nat_tests)

pairs : (plate : List ℕ) (n : ℕ) (x : EntryParts) → x.number < n → may_pair_below plate n x ≡ may_pair_of plate x
pairs plate n x low = rw (is_less x.number n low) (go (bytes_eq x.plate plate) x.kind)
  where
    is_less : (a b : ℕ) → a < b → nat_lt a b ≡ true
    is_less a b h = grind (arith, nat_tests)

    go : (a : Bool) (kind : Kind) → (a && (not (code_of_kind kind == 3) && true)) ≡ (not (is_single_kind kind) && a)
    go true First = refl
    go true Second = refl
    go true Single = refl
    go true Void = refl
    go false kind = sym (and_right (not (is_single_kind kind)) false refl)

module _ (xs ys : List EntryParts) (s : EntryParts) (rising : IsRising (xs ++ s ∷ ys)) where
  nearest_is : nearest_below s.plate s.number (xs ++ s ∷ ys) ≡ find (may_pair_of s.plate) (reverse xs)
  nearest_is =
      let p = may_pair_below s.plate s.number in
      let order = parts (λ a b. a.number < b.number) xs (s ∷ ys) (ascending (xs ++ s ∷ ys) rising) in
      let after : AllByRecursion (λ x. p x ≡ false) (s ∷ ys) = (fails s.plate s.number s (omega arith), all_weaker _ _ (λ x more. fails s.plate s.number x (omega (arith, more))) ys order.1.0) in
      let before = all_weaker _ (λ x. p x ≡ may_pair_of s.plate x) (λ x low. pairs s.plate s.number x low.0) xs order.2 in
      ap (find p) (reverse-append xs (s ∷ ys)) ∙ find-append p (reverse (s ∷ ys)) (reverse xs)
      ∙ ap₂ option_or (find_none p (reverse (s ∷ ys)) (all_reversed _ (s ∷ ys) after)) (find_alike p _ (reverse xs) (all_reversed _ xs before))

  partner_is : partner_in (xs ++ s ∷ ys) s ≡ (cond (is_closing_kind s.kind) (option_and_then first_alone (nearest_below s.plate s.number (xs ++ s ∷ ys))) None)
  partner_is = partner-paired xs ys s rising ∙ ap (λ o. cond (is_closing_kind s.kind) (option_and_then first_alone o) None) (sym nearest_is)

-- the partner of an entry that is found
pub partner_of_found : (es : List EntryParts) (p : EntryParts → Bool) (s : EntryParts) → IsRising es → Some s ≡ find p es
    → partner_in es s ≡ (cond (is_closing_kind s.kind) (option_and_then first_alone (nearest_below s.plate s.number es)) None)
partner_of_found es p s rising found = let around = split p es s found in rw around.2 (partner_is around.0 around.1 s (rw around.2 at rising))

-- the partner of the entry of a number, from the entry
pub partner_found : (es : List EntryParts) (number : ℕ) (s : EntryParts) → IsRising es → Some s ≡ with_number number es
    → partner_of es number ≡ (cond (is_closing_kind s.kind) (option_and_then first_alone (nearest_below s.plate s.number es)) None)
partner_found es number s rising found = ap (option_and_then (partner_in es)) (sym found) ∙ partner_of_found es _ s rising found
