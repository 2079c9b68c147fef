-- The first element that passes a test, by its place, and a list that was written over another.
use Rattle.std.proofs.Common.{◌≡◌, ◌∙◌, sym, ap, ℕ, ◌<◌, ◌≤◌, Bool, List, Some, None, length, arith, refl}
use Rattle.std.proofs.lemmas.List.{append-nil, drop_all, take_all}
use Rattle.std.proofs.lemmas.List.Folds.{find_at}
use Rattle.std.proofs.lemmas.Option.{slice_get_past, slice_get_read}
use Rattle.std.specs.List.{position, position_or_len}
use Rattle.std.specs.Prelude.{◌++◌, drop, find, get_or, slice_get, take}

past : {X : Type 0} (p : X → Bool) (xs : List X) → position p xs ≡ None → length xs ≤ position_or_len p xs
past p xs none = grind (arith, none)

within : {X : Type 0} (p : X → Bool) (xs : List X) (k : ℕ) → position p xs ≡ Some k → (k ≡ position_or_len p xs) × (k < length xs)
within p xs k found = grind (arith, found)

pub none_found : {X : Type 0} (p : X → Bool) (xs : List X) → position p xs ≡ None → find p xs ≡ None
none_found p xs none = find_at p xs ∙ slice_get_past xs (position_or_len p xs) (past p xs none)

pub found_at : {X : Type 0} (p : X → Bool) (xs : List X) (k : ℕ) (x : X) → position p xs ≡ Some k → x ≡ get_or xs k x → find p xs ≡ Some x
found_at p xs k x found is =
    let at = within p xs k found in
    find_at p xs ∙ ap (slice_get xs) (sym at.0) ∙ slice_get_read xs (length xs) k x refl at.1 is

-- as many elements as there were, written from the beginning, are all that is left
pub all_written : {X : Type 0} (new old : List X) (n : ℕ) → length new ≡ length old → n ≡ length old → take n (new ++ drop (length new) old) ≡ new
all_written new old n same is =
    ap (λ rest. take n (new ++ rest)) (drop_all (length new) old (omega arith)) ∙ ap (take n) (append-nil new) ∙ take_all n new (omega arith)
