-- The first line of a text, and the lines after it.
use Rattle.std.proofs.Common.{◌≡◌, ◌<◌, ℕ, ◌==◌, Bool, true, false, cond, List, [], ◌∷◌, length, refl, ◌∙◌, ap, arith, length-drop, ◌+◌, suc, ◌&&◌}
use Rattle.std.specs.Prelude.{is_some, nat_lt, not, All}
use Rattle.std.specs.List.{position, position_or_len, before_first, after_first, slice_split, onto_first, prefix_len, list_all}
use Rattle.std.specs.Str.Lines.{lines, lines_of_parts, strip_carriage_return}
use Rattle.std.proofs.lemmas.List.Splits.{slice_split_first, slice_split_none}
use Rattle.std.proofs.lemmas.Bool.Decides.{nat_tests}
use Rattle.std.proofs.lemmas.List.Elements.{All-weaker}
use Rattle.std.proofs.lemmas.List.Sums.{AllPass-from_list_all}

abbrev pub line_feed : ℕ → Bool
line_feed b = b == 10

abbrev split : List ℕ → List (List ℕ)
split bs = slice_split line_feed bs

pub some_parts : (x : List ℕ) (bs : List ℕ) → lines_of_parts (x ∷ split bs) ≡ strip_carriage_return x ∷ lines bs
some_parts x [] = refl
some_parts x (b ∷ bs) = go (line_feed b) (split bs)
  where
    go : (t : Bool) (parts : List (List ℕ)) → lines_of_parts (x ∷ cond t ([] ∷ parts) (onto_first b parts)) ≡ strip_carriage_return x ∷ lines_of_parts (cond t ([] ∷ parts) (onto_first b parts))
    go true parts = refl
    go false [] = refl
    go false (y ∷ more) = refl

found : (bs : List ℕ) → is_some (position line_feed bs) ≡ true → position_or_len line_feed bs < length bs
found bs e = go (nat_lt (position_or_len line_feed bs) (length bs)) refl
  where
    go : (t : Bool) → nat_lt (position_or_len line_feed bs) (length bs) ≡ t → position_or_len line_feed bs < length bs
    go true k = grind (arith, nat_tests)
    go false k = absurd (cc (rw k at e))

-- the first line ends at the first LF
pub lines-first : (bs : List ℕ) → is_some (position line_feed bs) ≡ true → lines bs ≡ strip_carriage_return (before_first line_feed bs) ∷ lines (after_first line_feed bs)
lines-first bs e = ap lines_of_parts (slice_split_first line_feed bs 0 (found bs e)) ∙ some_parts (before_first line_feed bs) (after_first line_feed bs)

-- what follows it is shorter
pub length-after_first : (bs : List ℕ) → is_some (position line_feed bs) ≡ true → length (after_first line_feed bs) < length bs
length-after_first bs e = let h = found bs e in simp length-drop (omega arith)

all_pass : (q : ℕ → Bool) (xs : List ℕ) → nat_lt (prefix_len q xs) (length xs) ≡ false → list_all q xs ≡ true
all_pass q [] e = refl
all_pass q (x ∷ xs) e = go (q x) refl (all_pass q xs)
  where
    go : (t : Bool) → q x ≡ t → (nat_lt (prefix_len q xs) (length xs) ≡ false → list_all q xs ≡ true) → (q x && list_all q xs) ≡ true
    go true k more =
        let e' : nat_lt (1 + prefix_len q xs) (suc (length xs)) ≡ false = rw k at e in
        let rest : nat_lt (prefix_len q xs) (length xs) ≡ false = grind (arith, nat_tests) in
        rw k (more rest)
    go false k more =
        let e' : nat_lt 0 (suc (length xs)) ≡ false = rw k at e in
        absurd (grind (arith, nat_tests))

none_passes : (bs : List ℕ) → is_some (position line_feed bs) ≡ false → All (λ b. line_feed b ≡ false) bs
none_passes bs e = go (nat_lt (position_or_len line_feed bs) (length bs)) refl
  where
    no : (b : ℕ) → not (line_feed b) ≡ true → line_feed b ≡ false
    no b h = flip (line_feed b) h
      where
        flip : (t : Bool) → not t ≡ true → t ≡ false
        flip true k = absurd (cc)
        flip false k = refl

    go : (t : Bool) → nat_lt (position_or_len line_feed bs) (length bs) ≡ t → All (λ b. line_feed b ≡ false) bs
    go true k = absurd (cc (rw k at e))
    go false k = All-weaker (λ b. not (line_feed b) ≡ true) (λ b. line_feed b ≡ false) no bs (AllPass-from_list_all (λ b. not (line_feed b)) bs (all_pass (λ b. not (line_feed b)) bs k))

-- with no LF the rest is one line
pub lines-last : (bs : List ℕ) → is_some (position line_feed bs) ≡ false → (length bs == 0) ≡ false → lines bs ≡ bs ∷ []
lines-last bs e n = ap lines_of_parts (slice_split_none line_feed bs (none_passes bs e)) ∙ rw n refl
