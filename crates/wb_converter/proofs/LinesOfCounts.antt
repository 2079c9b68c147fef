-- Lines of counts that are cut from bytes as they come.
use Rattle.std.proofs.Common.{◌≡◌, ◌<◌, ◌≤◌, ◌==◌, ◌++◌, ◌∷◌, ◌∙◌, ℕ, List, [], false, arith, ap, sym, refl, append_assoc, length, map, get_or, IfSome, Option, Some, None, ℤ}
use Rattle.std.proofs.lemmas.Grind.{common_steps}
use Rattle.std.proofs.lemmas.List.{length-append, length-map, take_at}
use Rattle.std.proofs.lemmas.List.Elements.{All-append, All-nil}
use Rattle.std.proofs.lemmas.List.Splits.{slice_split_at, length-slice_split}
use Rattle.std.proofs.lemmas.List.Sums.{split_at_first, fails_before_first, passes_at_first}
use Rattle.std.specs.List.{before_first, after_first, position_or_len, position}
use Rattle.std.specs.Io.KnownBytes.{Consumes}
use Rattle.wb_converter.specs.Counts.{AreCounted, AreOfFirstLines, HasNoEnd, IsHeld, counts_in, counts_of_line, counts_of_partial, lines_of}
use Rattle.wb_input.specs.PartialLine.{PartialLine, fresh, pushed}

-- there is always a last piece
pub some_counts : (bytes : List ℕ) → 0 < length (counts_in bytes)
some_counts bytes = omega (arith, length-map (lines_of bytes) counts_of_line, length-slice_split (λ (b : ℕ). b == 10) bytes)

-- before the first end there is none
pub no_end_before : (bytes : List ℕ) → HasNoEnd (before_first (λ b. b == 10) bytes)
no_end_before bytes = λ k e m. let f = fails_before_first (λ (b : ℕ). b == 10) bytes k e (grind (arith, common_steps)) in grind (arith, common_steps)

-- a piece is held with what was held before it
pub held_more : (line : PartialLine) (begun bytes : List ℕ) → IsHeld line begun → IsHeld (pushed 64 bytes line) (begun ++ bytes)
held_more line begun bytes held = grind (arith, common_steps, held, length-append)

-- what is held of a line has the counts of the line
pub counts_of_held : (line : PartialLine) (begun : List ℕ) → IsHeld line begun → counts_of_partial line ≡ counts_of_line begun
counts_of_held line begun held = grind (arith, common_steps, held)

-- at an end a line is cut
pub counts_in-cut : (begun bytes after : List ℕ) → HasNoEnd begun → position_or_len (λ b. b == 10) bytes < length bytes
    → counts_in (begun ++ bytes ++ after) ≡ counts_of_line (begun ++ before_first (λ b. b == 10) bytes) ∷ counts_in (after_first (λ b. b == 10) bytes ++ after)
counts_in-cut begun bytes after endless short =
    let p = λ (b : ℕ). b == 10 in
    let before = before_first p bytes in
    let rest = after_first p bytes in
    let end = get_or bytes (position_or_len p bytes) 0 in
    let whole : begun ++ bytes ++ after ≡ (begun ++ before) ++ (end ∷ (rest ++ after)) = grind (arith, common_steps, split_at_first p bytes 0 short, append_assoc) in
    ap counts_in whole ∙ ap (map counts_of_line) (slice_split_at p (begun ++ before) end (rest ++ after) (All-append (λ b. p b ≡ false) begun before endless (no_end_before bytes)) (passes_at_first p bytes 0 short))

-- bytes without an end have none before the first
pub all_before : (bytes : List ℕ) → position (λ b. b == 10) bytes ≡ None → before_first (λ b. b == 10) bytes ≡ bytes
all_before bytes none = grind (arith, common_steps, none)

-- counts of a reader whose bytes may be known: the first of those that it had
abbrev pub IsCounted : Option (List ℕ) → Option (List ℕ) → ℕ → List (Option ℤ) → PartialLine → Type 0
IsCounted None now lines counted line = Unit {0}
IsCounted (Some bytes) None lines counted line = ⊥
IsCounted (Some bytes) (Some after) lines counted line = AreCounted lines counted line after (counts_in bytes)

pub none_counted : (all : Option (List ℕ)) (lines : ℕ) → IsCounted all all lines [] fresh
none_counted None lines = tt
none_counted (Some bytes) lines = (omega arith, counts_in bytes, refl, some_counts bytes, λ _. ([], All-nil (λ b. (b == 10) ≡ false), (λ _. refl, λ long. absurd (omega (arith, long))), refl))

pub all_counted : (all now : Option (List ℕ)) (counted : List (Option ℤ)) (line : PartialLine) → IsCounted all now (length counted) counted line → IfSome all (AreOfFirstLines counted)
all_counted None now counted line are = tt
all_counted (Some bytes) None counted line are = absurd are
all_counted (Some bytes) (Some after) counted line are =
    (rw (sym are.2) (sym (take_at counted are.1 (length counted) refl)), rw (sym are.2) (omega (arith, length-append counted are.1, are.3)))

fewer : (n m : ℕ) → n ≤ m → (n ≡ m → ⊥) → n < m
fewer n m le not = grind (arith, common_steps, le, not)

pub more_counted : (all before now : Option (List ℕ)) (lines : ℕ) (counted more : List (Option ℤ)) (line next : PartialLine) (came : List ℕ)
    → IsCounted all before lines counted line → (length counted ≡ lines → ⊥) → Consumes before now came
    → ((begun after : List ℕ) → length counted ≤ lines → HasNoEnd begun → IsHeld line begun → AreCounted lines more next after (counted ++ counts_in (begun ++ came ++ after)))
    → IsCounted all now lines more next
more_counted None before now lines counted more line next came are short took step = tt
more_counted (Some bytes) None now lines counted more line next came are short took step = absurd are
more_counted (Some bytes) (Some xs) None lines counted more line next came are short took step = absurd took
more_counted (Some bytes) (Some xs) (Some ys) lines counted more line next came are short took step =
    let held = are.4 (fewer (length counted) lines are.0 short) in
    let same : counted ++ counts_in (held.0 ++ came ++ ys) ≡ counts_in bytes =
    ap (λ l. counted ++ counts_in l) (append_assoc held.0 came ys ∙ ap (λ l. held.0 ++ l) (sym took)) ∙ ap (λ l. counted ++ l) (sym held.3) ∙ are.2 in
    rw (sym same) (step held.0 ys are.0 held.1 held.2)
