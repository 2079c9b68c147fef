-- The unfinished line: what is kept of it, and the command of the line that an LF ends.
use Rattle.std.proofs.Common.{◌≡◌, ◌≢◌, ℕ, ◌+◌, ◌<◌, ◌≤◌, Bool, true, false, cond, List, [], ◌∷◌, ◌++◌, length, take, reverse, refl, sym, ◌∙◌, ap, arith, one-add}
use Rattle.std.specs.Prelude.{nat_lt, ◌==◌, not}
use Rattle.std.proofs.lemmas.Bool.Decides.{nat_tests}
use Rattle.std.proofs.lemmas.List.{take_all, take-append-le, length-take, length-reverse, reverse-append, reverse-reverse, length_push}
use Rattle.wb_sics.specs.declared.command.Command.TheVariants.{Unknown}
use Rattle.wb_sics.specs.Commands.{command_of}
use Rattle.wb_sics.specs.Lines.{without_carriage_return, line_command, stream, unfinished}
use Rattle.std.specs.List.{before_first, prefix_len}
use Rattle.std.proofs.lemmas.Grind.{reverse_onto}
use Rattle.wb_sics.specs.declared.command.Command.{Command}
use Rattle.wb_sics.specs.Event.{TerminalEvent, byte}

shorter : (n : ℕ) (text : List ℕ) → length (take n text) < n → length text < n
shorter n text h = let l = length-take n text in omega arith

-- a byte is kept where there is room
pub take_push : (n b : ℕ) (kept text : List ℕ) → kept ≡ take n text → length kept < n → kept ++ b ∷ [] ≡ take n (text ++ b ∷ [])
take_push n b kept text e h =
    let short : length text < n = shorter n text (rw (← e) h) in
    let all : take n text ≡ text = take_all n text (omega arith) in
    let l = length_push text b in
    let more : take n (text ++ b ∷ []) ≡ text ++ b ∷ [] = take_all n (text ++ b ∷ []) (omega arith) in
    rw (e, all, more) refl

-- and not where there is none
pub take_full : (n b : ℕ) (kept text : List ℕ) → kept ≡ take n text → length kept ≡ n → kept ≡ take n (text ++ b ∷ [])
take_full n b kept text e h =
    let l = length-take n text in
    let f : length (take n text) ≡ n = rw (← e) h in
    let long : n ≤ length text = omega arith in
    e ∙ sym (take-append-le n text (b ∷ []) long)

long_unknown : (text : List ℕ) → 40 < length text → command_of text ≡ Unknown
long_unknown text h = let t : nat_lt 40 (length text) ≡ true = grind (arith, nat_tests) in rw t

without_carriage_return-long : (bytes : List ℕ) → 42 < length bytes → 40 < length (reverse (without_carriage_return bytes))
without_carriage_return-long [] h = absurd (omega arith)
without_carriage_return-long (b ∷ bs) h =
    rw length-reverse
    (elim (b == 13) as (λ c. 40 < length (cond c bs (b ∷ bs))) [ true ↦ omega arith | false ↦ omega arith ])

reversed : (bytes rest : List ℕ) (last : ℕ) → reverse bytes ≡ rest ++ last ∷ [] → bytes ≡ last ∷ reverse rest
reversed bytes rest last e = sym (reverse-reverse bytes) ∙ ap reverse e ∙ reverse-append rest (last ∷ [])

by_length : {P : Type 0} (n m : ℕ) → (n ≤ m → P) → (m < n → P) → P
by_length {P} n m a b = go (nat_lt m n) refl
  where
    go : (t : Bool) → nat_lt m n ≡ t → P
    go true e = b (grind (arith, nat_tests))
    go false e = a (grind (arith, nat_tests))

-- where the last byte kept is a CR, the text is what is kept before it
pub kept_cr : (bytes line rest : List ℕ) (last : ℕ) → line ≡ take 42 (reverse bytes) → line ≡ rest ++ last ∷ [] → last ≡ 13 → command_of rest ≡ command_of (reverse (without_carriage_return bytes))
kept_cr bytes line rest last e s c =
    let l = length-take 42 (reverse bytes) in
    let r = length-reverse bytes in
    let p = length_push rest last in
    by_length (length bytes) 42
    (λ short.
    let all : take 42 (reverse bytes) ≡ reverse bytes = take_all 42 (reverse bytes) (omega arith) in
    let b : bytes ≡ last ∷ reverse rest = reversed bytes rest last (sym all ∙ sym e ∙ s) in
    rw (b, c, reverse-reverse rest) refl)
    (λ long.
    let kept : length line ≡ length rest + 1 = ap length s ∙ p in
    let most : length line ≡ 42 = ap length e ∙ l ∙ (omega arith) in
    let n : length rest ≡ 41 = omega arith in
    long_unknown rest (omega arith) ∙ sym (long_unknown (reverse (without_carriage_return bytes)) (without_carriage_return-long bytes long)))

-- where it is none, the text is what is kept
pub kept_whole : (bytes line rest : List ℕ) (last : ℕ) → line ≡ take 42 (reverse bytes) → line ≡ rest ++ last ∷ [] → last ≢ 13 → command_of line ≡ command_of (reverse (without_carriage_return bytes))
kept_whole bytes line rest last e s c =
    let l = length-take 42 (reverse bytes) in
    let r = length-reverse bytes in
    by_length (length bytes) 42
    (λ short.
    let all : take 42 (reverse bytes) ≡ reverse bytes = take_all 42 (reverse bytes) (omega arith) in
    let b : bytes ≡ last ∷ reverse rest = reversed bytes rest last (sym all ∙ sym e ∙ s) in
    let no : (last == 13) ≡ false = grind (arith, nat_tests) in
    let same : without_carriage_return bytes ≡ bytes = rw (b, no) refl in
    rw same (ap command_of (e ∙ all)))
    (λ long.
    let most : length line ≡ 42 = ap length e ∙ l ∙ (omega arith) in
    long_unknown line (omega arith) ∙ sym (long_unknown (reverse (without_carriage_return bytes)) (without_carriage_return-long bytes long)))

before_first-cons : {X : Type 0} (p : X → Bool) (x : X) (xs : List X) → before_first p (x ∷ xs) ≡ cond (p x) [] (x ∷ before_first p xs)
before_first-cons p x xs =
    elim (p x) as (λ b. take (cond (not b) (1 + prefix_len (λ y. not (p y)) xs) 0) (x ∷ xs) ≡ cond b [] (x ∷ before_first p xs)) [
      | true ↦ refl
      | false ↦ rw one-add refl
    ]

pub unfinished-byte : (b : ℕ) (h : List TerminalEvent) → (b == 10) ≡ false → reverse (unfinished (byte b ∷ h)) ≡ reverse (unfinished h) ++ b ∷ []
unfinished-byte b h e = rw (before_first-cons (λ x. x == 10) b (stream h), e) (reverse_onto (unfinished h) b [])

pub unfinished-line : (b : ℕ) (h : List TerminalEvent) → (b == 10) ≡ true → unfinished (byte b ∷ h) ≡ []
unfinished-line b h e = rw (before_first-cons (λ x. x == 10) b (stream h), e) refl

pub line_command-kept : (line : List ℕ) (h : List TerminalEvent) (c : Command) → line ≡ take 42 (reverse (unfinished h))
    → ((bytes : List ℕ) → line ≡ take 42 (reverse bytes) → c ≡ command_of (reverse (without_carriage_return bytes))) → c ≡ line_command h
unfolding line_command
line_command-kept line h c e k = k (unfinished h) e
