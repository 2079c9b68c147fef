-- Words, parted by blanks.
use Rattle.std.specs.Prelude.{ℕ, ◌==◌, List}
use Rattle.std.specs.List.{after_first, before_first}

-- what stands before the first blank, all where there is none
abbrev pub first_word : List ℕ → List ℕ
first_word text = before_first (λ b. b == 32) text

-- what stands after the first blank, nothing where there is none
abbrev pub after_word : List ℕ → List ℕ
after_word text = after_first (λ b. b == 32) text
