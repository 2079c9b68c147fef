-- Texts of bounded length over an alphabet.
use Rattle.std.specs.Prelude.{ℕ, Bool, ◌&&◌, nat_le, List, length}
use Rattle.std.specs.List.{list_all}

-- one character or more, so many at most, and each of the alphabet
abbrev pub is_code_text : ℕ → (ℕ → Bool) → List ℕ → Bool
is_code_text longest holds text = nat_le 1 (length text) && nat_le (length text) longest && list_all holds text
