-- Decimal digits.
use Rattle.std.specs.Prelude.{ℕ, ◌&&◌, Bool, nat_le, List, length, if◌then◌else◌, Option, Some, None}
use Rattle.std.specs.Char.{is_ascii_digit}
use Rattle.std.specs.List.{list_all}
use Rattle.std.specs.Str.Parse.{digits_value}

-- 1 to so many decimal digits, never more than 18
abbrev pub is_numeral : ℕ → List ℕ → Bool
is_numeral most text = nat_le 1 (length text) && nat_le (length text) most && nat_le (length text) 18 && list_all is_ascii_digit text

-- the number that they give
abbrev pub numeral_value : ℕ → List ℕ → Option ℕ
numeral_value most text = if is_numeral most text then Some (digits_value 10 text) else None
