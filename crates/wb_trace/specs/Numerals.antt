-- Numbers in a trace.
use Rattle.std.specs.Prelude.{ℕ, ◌==◌, ◌&&◌, nat_le, List, [], ◌∷◌, if◌then◌else◌, Option, Some, None}
use Rattle.hex.specs.Hex.{decode_of}
use Rattle.std.specs.Result.{result_ok}
use Rattle.wb_input.specs.Digits.{numeral_value}

abbrev pub within : ℕ → ℕ → ℕ → Option ℕ
within least most n = if nat_le least n && nat_le n most then Some n else None

abbrev pub if_within : ℕ → ℕ → Option ℕ → Option ℕ
if_within least most None = None
if_within least most (Some n) = within least most n

-- 1 to 10,000, with no leading zero
abbrev pub count_in : List ℕ → Option ℕ
count_in [] = None
count_in (c ∷ cs) = if c == 48 then None else if_within 1 10000 (numeral_value 18 (c ∷ cs))

-- bytes: an even number of hexadecimal digits, at least two
abbrev pub bytes_of_hexadecimal : List ℕ → Option (List ℕ)
bytes_of_hexadecimal [] = None
bytes_of_hexadecimal (digit ∷ digits) = result_ok (decode_of (digit ∷ digits))
