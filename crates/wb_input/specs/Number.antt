-- A number as it is written on a line.
use Rattle.std.specs.Prelude.{ℕ, ◌==◌, List, [], ◌∷◌, if◌then◌else◌, Option, None, option_map, ℤ, pos, neg_ℤ}
use Rattle.wb_input.specs.Digits.{numeral_value}

-- an optional minus sign, and 1 to 18 digits
abbrev pub signed_number : List ℕ → Option ℤ
signed_number [] = None
signed_number (c ∷ cs) = if c == 45 then option_map (λ n. neg_ℤ (pos n)) (numeral_value 18 cs) else option_map pos (numeral_value 18 (c ∷ cs))
