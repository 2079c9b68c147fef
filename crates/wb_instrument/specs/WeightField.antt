-- The text of a weight.
use Rattle.std.specs.Prelude.{ℕ, ◌-◌, List, ◌++◌, length, replicate, ℤ}
use Rattle.std.specs.Fmt.{signed_decimal}

-- right-aligned in 10 characters; a longer number stands whole
abbrev pub weight_in_field : ℤ → List ℕ
weight_in_field kg = replicate (10 - length (signed_decimal kg)) 32 ++ signed_decimal kg
