-- Rounding to the verification scale interval (OIML R 76-1:2006; that an exact half goes up is this project's choice).
use Rattle.std.specs.Prelude.{ℤ, pos, ◌+ℤ◌, ◌*ℤ◌, ◌-ℤ◌, ◌≤ℤ◌, ◌<ℤ◌}
use Rattle.std.specs.Int.{int_div_euclid}

-- x tenths of an interval are rounded to g intervals: 10 g - 5 <= x < 10 g + 5, so an exact half goes up
abbrev pub IsRounded : ℤ → ℤ → Type 0
IsRounded x g = ((pos 10 *ℤ g -ℤ pos 5) ≤ℤ x) × (x <ℤ (pos 10 *ℤ g +ℤ pos 5))

-- the one g that x tenths are rounded to
unfoldable pub round : ℤ → ℤ
round x = int_div_euclid (x +ℤ pos 5) (pos 10)
