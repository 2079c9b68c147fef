-- Of how many readings one value is made.
use Rattle.std.specs.Prelude.{ℕ, ◌≤◌}

abbrev pub IsNumberOfReadings : ℕ → Type 0
IsNumberOfReadings n = (1 ≤ n) × (n ≤ 32)
