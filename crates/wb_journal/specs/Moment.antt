-- Moments: seconds of UTC since 1970-01-01 00:00:00.
use Rattle.std.specs.Prelude.{ℕ, ◌/◌}

-- the day of a moment, counted from 1970-01-01
abbrev pub day_of : ℕ → ℕ
day_of moment = moment / 86400
