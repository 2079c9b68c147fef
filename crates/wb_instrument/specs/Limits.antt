-- Limits of indication and of the zero.
use Rattle.std.specs.Prelude.{ℕ, ◌+◌, ◌/◌, Bool, ℤ, pos, neg_ℤ, int_lt}
use Rattle.wb_instrument.specs.Setup.{Setup, intervals_in_max}

-- no indication above Max + 9 e (OIML R 76-1:2006, 4.2.3)
abbrev pub is_above_range : Setup → ℤ → Bool
is_above_range s gross = int_lt (pos (intervals_in_max s + 9)) gross

-- none below -20 e (this project's own)
abbrev pub is_below_range : ℤ → Bool
is_below_range gross = int_lt gross (neg_ℤ (pos 20))

-- Min is 20 e, in class III with e of 5 g or more (OIML R 76-1:2006, 3.2)
abbrev pub is_below_min : ℤ → Bool
is_below_min gross = int_lt gross (pos 20)

-- how far from the calibration zero the zero may lie, in tenths of e: 2 % of Max, n/5 rounded down (OIML R 76-1:2006, 4.5.1)
abbrev pub farthest_zero : Setup → ℕ
farthest_zero s = intervals_in_max s / 5

-- K: of so many readings in a row at most one makes a step of zero tracking, so that it corrects at most 0.5 e a second
-- (OIML R 76-1:2006, 4.5.7)
abbrev pub readings_a_step : Setup → ℕ
readings_a_step s = (s.pace + 4) / 5
