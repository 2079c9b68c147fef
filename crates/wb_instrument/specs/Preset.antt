-- Preset tares (OIML R 76-1:2006, 4.7.1: a preset tare is rounded to the interval).
use Rattle.std.specs.Prelude.{ℕ, ◌+◌, ◌*◌, ◌/◌, ◌≤◌, ◌<◌, ◌&&◌, nat_le, if◌then◌else◌, Option, Some, None}
use Rattle.wb_instrument.specs.Setup.{Setup, intervals_in_max}

-- the preset tare of w grams is m intervals: (2 m - 1) * 1000 e <= 2 w < (2 m + 1) * 1000 e, e in kilograms, and m is 1 to n
pub record IsPreset (s : Setup) (w m : ℕ) : Type 0 where
  pub below : 2 * m * (1000 * s.interval_kg) ≤ 2 * w + 1000 * s.interval_kg
  pub above : 2 * w < (2 * m + 1) * (1000 * s.interval_kg)
  pub positive : 1 ≤ m
  pub within_max : m ≤ intervals_in_max s

-- where m is 1 to n, it
abbrev pub preset_in_range : ℕ → ℕ → Option ℕ
preset_in_range n m = if nat_le 1 m && nat_le m n then Some m else None

-- the preset tare of w grams, in intervals, where there is one
unfoldable pub preset : Setup → ℕ → Option ℕ
preset s w = preset_in_range (intervals_in_max s) ((2 * w + 1000 * s.interval_kg) / (2 * (1000 * s.interval_kg)))
