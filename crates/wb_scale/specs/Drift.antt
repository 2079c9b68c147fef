-- Laws of the zero: how fast zero tracking moves it, and that it stays in its range.
use Rattle.std.specs.Prelude.{ℕ, ◌≤◌, Bool, not, List, take, drop, count_by, ℤ, pos, neg_ℤ, ◌≤ℤ◌}
use Rattle.std.specs.Ordering.{int_eq}
use Rattle.wb_instrument.specs.Limits.{farthest_zero}
use Rattle.wb_instrument.specs.Setup.{Setup, IsSetup}
use Rattle.wb_scale.specs.Call.{Call}
use Rattle.wb_scale.specs.History.{moments}
use Rattle.wb_scale.specs.Tracking.{steps}
use Rattle.wb_scale.specs.Zero.{zero_now}

abbrev pub is_step : ℤ → Bool
is_step d = not (int_eq d (pos 0))

-- in every history, any readings in a row, as many as come in a second, make at most five steps: half an interval
-- (OIML R 76-1:2006, 4.5.7)
abbrev pub FiveAtMost : Type 0
FiveAtMost = (s : Setup) → IsSetup s → (h : List Call) (n : ℕ) → count_by is_step (take s.pace (drop n (steps (moments s h)))) ≤ 5

-- in every history, the zero is within 2 % of Max on either side of the calibration zero
abbrev pub ZeroInRange : Type 0
ZeroInRange = (s : Setup) (h : List Call) → (neg_ℤ (pos (farthest_zero s)) ≤ℤ zero_now (moments s h)) × (zero_now (moments s h) ≤ℤ pos (farthest_zero s))
