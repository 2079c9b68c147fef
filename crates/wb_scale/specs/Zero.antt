-- The zero, and semi-automatic zero setting (OIML R 76-1:2006, 4.5).
use Rattle.std.specs.Prelude.{List, Bool, true, false, not, if◌then◌else◌, map, Option, Some, None, is_some, unwrap_or, option_and_then, option_map, slice_get, ℤ, pos, ◌+ℤ◌, ◌-ℤ◌, ◌≤ℤ◌, neg_ℤ, int_lt}
use Rattle.std.specs.List.{before_first}
use Rattle.wb_instrument.specs.Limits.{farthest_zero}
use Rattle.wb_instrument.specs.Setup.{Setup}
use Rattle.wb_window.specs.declared.reading.Reading.{Reading}
use Rattle.wb_window.specs.declared.reading.Reading.TheVariants.{Load, Lost}
use Rattle.wb_window.specs.Stability.{is_stable}
use Rattle.wb_scale.specs.declared.answers.ZeroAnswer.{ZeroAnswer}
use Rattle.wb_scale.specs.declared.answers.ZeroAnswer.TheVariants.{Done, NotStable, Above, Below}
use Rattle.wb_scale.specs.Moment.{Moment, newest_having, readings, total}

-- the zero, in tenths of e from the calibration zero: the load that it was last set to, if ever, and all steps of zero
-- tracking since
unfoldable pub zero_now : List Moment → ℤ
zero_now ms = unwrap_or (newest_having (λ m. m.zeroed) ms) (pos 0) +ℤ total (map (λ m. m.step) (before_first (λ m. is_some m.zeroed) ms))

abbrev pub load_of : Reading → Option ℤ
load_of (Load load) = Some load
load_of Lost = None

-- the load of the last reading: none where it is lost, or there is no reading
abbrev pub last_load : List Reading → Option ℤ
last_load rs = option_and_then load_of (slice_get rs 0)

-- the load above the zero, in tenths of e
unfoldable pub above_zero : List Moment → Option ℤ
above_zero ms = option_map (λ load. load -ℤ zero_now ms) (last_load (readings ms))

-- a load is above the limit of the zero, below it on the other side, or the zero may be set to it
abbrev pub zero_answer_at : ℤ → Option ℤ → ZeroAnswer
zero_answer_at limit None = NotStable
zero_answer_at limit (Some load) =
    if int_lt limit load then Above
    else if int_lt load (neg_ℤ limit) then Below
    else Done

-- only in stable equilibrium (4.5.4)
abbrev pub zero_answer_of : Bool → ℤ → Option ℤ → ZeroAnswer
zero_answer_of stable limit load = if not stable then NotStable else zero_answer_at limit load

-- the answer to setting the zero after these readings: in stable equilibrium, within 2 % of Max from the calibration zero
abbrev pub zero_answer : Setup → List Reading → ZeroAnswer
zero_answer s rs = zero_answer_of (is_stable s.window s.band rs) (pos (farthest_zero s)) (last_load rs)

abbrev pub is_done : ZeroAnswer → Bool
is_done Done = true
is_done NotStable = false
is_done Above = false
is_done Below = false

-- a zero is in its range: within n/5 on either side of the calibration zero
abbrev pub IsZeroInRange : Setup → ℤ → Type 0
IsZeroInRange s zero = (neg_ℤ (pos (farthest_zero s)) ≤ℤ zero) × (zero ≤ℤ pos (farthest_zero s))
