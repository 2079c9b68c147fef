-- Zero tracking (OIML R 76-1:2006, 4.5.7; here only at gross zero, and not at a net zero after taring).
use Rattle.std.specs.Prelude.{ℕ, ◌-◌, Bool, ◌&&◌, if◌then◌else◌, List, ◌∷◌, take, map, filter, Option, Some, None, is_some, ℤ, pos, ◌+ℤ◌, ◌-ℤ◌, neg_ℤ, int_lt, int_le}
use Rattle.std.specs.List.{list_all}
use Rattle.std.specs.Ordering.{int_eq}
use Rattle.wb_instrument.specs.Limits.{readings_a_step, farthest_zero}
use Rattle.wb_instrument.specs.Rounding.{round}
use Rattle.wb_instrument.specs.Setup.{Setup}
use Rattle.wb_window.specs.declared.reading.Reading.{Reading}
use Rattle.wb_window.specs.Stability.{is_stable}
use Rattle.wb_scale.specs.Moment.{Moment, readings}
use Rattle.wb_scale.specs.Zero.{load_of, zero_now}

-- the steps made at the readings, one each; 0 is none
unfoldable pub steps : List Moment → List ℤ
steps ms = map (λ m. m.step) (filter (λ m. is_some m.reading) ms)

-- none of the last n readings made a step
abbrev pub is_quiet : ℕ → List Moment → Bool
is_quiet n ms = list_all (λ step. int_eq step (pos 0)) (take n (steps ms))

-- a tenth of e from the zero towards the load
abbrev pub towards : ℤ → ℤ → ℤ
towards zero load = if int_lt zero load then pos 1 else if int_lt load zero then neg_ℤ (pos 1) else pos 0

-- a zero is within the limit on either side of the calibration zero
abbrev pub is_within_limit : ℤ → ℤ → Bool
is_within_limit limit zero = int_le (neg_ℤ limit) zero && int_le zero limit

-- the step at a load: a tenth towards it, where the gross is 0 and the moved zero is within the limit
abbrev pub step_to : ℤ → ℤ → Option ℤ → ℤ
step_to limit zero None = pos 0
step_to limit zero (Some load) =
    if int_eq (round (load -ℤ zero)) (pos 0) && is_within_limit limit (zero +ℤ towards zero load) then towards zero load
    else pos 0

-- the step that zero tracking makes at a reading after these moments: only where the scale is stable with it, and none of
-- the readings before it that are less than the tracking gap away made one
abbrev pub step_at : Setup → Reading → List Moment → ℤ
step_at s r ms =
    if is_stable s.window s.band (r ∷ readings ms) && is_quiet (readings_a_step s - 1) ms
    then step_to (pos (farthest_zero s)) (zero_now ms) (load_of r) else pos 0
