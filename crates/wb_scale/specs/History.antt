-- What came of each call of a history.
use Rattle.std.specs.Prelude.{true, if◌then◌else◌, List, [], ◌∷◌, Some}
use Rattle.wb_instrument.specs.Setup.{Setup}
use Rattle.wb_window.specs.declared.reading.Reading.{Reading}
use Rattle.wb_scale.specs.declared.answers.TareNow.TheVariants.{Empty}
use Rattle.wb_scale.specs.Call.{Call, read, read_for_zero, set_zero, tare, preset, clear_tare, stored}
use Rattle.wb_scale.specs.Moment.{Moment, nothing, readings}
use Rattle.wb_scale.specs.Tare.{given, weighed}
use Rattle.wb_scale.specs.Tracking.{step_at}
use Rattle.wb_scale.specs.Zero.{is_done, last_load, load_of, zero_answer}

-- a reading is taken, and zero tracking may make a step
abbrev pub moment_of_reading : Setup → Reading → List Moment → Moment
moment_of_reading s r ms = record nothing { reading = Some r; step = step_at s r ms }

-- what comes of a call after these moments. A zero that is set cancels the tare (OIML R 76-1:2006, 4.5.4), and at the
-- reading that it is set to zero tracking makes no step
abbrev pub moment_of_call : Setup → Call → List Moment → Moment
moment_of_call s (read r) ms = moment_of_reading s r ms
moment_of_call s (read_for_zero r) ms =
    if is_done (zero_answer s (r ∷ readings ms))
    then record nothing { reading = Some r; zeroed = load_of r; tare = Some Empty }
    else moment_of_reading s r ms
moment_of_call s set_zero ms =
    if is_done (zero_answer s (readings ms))
    then record nothing { zeroed = last_load (readings ms); tare = Some Empty }
    else nothing
moment_of_call s tare ms = record nothing { tare = weighed s ms }
moment_of_call s (preset grams) ms = record nothing { tare = given s ms grams }
moment_of_call s clear_tare ms = record nothing { tare = Some Empty }
moment_of_call s stored ms = record nothing { stored = true }

abbrev pub moments : Setup → List Call → List Moment
moments s [] = []
moments s (c ∷ h) = moment_of_call s c (moments s h) ∷ moments s h
