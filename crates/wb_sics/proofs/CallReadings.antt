-- The readings that the scale has taken are those of the terminal.
use Rattle.std.proofs.Common.{◌≡◌, Bool, true, false, cond, List, [], ◌∷◌, ◌++◌, refl, ◌∙◌, ap}
use Rattle.std.specs.Prelude.{◌==◌}
use Rattle.wb_instrument.specs.Setup.{Setup}
use Rattle.wb_window.specs.declared.reading.Reading.{Reading}
use Rattle.wb_scale.specs.Call.{Call, read}
use Rattle.wb_scale.specs.History.{moments}
use Rattle.wb_scale.specs.Moment.{readings}
use Rattle.wb_scale.proofs.offered.Readings.{readings-clear_tare, readings-preset, readings-read, readings-read_for_zero, readings-set_zero, readings-stored, readings-tare}
use Rattle.wb_sics.specs.declared.command.Command.{Command}
use Rattle.wb_sics.specs.declared.command.Command.TheVariants.{Weight, WeightNow, Repeat, Zero, Tare, TareValue, PresetTare, BadTare, ClearTare, Cancel, Commands, SerialNumber, Unknown}
use Rattle.wb_sics.specs.Calls.{asked_at, calls, calls_of_command}
use Rattle.wb_sics.specs.Event.{TerminalEvent, reading, byte, hang_up, stored, readings_of}
use Rattle.wb_sics.specs.Lines.{line_command}
use Rattle.wb_sics.specs.Waiting.{tare_waits, zero_waits}

readings-asked_at : (i : Setup) (z t : Bool) (r : Reading) (k : List Call) → readings (moments i (asked_at z t r ++ k)) ≡ r ∷ readings (moments i k)
readings-asked_at i true t r k = readings-read_for_zero i r k
readings-asked_at i false true r k = readings-tare i (read r ∷ k) ∙ readings-read i r k
readings-asked_at i false false r k = readings-read i r k

readings-asked : (i : Setup) (c : Command) (k : List Call) → readings (moments i (calls_of_command c ++ k)) ≡ readings (moments i k)
readings-asked i Weight k = refl
readings-asked i WeightNow k = refl
readings-asked i Repeat k = refl
readings-asked i Zero k = readings-set_zero i k
readings-asked i Tare k = readings-tare i k
readings-asked i TareValue k = refl
readings-asked i (PresetTare grams) k = readings-preset i grams k
readings-asked i BadTare k = refl
readings-asked i ClearTare k = readings-clear_tare i k
readings-asked i Cancel k = readings-clear_tare i k
readings-asked i Commands k = refl
readings-asked i SerialNumber k = refl
readings-asked i Unknown k = refl

readings-nothing : readings [] ≡ []
unfolding readings
readings-nothing = refl

-- the scale has taken the readings of the terminal
pub readings-calls : (i : Setup) (h : List TerminalEvent) → readings (moments i (calls i h)) ≡ readings_of h
readings-calls i [] = readings-nothing
readings-calls i (reading r ∷ h) = readings-asked_at i (zero_waits i h) (tare_waits i h) r (calls i h) ∙ ap (λ rs. r ∷ rs) (readings-calls i h)
readings-calls i (byte b ∷ h) =
    elim (b == 10) as (λ t. readings (moments i (cond t (calls_of_command (line_command h) ++ calls i h) (calls i h))) ≡ readings_of h) [
      | true ↦ readings-asked i (line_command h) (calls i h) ∙ readings-calls i h
      | false ↦ readings-calls i h
    ]
readings-calls i (hang_up ∷ h) = readings-calls i h
readings-calls i (stored ∷ h) = readings-stored i (calls i h) ∙ readings-calls i h
