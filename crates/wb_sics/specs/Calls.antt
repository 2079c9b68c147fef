-- What a terminal's history asks of its scale.
use Rattle.std.specs.Prelude.{◌==◌, Bool, true, false, List, [], ◌∷◌, ◌++◌, if◌then◌else◌}
use Rattle.wb_instrument.specs.Setup.{Setup}
use Rattle.wb_window.specs.declared.reading.Reading.{Reading}
use Rattle.wb_scale.specs.Call.{Call, read, read_for_zero, set_zero, tare, preset, clear_tare, stored as stored_call}
use Rattle.wb_sics.specs.declared.command.Command.{Command}
use Rattle.wb_sics.specs.declared.command.Command.TheVariants.{Weight, WeightNow, Repeat, Zero, Tare, TareValue, PresetTare, BadTare, ClearTare, Cancel, Commands, SerialNumber, Unknown}
use Rattle.wb_sics.specs.Event.{TerminalEvent, reading, byte, hang_up, stored}
use Rattle.wb_sics.specs.Lines.{line_command}
use Rattle.wb_sics.specs.Waiting.{zero_waits, tare_waits}

-- what a command asks of the scale at its LF
abbrev pub calls_of_command : Command → List Call
calls_of_command Weight = []
calls_of_command WeightNow = []
calls_of_command Repeat = []
calls_of_command Zero = set_zero ∷ []
calls_of_command Tare = tare ∷ []
calls_of_command TareValue = []
calls_of_command (PresetTare grams) = preset grams ∷ []
calls_of_command BadTare = []
calls_of_command ClearTare = clear_tare ∷ []
calls_of_command Cancel = clear_tare ∷ []
calls_of_command Commands = []
calls_of_command SerialNumber = []
calls_of_command Unknown = []

-- what a reading asks of it: a waiting zero setting is decided before tracking, a waiting tare balancing after it
abbrev pub asked_at : Bool → Bool → Reading → List Call
asked_at true tared r = read_for_zero r ∷ []
asked_at false true r = tare ∷ read r ∷ []
asked_at false false r = read r ∷ []

-- the scale's own history, the newest call first
abbrev pub calls : Setup → List TerminalEvent → List Call
calls s [] = []
calls s (reading r ∷ h) = asked_at (zero_waits s h) (tare_waits s h) r ++ calls s h
calls s (byte b ∷ h) = if b == 10 then calls_of_command (line_command h) ++ calls s h else calls s h
calls s (hang_up ∷ h) = calls s h
calls s (stored ∷ h) = stored_call ∷ calls s h
