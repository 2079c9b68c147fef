-- When `S`, `Z` and `T` wait (times and order are this project's own); what waits after a history is put together in Replies.
use Rattle.std.specs.Prelude.{ℕ, ◌==◌, ◌+◌, Bool, true, false, not, ◌&&◌, ◌||◌, nat_lt, List, [], ◌∷◌, if◌then◌else◌, Option, Some, None, option_and_then}
use Rattle.wb_instrument.specs.Setup.{Setup}
use Rattle.wb_window.specs.Stability.{is_stable}
use Rattle.wb_sics.specs.declared.command.Command.{Command}
use Rattle.wb_sics.specs.declared.command.Command.TheVariants.{Weight, WeightNow, Repeat, Zero, Tare, TareValue, PresetTare, BadTare, ClearTare, Cancel, Commands, SerialNumber, Unknown}
use Rattle.wb_sics.specs.declared.waiting.Awaited.{Awaited}
use Rattle.wb_sics.specs.declared.waiting.Awaited.TheVariants.{Weight as AwaitedWeight, Zero as AwaitedZero, Tare as AwaitedTare}
use Rattle.wb_sics.specs.Event.{TerminalEvent, reading, byte, hang_up, stored, readings_of}
use Rattle.wb_sics.specs.Lines.{commanded}

-- what a command may wait for
abbrev pub awaited_by : Command → Option Awaited
awaited_by Weight = Some AwaitedWeight
awaited_by WeightNow = None
awaited_by Repeat = None
awaited_by Zero = Some AwaitedZero
awaited_by Tare = Some AwaitedTare
awaited_by TareValue = None
awaited_by (PresetTare grams) = None
awaited_by BadTare = None
awaited_by ClearTare = None
awaited_by Cancel = None
awaited_by Commands = None
awaited_by SerialNumber = None
awaited_by Unknown = None

abbrev pub same : Awaited → Awaited → Bool
same AwaitedWeight AwaitedWeight = true
same AwaitedWeight AwaitedZero = false
same AwaitedWeight AwaitedTare = false
same AwaitedZero AwaitedWeight = false
same AwaitedZero AwaitedZero = true
same AwaitedZero AwaitedTare = false
same AwaitedTare AwaitedWeight = false
same AwaitedTare AwaitedZero = false
same AwaitedTare AwaitedTare = true

abbrev pub may_be : Awaited → Option Awaited → Bool
may_be kind None = false
may_be kind (Some awaited) = same kind awaited

-- how many readings came since the last line or hang-up
abbrev pub readings_since : List TerminalEvent → ℕ
readings_since [] = 0
readings_since (reading r ∷ h) = readings_since h + 1
readings_since (byte b ∷ h) = if b == 10 then 0 else readings_since h
readings_since (hang_up ∷ h) = 0
readings_since (stored ∷ h) = readings_since h

-- the condition held at the last LF, or at some reading since, with no hang-up since
abbrev pub held_since : (List TerminalEvent → Bool) → List TerminalEvent → Bool
held_since now [] = false
held_since now (reading r ∷ h) = now (reading r ∷ h) || held_since now h
held_since now (byte b ∷ h) = if b == 10 then now (byte b ∷ h) else held_since now h
held_since now (hang_up ∷ h) = false
held_since now (stored ∷ h) = held_since now h

-- the last line's command waits for this: its condition has not held since, and fewer readings than the limit came since
unfoldable pub waits : Awaited → (List TerminalEvent → Bool) → ℕ → List TerminalEvent → Bool
waits kind now limit h = may_be kind (option_and_then awaited_by (commanded h)) && not (held_since now h) && nat_lt (readings_since h) limit

-- the scale is stable
abbrev pub stable_at : Setup → List TerminalEvent → Bool
stable_at s h = is_stable s.window s.band (readings_of h)

-- zero setting waits, and tare balancing waits, until the scale is stable
abbrev pub zero_waits : Setup → List TerminalEvent → Bool
zero_waits s h = waits AwaitedZero (stable_at s) s.wait h

abbrev pub tare_waits : Setup → List TerminalEvent → Bool
tare_waits s h = waits AwaitedTare (stable_at s) s.wait h
