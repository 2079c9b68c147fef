-- What waits after a history of a terminal, and the replies at its newest event.
use Rattle.std.specs.Prelude.{◌==◌, ◌-◌, ℕ, Bool, true, false, nat_lt, List, [], ◌∷◌, ◌++◌, if◌then◌else◌, Option, Some, None, is_some, option_to_list}
use Rattle.wb_instrument.specs.Setup.{Setup}
use Rattle.wb_window.specs.declared.reading.Reading.{Reading}
use Rattle.wb_scale.specs.Call.{Call, read}
use Rattle.wb_scale.specs.History.{moments}
use Rattle.wb_scale.specs.Indication.{indicated}
use Rattle.wb_scale.specs.Moment.{Moment, readings}
use Rattle.wb_scale.specs.Tare.{preset_answer, tare_answer, tare_in_kilograms, tare_now}
use Rattle.wb_scale.specs.Zero.{zero_answer}
use Rattle.wb_sics.specs.declared.command.Command.{Command}
use Rattle.wb_sics.specs.declared.command.Command.TheVariants.{Weight, WeightNow, Repeat, Zero, Tare, TareValue, PresetTare, BadTare, ClearTare, Cancel, Commands, SerialNumber, Unknown}
use Rattle.wb_sics.specs.declared.reply.CommandName.TheVariants.{Cancel as CancelName, Commands as CommandsName, SerialNumber as SerialNumberName, Weight as WeightName, WeightNow as WeightNowName, Repeat as RepeatName, Zero as ZeroName, Tare as TareName, TareValue as TareValueName, ClearTare as ClearTareName}
use Rattle.wb_sics.specs.declared.reply.Reply.{Reply}
use Rattle.wb_sics.specs.declared.reply.Reply.TheVariants.{PresetBad, TareCleared, TareValue as TareReply, SerialNumber as SerialReply, Listed, Error}
use Rattle.wb_sics.specs.declared.waiting.Awaited.{Awaited}
use Rattle.wb_sics.specs.declared.waiting.Awaited.TheVariants.{Weight as AwaitedWeight, Zero as AwaitedZero, Tare as AwaitedTare}
use Rattle.wb_sics.specs.declared.waiting.Waiting.{Waiting}
use Rattle.wb_sics.specs.Answers.{reply_to_weight_now, reply_to_weight, reply_to_zero, reply_to_tare, reply_to_preset, reply_to_given_up}
use Rattle.wb_sics.specs.Calls.{calls}
use Rattle.wb_sics.specs.Event.{TerminalEvent, reading, byte, hang_up, stored}
use Rattle.wb_sics.specs.Lines.{line_command}
use Rattle.wb_sics.specs.Repetition.{is_repeating}
use Rattle.wb_sics.specs.Waiting.{waits, zero_waits, tare_waits, readings_since}

-- what came of the scale's calls
abbrev pub moments_of : Setup → List TerminalEvent → List Moment
moments_of s h = moments s (calls s h)

-- the reply to what is awaited, decided by these moments: none where the weight can't be given yet, or the scale isn't stable
abbrev pub decided : Setup → List Moment → Awaited → Option Reply
decided s ms AwaitedWeight = reply_to_weight s (indicated s ms)
decided s ms AwaitedZero = reply_to_zero (zero_answer s (readings ms))
decided s ms AwaitedTare = reply_to_tare (tare_answer s ms)

-- the weight can be given: over, under or stable
abbrev pub weight_at : Setup → List TerminalEvent → Bool
weight_at s h = is_some (decided s (moments_of s h) AwaitedWeight)

-- a command for the weight waits until it can be given
abbrev pub weight_waits : Setup → List TerminalEvent → Bool
weight_waits s h = waits AwaitedWeight (weight_at s) s.wait h

-- the one that waits, if any does, for so many readings more
abbrev pub one_of : Bool → Bool → Bool → ℕ → Option Waiting
one_of weight zero tare left =
    if weight then Some (record { awaited = AwaitedWeight; left = left })
    else if zero then Some (record { awaited = AwaitedZero; left = left })
    else if tare then Some (record { awaited = AwaitedTare; left = left })
    else None

-- what waits after a history, and for how many readings more; nothing waits after a hang-up
abbrev pub waiting_after : Setup → List TerminalEvent → Option Waiting
waiting_after s h = one_of (weight_waits s h) (zero_waits s h) (tare_waits s h) (s.wait - readings_since h)

-- the commands, in their order
abbrev pub listed_commands : List Reply
listed_commands =
    Listed CancelName ∷ Listed CommandsName ∷ Listed SerialNumberName ∷ Listed WeightName ∷ Listed WeightNowName ∷ Listed RepeatName ∷ Listed ZeroName
    ∷ Listed TareName ∷ Listed TareValueName ∷ Listed ClearTareName ∷ []

-- a command's own reply at its LF, after these moments of the scale; none where it waits, and none to `SIR`
abbrev pub own_reply : Setup → List Moment → Command → List Reply
own_reply s ms Weight = option_to_list (decided s ms AwaitedWeight)
own_reply s ms WeightNow = reply_to_weight_now s (indicated s ms) ∷ []
own_reply s ms Repeat = []
own_reply s ms Zero = option_to_list (decided s ms AwaitedZero)
own_reply s ms Tare = option_to_list (decided s ms AwaitedTare)
own_reply s ms TareValue = TareReply (tare_in_kilograms s (tare_now ms)) ∷ []
own_reply s ms (PresetTare grams) = reply_to_preset (preset_answer s ms grams) ∷ []
own_reply s ms BadTare = PresetBad ∷ []
own_reply s ms ClearTare = TareCleared ∷ []
own_reply s ms Cancel = SerialReply s.serial ∷ []
own_reply s ms Commands = listed_commands
own_reply s ms SerialNumber = SerialReply s.serial ∷ []
own_reply s ms Unknown = Error ∷ []

abbrev pub is_cancel : Command → Bool
is_cancel Weight = false
is_cancel WeightNow = false
is_cancel Repeat = false
is_cancel Zero = false
is_cancel Tare = false
is_cancel TareValue = false
is_cancel (PresetTare grams) = false
is_cancel BadTare = false
is_cancel ClearTare = false
is_cancel Cancel = true
is_cancel Commands = false
is_cancel SerialNumber = false
is_cancel Unknown = false

-- the refusal of what waits, before another line's reply; `@` alone drops it unanswered
abbrev pub refused_by : Command → Option Waiting → List Reply
refused_by next None = []
refused_by next (Some w) = if is_cancel next then [] else (reply_to_given_up w.awaited ∷ [])

-- the reply to what waits at a reading: the decided one, else none before the last reading that it waits, and there a refusal
abbrev pub reply_at : Option Reply → Waiting → List Reply
reply_at (Some reply) w = reply ∷ []
reply_at None w = if nat_lt 1 w.left then [] else (reply_to_given_up w.awaited ∷ [])

-- the replies to what waits at a reading, after these calls of the scale
abbrev pub replies_read : Setup → List Call → Reading → Option Waiting → List Reply
replies_read s k r None = []
replies_read s k r (Some w) = reply_at (decided s (moments s (read r ∷ k)) w.awaited) w

-- the reply to `SI` once more, after these moments of the scale, if the value is repeated
abbrev pub repeated_reply : Setup → List Moment → Bool → List Reply
repeated_reply s ms true = reply_to_weight_now s (indicated s ms) ∷ []
repeated_reply s ms false = []

-- the replies at the newest event: at a reading that to what waited, and then the repeated value; a hang-up has none, whatever waits
unfoldable pub replies : Setup → List TerminalEvent → List Reply
replies s [] = []
replies s (reading r ∷ h) = replies_read s (calls s h) r (waiting_after s h) ++ repeated_reply s (moments_of s (reading r ∷ h)) (is_repeating h)
replies s (byte b ∷ h) =
    if b == 10
    then refused_by (line_command h) (waiting_after s h) ++ own_reply s (moments_of s h) (line_command h)
    else []
replies s (hang_up ∷ h) = []
replies s (stored ∷ h) = []
