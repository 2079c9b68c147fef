-- What becomes of a waiting command, at a reading and at a line's end, and of the repetition at a line's end.
use Rattle.std.specs.Option.{unwrap_or}
use Rattle.std.specs.Prelude.{◌-◌, Bool, true, false, nat_lt, List, ◌∷◌, if◌then◌else◌, Option, Some, None, is_some}
use Rattle.wb_instrument.specs.Setup.{Setup}
use Rattle.wb_window.specs.declared.reading.Reading.{Reading}
use Rattle.wb_scale.specs.Call.{Call, read}
use Rattle.wb_scale.specs.History.{moments}
use Rattle.wb_scale.specs.Moment.{Moment}
use Rattle.wb_sics.specs.declared.command.Command.{Command}
use Rattle.wb_sics.specs.declared.reply.Reply.{Reply}
use Rattle.wb_sics.specs.declared.waiting.Awaited.{Awaited}
use Rattle.wb_sics.specs.declared.waiting.Awaited.TheVariants.{Zero, Tare}
use Rattle.wb_sics.specs.declared.waiting.Waiting.{Waiting}
use Rattle.wb_sics.specs.Calls.{asked_at}
use Rattle.wb_sics.specs.Repetition.{turned_by}
use Rattle.wb_sics.specs.Replies.{decided}
use Rattle.wb_sics.specs.Waiting.{awaited_by, same}

-- what a reading asks of the scale with this waiting
abbrev pub asked_waiting : Option Waiting → Reading → List Call
asked_waiting None r = asked_at false false r
asked_waiting (Some w) r = asked_at (same Zero w.awaited) (same Tare w.awaited) r

-- what still waits after a reading at which the reply was decided or not
abbrev pub still : Bool → Waiting → Option Waiting
still true w = None
still false w = if nat_lt 1 w.left then Some (record { awaited = w.awaited; left = w.left - 1 }) else None

-- what waits after a reading, after these calls of the scale
abbrev pub waiting_read : Setup → List Call → Reading → Option Waiting → Option Waiting
waiting_read s k r None = None
waiting_read s k r (Some w) = still (is_some (decided s (moments s (read r ∷ k)) w.awaited)) w

-- a command waits from its LF on, where its reply is not decided there
abbrev pub unless_decided : Setup → Awaited → Option Reply → Option Waiting
unless_decided s kind None = Some (record { awaited = kind; left = s.wait })
unless_decided s kind (Some reply) = None

abbrev pub waiting_for : Setup → List Moment → Option Awaited → Option Waiting
waiting_for s ms None = None
waiting_for s ms (Some kind) = unless_decided s kind (decided s ms kind)

-- what waits from a command's LF on
abbrev pub waiting_from : Setup → List Moment → Command → Option Waiting
waiting_from s ms command = waiting_for s ms (awaited_by command)

-- whether the value is repeated from a command's LF on, where it was or not before
abbrev pub repeats_from : Command → Bool → Bool
repeats_from command repeating = unwrap_or (turned_by command) repeating
