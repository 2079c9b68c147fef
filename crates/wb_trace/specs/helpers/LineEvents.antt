-- What happens at a line.
use Rattle.std.specs.Prelude.{ℕ, false, ◌≤◌, List, [], ◌∷◌, length, map, replicate, take}
use Rattle.wb_window.specs.Reading.{IsReading}
use Rattle.wb_trace.specs.declared.trace_line.TraceLine.{TraceLine}
use Rattle.wb_trace.specs.declared.trace_line.TraceLine.TheVariants.{Nothing, Readings, Text, Bytes, HangUp, Request}
use Rattle.wb_messages.specs.Happening.{Happening, reading, byte, hang_up, office}
use Rattle.wb_trace.specs.TraceLines.{typed}

-- in their order, over the room that holds the bytes of hexadecimal digits and of requests
abbrev pub events_of : List ℕ → TraceLine → List Happening
events_of room Nothing = []
events_of room (Readings r times) = replicate times (reading r)
events_of room (Text text) = typed text.now
events_of room (Bytes count) = map byte (take count room)
events_of room HangUp = hang_up ∷ []
events_of room (Request moment count) = office moment (take count room) false ∷ []

-- what is read of a line: loads in range, and no more bytes than the room has
abbrev pub IsReadLine : List ℕ → TraceLine → Type 0
IsReadLine room Nothing = Unit {0}
IsReadLine room (Readings r times) = IsReading r
IsReadLine room (Text text) = Unit {0}
IsReadLine room (Bytes count) = count ≤ length room
IsReadLine room HangUp = Unit {0}
IsReadLine room (Request moment count) = count ≤ length room
