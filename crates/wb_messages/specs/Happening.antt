-- What happens at a station.
use Rattle.std.specs.Prelude.{ℕ, Bool, false, List, [], ◌∷◌}
use Rattle.wb_sics.specs.Event as terminal
use Rattle.wb_sics.specs.Event.{TerminalEvent}
use Rattle.wb_window.specs.Reading.{IsReading}
use Rattle.wb_window.specs.declared.reading.Reading.{Reading as Load}
use Rattle.wb_messages.specs.declared.event.Event.{Event}
use Rattle.wb_messages.specs.declared.event.Event.TheVariants.{Byte, Hangup, Office, Reading}

-- a history is the list of these, the newest first
pub data Happening : Type 0 where
  -- a reading of the load converter
  reading : Load → Happening
  -- a byte of the terminal's stream
  byte : ℕ → Happening
  -- the terminal's connection ends
  hang_up : Happening
  -- a request to the office: its moment, its bytes, and whether it counts as never made, because it was answered 503
  office : ℕ → List ℕ → Bool → Happening

-- an event; a request with the mark whether it counts as never made
abbrev pub happening : Bool → Event → Happening
happening unmade (Reading r) = reading r
happening unmade (Byte b) = byte b
happening unmade Hangup = hang_up
happening unmade (Office moment bytes) = office moment bytes.now unmade

-- without the mark
abbrev pub unmarked : Happening → Happening
unmarked (reading r) = reading r
unmarked (byte b) = byte b
unmarked hang_up = hang_up
unmarked (office moment bytes unmade) = office moment bytes false

-- the readings, bytes and hang-ups of a history: what the terminal hears
abbrev pub heard_of : List Happening → List TerminalEvent
heard_of [] = []
heard_of (reading r ∷ h) = terminal.reading r ∷ heard_of h
heard_of (byte b ∷ h) = terminal.byte b ∷ heard_of h
heard_of (hang_up ∷ h) = terminal.hang_up ∷ heard_of h
heard_of (office moment bytes unmade ∷ h) = heard_of h

-- the load of a reading is in its range
abbrev pub IsTaken : Event → Type 0
IsTaken (Reading r) = IsReading r
IsTaken (Byte b) = Unit {0}
IsTaken Hangup = Unit {0}
IsTaken (Office moment bytes) = Unit {0}
