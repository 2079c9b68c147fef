-- What comes to a terminal.
use Rattle.std.specs.Prelude.{ℕ, List, [], ◌∷◌}
use Rattle.wb_window.specs.declared.reading.Reading.{Reading}

-- an event; a history is the list of these, the newest first
pub data TerminalEvent : Type 0 where
  -- a reading of the load converter
  reading : Reading → TerminalEvent
  -- a byte of the terminal's stream
  byte : ℕ → TerminalEvent
  -- the connection ends: the unfinished line, the command that waits and the repetition are dropped without a reply; zero and tare stay
  hang_up : TerminalEvent
  -- the office stored a weighing
  stored : TerminalEvent

-- the readings of a history, the newest first
abbrev pub readings_of : List TerminalEvent → List Reading
readings_of [] = []
readings_of (reading r ∷ h) = r ∷ readings_of h
readings_of (byte b ∷ h) = readings_of h
readings_of (hang_up ∷ h) = readings_of h
readings_of (stored ∷ h) = readings_of h
