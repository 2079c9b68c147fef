-- A law: a terminal's replies are those of its history without the stored weighings.
use Rattle.std.specs.Prelude.{◌≡◌, List, [], ◌∷◌}
use Rattle.wb_instrument.specs.Setup.{Setup}
use Rattle.wb_sics.specs.Event.{TerminalEvent, reading, byte, hang_up, stored}
use Rattle.wb_sics.specs.Replies.{replies}

-- the readings, bytes and hang-ups of a history
abbrev pub heard : List TerminalEvent → List TerminalEvent
heard [] = []
heard (reading r ∷ h) = reading r ∷ heard h
heard (byte b ∷ h) = byte b ∷ heard h
heard (hang_up ∷ h) = hang_up ∷ heard h
heard (stored ∷ h) = heard h

-- the replies at every event are those of the readings, bytes and hang-ups alone: stored weighings change none
abbrev pub RepliesToHeard : Type 0
RepliesToHeard = (s : Setup) (e : TerminalEvent) (h : List TerminalEvent) → replies s (e ∷ heard h) ≡ replies s (e ∷ h)
