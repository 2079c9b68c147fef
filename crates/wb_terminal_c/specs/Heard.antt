-- Bytes that are handed in together.
use Rattle.std.specs.Prelude.{ℕ, suc, ◌==◌, List, [], ◌∷◌, length, if◌then◌else◌}
use Rattle.wb_instrument.specs.Setup.{Setup}
use Rattle.wb_sics.specs.Event.{TerminalEvent, byte}
use Rattle.wb_sics.specs.Replies.{replies}

-- a history, and then these bytes in the order in which they came
abbrev pub heard_after : List ℕ → List TerminalEvent → List TerminalEvent
heard_after [] h = h
heard_after (b ∷ bs) h = heard_after bs (byte b ∷ h)

-- how many of these bytes are taken after a history: all of them up to the first at which there is a reply
abbrev pub until_reply : Setup → List TerminalEvent → List ℕ → ℕ
until_reply s h [] = 0
until_reply s h (b ∷ bs) = if length (replies s (byte b ∷ h)) == 0 then suc (until_reply s (byte b ∷ h) bs) else 1
