-- Line cutting: the stream since the last hang-up is cut at each LF, and one CR directly before it is removed.
use Rattle.std.specs.Prelude.{ℕ, ◌==◌, List, [], ◌∷◌, reverse, if◌then◌else◌, Option, Some, None}
use Rattle.std.specs.List.{before_first}
use Rattle.wb_sics.specs.declared.command.Command.{Command}
use Rattle.wb_sics.specs.Commands.{command_of}
use Rattle.wb_sics.specs.Event.{TerminalEvent, reading, byte, hang_up, stored}

-- the bytes since the last hang-up, the newest first
abbrev pub stream : List TerminalEvent → List ℕ
stream [] = []
stream (reading r ∷ h) = stream h
stream (byte b ∷ h) = b ∷ stream h
stream (hang_up ∷ h) = []
stream (stored ∷ h) = stream h

-- those of them that came after the last LF, the newest first
abbrev pub unfinished : List TerminalEvent → List ℕ
unfinished h = before_first (λ b. b == 10) (stream h)

-- bytes, the newest first, without a CR that came last
abbrev pub without_carriage_return : List ℕ → List ℕ
without_carriage_return [] = []
without_carriage_return (b ∷ bs) = if b == 13 then bs else (b ∷ bs)

-- the command of the line that an LF ends after this history
unfoldable pub line_command : List TerminalEvent → Command
line_command h = command_of (reverse (without_carriage_return (unfinished h)))

-- the command of the last line since the last hang-up, if there is one
abbrev pub commanded : List TerminalEvent → Option Command
commanded [] = None
commanded (reading r ∷ h) = commanded h
commanded (byte b ∷ h) = if b == 10 then Some (line_command h) else commanded h
commanded (hang_up ∷ h) = None
commanded (stored ∷ h) = commanded h

-- the commands of the lines since the last hang-up, the newest first
abbrev pub commands : List TerminalEvent → List Command
commands [] = []
commands (reading r ∷ h) = commands h
commands (byte b ∷ h) = if b == 10 then line_command h ∷ commands h else commands h
commands (hang_up ∷ h) = []
commands (stored ∷ h) = commands h
