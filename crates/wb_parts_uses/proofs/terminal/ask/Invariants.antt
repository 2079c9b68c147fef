use Rattle.std.proofs.Common.{map, take}
use Rattle.std.specs.Prelude.{reverse}
use Rattle.wb_sics.specs.Event.{byte}
use Rattle.wb_sics.specs.Stands.{TerminalTakesAll}
use Rattle.wb_parts_uses.proofs.terminal.ask.Given as goal

-- the bytes before this one were taken
abbrev pub invariant-loop-byte : goal.invariant-loop-byte
invariant-loop-byte g l = TerminalTakesAll l.fn.terminal l.terminal (reverse (map byte (take l.byte-index l.line)))
