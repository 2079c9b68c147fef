use Rattle.std.proofs.Common.{map, take}
use Rattle.std.specs.Prelude.{reverse}
use Rattle.wb_program.specs.helpers.Performed.{Performed}
use Rattle.wb_messages.specs.Happening.{byte}
use Rattle.wb_program.proofs.performing.type_text.Given as goal

abbrev pub invariant-loop-byte : goal.invariant-loop-byte
invariant-loop-byte g l =
    Performed g.D.Store (reverse (map byte (take l.byte-index l.text))) l.fn.station.terminal l.fn.station.office l.station.terminal l.station.office (g.O.Write.contents l.fn.writer)
    (g.O.Write.contents l.writer)
