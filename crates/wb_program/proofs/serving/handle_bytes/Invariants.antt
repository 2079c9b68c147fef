use Rattle.std.proofs.Common.{[], map, take}
use Rattle.std.specs.Prelude.{reverse}
use Rattle.wb_program.specs.Served.{Handled}
use Rattle.wb_messages.specs.Happening.{byte}
use Rattle.wb_program.proofs.serving.handle_bytes.Given as goal

abbrev pub invariant-loop-byte : goal.invariant-loop-byte
invariant-loop-byte g l =
    Handled g.D.Store l.fn.station.terminal l.fn.station.office l.station.terminal l.station.office (g.S.Sources.told l.fn.sources) (g.S.Sources.told l.sources) []
    (reverse (map byte (take l.byte-index l.bytes)))
