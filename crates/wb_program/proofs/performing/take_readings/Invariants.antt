use Rattle.std.proofs.Common.{replicate}
use Rattle.wb_program.specs.helpers.Performed.{Performed}
use Rattle.wb_messages.specs.Happening.{reading}
use Rattle.wb_program.proofs.performing.take_readings.Given as goal

abbrev pub invariant-loop : goal.invariant-loop
invariant-loop g l =
    Performed g.D.Store (replicate l.counter (reading l.reading)) l.fn.station.terminal l.fn.station.office l.station.terminal l.station.office (g.O.Write.contents l.fn.writer) (g.O.Write.contents l.writer)
