use Rattle.wb_program.proofs.Turns.{Serving}
use Rattle.wb_program.proofs.serving.serve.Given as goal

abbrev pub invariant-loop-count : goal.invariant-loop-count
invariant-loop-count g l =
    Serving g.D.Store l.count l.fn.station.terminal l.fn.station.office l.station.terminal l.station.office (g.S.Sources.told l.fn.sources) (g.S.Sources.told l.sources)
