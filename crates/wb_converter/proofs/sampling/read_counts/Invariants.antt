use Rattle.std.proofs.Common.{Some, map}
use Rattle.wb_converter.proofs.LinesOfCounts.{IsCounted}
use Rattle.wb_converter.proofs.sampling.read_counts.Given as goal

abbrev pub invariant-loop : goal.invariant-loop
invariant-loop g l = IsCounted (g.I.Read.remaining l.fn.input) (g.I.Read.remaining l.input) l.lines (map Some l.counts.items) l.line
