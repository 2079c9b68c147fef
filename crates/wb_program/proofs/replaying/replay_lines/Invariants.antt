use Rattle.std.proofs.Common.{length}
use Rattle.wb_program.proofs.ReplayedLines.{Replaying}
use Rattle.wb_program.proofs.replaying.replay_lines.Given as goal

abbrev pub invariant-loop-line : goal.invariant-loop-line
invariant-loop-line g l =
    Replaying l.fn.trace l.rest l.number l.fn.station.terminal l.fn.station.office l.station.terminal l.station.office (g.O.Write.contents l.fn.writer) (g.O.Write.contents l.writer)

abbrev pub decreases-loop-line : goal.decreases-loop-line
decreases-loop-line g l = length l.rest
