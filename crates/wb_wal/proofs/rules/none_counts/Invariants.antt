use Rattle.std.proofs.Common.{suc, length, ◌-◌}
use Rattle.wb_wal.specs.helpers.Behind.{HasPassed, IsCounting}
use Rattle.wb_wal.proofs.rules.none_counts.Given as goal

abbrev pub invariant-loop-frame : goal.invariant-loop-frame
invariant-loop-frame l = HasPassed (IsCounting l.page l.log) l.page l.log (suc l.stop.frame) l.at

abbrev pub decreases-loop-frame : goal.decreases-loop-frame
decreases-loop-frame l = length l.log - l.at
