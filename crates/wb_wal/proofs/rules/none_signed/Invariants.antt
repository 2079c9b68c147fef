use Rattle.std.proofs.Common.{length, ◌-◌}
use Rattle.wb_wal.specs.Look.{HasSalts}
use Rattle.wb_wal.specs.helpers.Behind.{HasPassed}
use Rattle.wb_wal.proofs.rules.none_signed.Given as goal

abbrev pub invariant-loop-frame : goal.invariant-loop-frame
invariant-loop-frame l = HasPassed (HasSalts l.page l.log) l.page l.log l.stop.frame l.at

abbrev pub decreases-loop-frame : goal.decreases-loop-frame
decreases-loop-frame l = length l.log - l.at
