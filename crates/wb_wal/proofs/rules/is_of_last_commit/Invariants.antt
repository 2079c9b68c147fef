use Rattle.std.proofs.Common.{length, ◌-◌}
use Rattle.wb_wal.specs.helpers.Behind.{HasSeen}
use Rattle.wb_wal.proofs.rules.is_of_last_commit.Given as goal

abbrev pub invariant-loop-frame : goal.invariant-loop-frame
invariant-loop-frame l = HasSeen l.page l.log l.stop.frame l.at l.is_behind

abbrev pub decreases-loop-frame : goal.decreases-loop-frame
decreases-loop-frame l = length l.log - l.at
