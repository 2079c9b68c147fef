use Rattle.std.proofs.Common.{length, ◌-◌}
use Rattle.wb_wal.specs.helpers.Stop.{StandsAt}
use Rattle.wb_wal.proofs.frames.first_stop.Given as goal

abbrev pub invariant-loop-frame : goal.invariant-loop-frame
invariant-loop-frame l = StandsAt l.page l.log l.stop

abbrev pub decreases-loop-frame : goal.decreases-loop-frame
decreases-loop-frame l = length l.log - l.stop.at
