use Rattle.std.proofs.Common.{length, ◌-◌}
use Rattle.wb_wal.specs.helpers.Commit.{StandsIn}
use Rattle.wb_wal.proofs.rules.may_have_lost.Given as goal

abbrev pub invariant-loop-head : goal.invariant-loop-head
invariant-loop-head l = StandsIn l.page l.log l.stop.first l.at l.frame l.commit

abbrev pub decreases-loop-head : goal.decreases-loop-head
decreases-loop-head l = length l.log - l.at
