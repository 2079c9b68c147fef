use Rattle.std.proofs.Common.{length}
use Rattle.wb_converter.proofs.taken.+push_with.Given as goal

abbrev pub decreases-push_with : goal.decreases-push_with
decreases-push_with l = length l.points.now
