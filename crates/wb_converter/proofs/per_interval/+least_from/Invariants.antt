use Rattle.std.proofs.Common.{length}
use Rattle.wb_converter.proofs.per_interval.+least_from.Given as goal

abbrev pub decreases-least_from : goal.decreases-least_from
decreases-least_from l = length l.points.now
