use Rattle.std.proofs.Common.{length}
use Rattle.wb_calibration.proofs.segment.+segment_from.Given as goal

abbrev pub decreases-segment_from : goal.decreases-segment_from
decreases-segment_from l = length l.above.now
