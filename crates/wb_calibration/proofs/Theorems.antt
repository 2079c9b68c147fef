-- What holds of every calibration.
use Rattle.wb_calibration.specs.Laws.{AllBetween, AllInOrder, AllNear, AllOnLine, ExactAtPoints, FaultlessAre}
use Rattle.wb_calibration.proofs.Between.{all_between}
use Rattle.wb_calibration.proofs.Faults.{faultless_are}
use Rattle.wb_calibration.proofs.Lines.{all_in_order, all_near, all_on_line, exact_at_points}

-- The points without a fault are those of a calibration.
pub law_of_faultless_points : FaultlessAre
law_of_faultless_points = faultless_are

-- The two points whose line holds are those between which the counts lie, or those at the end that the counts are past.
pub law_of_neighbours : AllBetween
law_of_neighbours = all_between

-- All counts are those of some tenths on the line.
pub law_of_all_counts : AllOnLine
law_of_all_counts = all_on_line

-- At each point the load is that point's.
pub law_of_points : ExactAtPoints
law_of_points = exact_at_points

-- More counts give no less load, or fewer counts, for a cell whose counts fall.
pub law_of_order : AllInOrder
law_of_order = all_in_order

-- The load is at most half a tenth from the straight line.
pub law_of_nearness : AllNear
law_of_nearness = all_near
