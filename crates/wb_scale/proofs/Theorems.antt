-- What holds of every history of a scale.
use Rattle.wb_scale.specs.Drift.{FiveAtMost, ZeroInRange}
use Rattle.wb_scale.specs.Steady.{NearAll}
use Rattle.wb_scale.specs.Unmarked.{AllSameUnmarked}
use Rattle.wb_scale.proofs.Spacing.{five_at_most}
use Rattle.wb_scale.proofs.Steadiness.{near_all}
use Rattle.wb_scale.proofs.Unmarking.{all_same}
use Rattle.wb_scale.proofs.ZeroRange.{zero_in_range}

-- Zero tracking makes at most five steps in any readings in a row that come in a second.
pub law_of_drift : FiveAtMost
law_of_drift = five_at_most

-- The zero is never further than 2 % of Max from the calibration zero.
pub law_of_zero_range : ZeroInRange
law_of_zero_range = zero_in_range

-- Each of the readings behind a stable indication would indicate at most 1 e more or less.
pub law_of_steady_indication : NearAll
law_of_steady_indication = near_all

-- Stored weighings change nothing that is indicated or answered: the bridge alone is no longer cleared.
pub law_of_unmarked_histories : AllSameUnmarked
law_of_unmarked_histories = all_same
