-- What holds of every history of a terminal.
use Rattle.wb_scale.proofs.Theorems.{law_of_unmarked_histories}
use Rattle.wb_sics.specs.Heard.{RepliesToHeard}
use Rattle.wb_sics.specs.Stands.{TakesStored}
use Rattle.wb_sics.proofs.Hearing.{replies_to_heard}
use Rattle.wb_sics.proofs.Standing.{takes_stored}

-- The terminal takes a stored weighing as soon as its scale does: it keeps what waits and the unfinished line.
pub law_of_stored_weighings : TakesStored
law_of_stored_weighings = takes_stored

-- The replies are those of the readings, bytes and hang-ups alone: stored weighings change none.
pub law_of_replies : RepliesToHeard
law_of_replies = replies_to_heard law_of_unmarked_histories
