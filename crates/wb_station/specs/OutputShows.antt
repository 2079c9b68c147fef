-- What an output shows.
use Rattle.wb_station.specs.declared.event.Output.{Output}
use Rattle.wb_station.specs.declared.event.Output.TheVariants.{Nothing, Replies, Response}
use Rattle.wb_station.specs.Account.{Out, nothing, replied, responded}

abbrev pub out_shown : Output → Out
out_shown (Replies rs) = replied rs.now.items
out_shown (Response bytes) = responded bytes.now
out_shown Nothing = nothing
