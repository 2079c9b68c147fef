-- What an output shows that is in one of two rooms.
use Rattle.std.specs.Prelude.{ℕ, List}
use Rattle.wb_sics.specs.declared.reply.Reply.{Reply}
use Rattle.wb_station.specs.declared.event.Room.{Room}
use Rattle.wb_station.specs.declared.event.Room.TheVariants as room
use Rattle.wb_station.specs.Account.{Out, nothing, replied, responded}

-- replies and a response, each in a room of its own, and which of them is put out
abbrev pub shown_in : Room → List Reply → List ℕ → Out
shown_in room.Replies replies response = replied replies
shown_in room.Response replies response = responded response
shown_in room.Nothing replies response = nothing
