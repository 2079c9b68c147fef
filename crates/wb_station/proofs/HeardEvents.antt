-- What the terminal took, as the station shows it.
use Rattle.std.proofs.Common.{ℕ, List, Option, subst, sym}
use Rattle.wb_messages.specs.declared.notice.Notice.{Notice}
use Rattle.sqlite.specs.Store.{Ghosts}
use Rattle.wb_sics.specs.declared.reply.Reply.{Reply}
use Rattle.wb_sics.specs.Stands.{TerminalState}
use Rattle.wb_store.specs.Journal.{StoreView}
use Rattle.wb_station.specs.declared.event.AtTerminal.TheVariants.{Byte, Hangup}
use Rattle.wb_station.specs.declared.event.Room.{Room}
use Rattle.wb_station.specs.helpers.Hearing.{Heard}
use Rattle.wb_station.specs.helpers.RoomShows.{shown_in}
use Rattle.wb_messages.specs.Happening.{byte, hang_up}
use Rattle.wb_station.specs.Stands.{Took}
use Rattle.wb_station.proofs.Accounts.{byte_took, hang_up_took}

module _ {D : Type 0} (g : Ghosts D) (j : StoreView D) (rs : List Reply) (notice : Option Notice) (response : List ℕ) (t t' : TerminalState) (room : Room) where
  pub byte_heard : (b : ℕ) → Heard (Byte b) t t' rs notice room → Took g (byte b) (shown_in room rs response) t j t' j
  byte_heard b is = subst (λ x. Took g (byte b) (shown_in x rs response) t j t' j) (sym is.in_room) (byte_took g j b rs t t' is.takes is.replies)

  pub hang_up_heard : Heard Hangup t t' rs notice room → Took g hang_up (shown_in room rs response) t j t' j
  hang_up_heard is = subst (λ x. Took g hang_up (shown_in x rs response) t j t' j) (sym is.in_room) (hang_up_took g j t t' is.takes)
