-- What the terminal took, and where its replies are.
use Rattle.std.specs.Prelude.{◌≡◌, List, [], ◌∷◌, Option, None}
use Rattle.wb_messages.specs.declared.notice.Notice.{Notice}
use Rattle.wb_sics.specs.declared.reply.Reply.{Reply}
use Rattle.wb_sics.specs.Event as terminal
use Rattle.wb_sics.specs.Event.{TerminalEvent}
use Rattle.wb_sics.specs.Replies.{replies}
use Rattle.wb_sics.specs.Stands.{TerminalStands, TerminalState, TerminalTakesAll}
use Rattle.wb_station.specs.Notices.{zero_notice}
use Rattle.wb_station.specs.declared.event.AtTerminal.{AtTerminal}
use Rattle.wb_station.specs.declared.event.AtTerminal.TheVariants.{Byte, Hangup, Reading}
use Rattle.wb_station.specs.declared.event.Room.{Room}
use Rattle.wb_station.specs.declared.event.Room.TheVariants.{Nothing, Replies}
use Rattle.wb_window.specs.Reading.{IsReading}

-- the load of a reading is in its range
abbrev pub IsEventInRange : AtTerminal → Type 0
IsEventInRange (Reading r) = IsReading r
IsEventInRange (Byte b) = Unit {0}
IsEventInRange Hangup = Unit {0}

abbrev pub event_of : AtTerminal → TerminalEvent
event_of (Reading r) = terminal.reading r
event_of (Byte b) = terminal.byte b
event_of Hangup = terminal.hang_up

-- where its replies are; a hang-up has none
abbrev pub room_of : AtTerminal → Room
room_of (Reading r) = Replies
room_of (Byte b) = Replies
room_of Hangup = Nothing

-- they are the replies to it
abbrev pub AreRepliesTo : AtTerminal → TerminalState → List Reply → Type 0
AreRepliesTo (Reading r) t rs = (events : List TerminalEvent) → TerminalStands t events → rs ≡ replies t.scale.setup (terminal.reading r ∷ events)
AreRepliesTo (Byte b) t rs = (events : List TerminalEvent) → TerminalStands t events → rs ≡ replies t.scale.setup (terminal.byte b ∷ events)
AreRepliesTo Hangup t rs = Unit {0}

-- what is noticed of it
abbrev pub IsNoticeOf : AtTerminal → TerminalState → Option Notice → Type 0
IsNoticeOf (Reading r) t notice = (events : List TerminalEvent) → TerminalStands t events → notice ≡ zero_notice t.scale.setup (terminal.reading r ∷ events)
IsNoticeOf (Byte b) t notice = (events : List TerminalEvent) → TerminalStands t events → notice ≡ zero_notice t.scale.setup (terminal.byte b ∷ events)
IsNoticeOf Hangup t notice = notice ≡ None

-- the terminal took it, left these replies in that room, and this is noticed
pub record Heard (event : AtTerminal) (t t' : TerminalState) (rs : List Reply) (n : Option Notice) (room : Room) : Type 0 where
  pub takes : TerminalTakesAll t t' (event_of event ∷ [])
  pub in_room : room ≡ room_of event
  pub replies : AreRepliesTo event t rs
  pub notice : IsNoticeOf event t n
