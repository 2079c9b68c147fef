-- Notices: the zero that an event set, or the status and the entry of the answer to a request.
use Rattle.std.specs.Prelude.{◌≡◌, ◌≢◌, ℕ, Bool, true, false, List, [], ◌∷◌, if◌then◌else◌, Option, Some, None, option_map, Result, Ok, Err}
use Rattle.std.specs.List.{list_any}
use Rattle.sqlite.specs.Store.{Ghosts}
use Rattle.wb_http.specs.declared.fault.HttpFault.{HttpFault}
use Rattle.wb_http.specs.HttpJudgement.{IsJudged}
use Rattle.wb_http.specs.Response.{ResponseContent, response_text}
use Rattle.wb_instrument.specs.Setup.{Setup}
use Rattle.wb_journal.specs.declared.entry.EntryParts.{EntryParts}
use Rattle.wb_messages.specs.declared.notice.EntryName.{EntryName}
use Rattle.wb_messages.specs.declared.notice.Notice.{Notice}
use Rattle.wb_messages.specs.declared.notice.Notice.TheVariants.{Answered, ZeroSet}
use Rattle.wb_messages.specs.declared.request.Request.{Request}
use Rattle.wb_messages.specs.Happening.{Happening, reading, byte, hang_up, office}
use Rattle.wb_office.specs.NamedEntry.{entry_answered, name_of}
use Rattle.wb_office.specs.Situation.{Situation}
use Rattle.wb_scale.specs.History.{moments}
use Rattle.wb_scale.specs.Zero.{zero_now}
use Rattle.wb_sics.specs.Calls.{calls}
use Rattle.wb_sics.specs.declared.reply.Reply.{Reply}
use Rattle.wb_sics.specs.declared.reply.Reply.TheVariants.{ZeroDone}
use Rattle.wb_sics.specs.Event as terminal
use Rattle.wb_sics.specs.Event.{TerminalEvent}
use Rattle.wb_sics.specs.Replies.{replies}
use Rattle.wb_sics.specs.Stands.{TerminalStands, TerminalState}
use Rattle.wb_station.specs.Account.{Account, Out, responded, situation_at}
use Rattle.wb_station.specs.Stands.{StationStands}
use Rattle.wb_store.specs.declared.fault.StoreFault.{StoreFault}
use Rattle.wb_store.specs.Journal.{IsHonest, StoreView}

-- ---- at the terminal

abbrev pub is_zero_set : Reply → Bool
is_zero_set ZeroDone = true
is_zero_set _ = false

-- the zero after these events, in tenths of e from the calibration zero, if one of these replies is that it was set
abbrev pub zero_if_set : Setup → List Reply → List TerminalEvent → Option Notice
zero_if_set s rs h = if list_any is_zero_set rs then Some (ZeroSet (zero_now (moments s (calls s h)))) else None

-- the notice of the newest event at the terminal
abbrev pub zero_notice : Setup → List TerminalEvent → Option Notice
zero_notice s h = zero_if_set s (replies s h) h

-- ---- at the office

-- the entry that the answer to a request is of; a fault of HTTP has none
abbrev pub entry_judged : Situation → Result Request HttpFault → Option EntryParts
entry_judged w (Ok request) = entry_answered w request
entry_judged w (Err fault) = None

-- a response has this status
abbrev pub HasStatus : ℕ → Out → Type 0
HasStatus status out = (content : ResponseContent) × (date : List ℕ) × (out ≡ responded (response_text content date)) × (content.status ≡ status)

module _ {D : Type 0} (g : Ghosts D) where
  -- the notice of a request has the status of its response and, unless that is 503, the entry of its answer. No clause fixes the fault of the store
  pub record IsAnswerNoticed (at : ℕ) (bytes : List ℕ) (out : Out) (t : TerminalState) (j j' : StoreView D) (notice : Option Notice) : Type 0 where
    pub status : ℕ
    pub name : Option EntryName
    pub fault : Option StoreFault
    pub is : notice ≡ Some (Answered status name fault)
    pub has_status : HasStatus status out
    pub unnamed : status ≡ 503 → name ≡ None
    pub named : (opening : Account) (h : List Happening) (stood : StationStands g opening t j h) → IsHonest g j' → status ≢ 503
        → (r : Result Request HttpFault) × IsJudged bytes r × (name ≡ option_map name_of (entry_judged (situation_at t.scale.setup at stood.account) r))

  -- what is noticed of a happening with this output
  abbrev pub IsNoticed : Happening → Out → TerminalState → StoreView D → StoreView D → Option Notice → Type 0
  IsNoticed (reading r) out t j j' notice = (events : List TerminalEvent) → TerminalStands t events → notice ≡ zero_notice t.scale.setup (terminal.reading r ∷ events)
  IsNoticed (byte b) out t j j' notice = (events : List TerminalEvent) → TerminalStands t events → notice ≡ zero_notice t.scale.setup (terminal.byte b ∷ events)
  IsNoticed hang_up out t j j' notice = notice ≡ None
  IsNoticed (office at bytes unmade) out t j j' notice = IsAnswerNoticed at bytes out t j j' notice
