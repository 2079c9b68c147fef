-- A station stands after a history.
use Rattle.std.specs.Prelude.{◌≡◌, ◌⊎◌, ℕ, true, false, List, [], ◌∷◌, Ok, Err}
use Rattle.sqlite.specs.Held.{state}
use Rattle.sqlite.specs.Store.{Ghosts}
use Rattle.sqlite.specs.Tree.{Trees}
use Rattle.wb_instrument.specs.Setup.{Setup}
use Rattle.wb_messages.specs.declared.refusal.Refusal.TheVariants.{NoTicket}
use Rattle.wb_messages.specs.declared.request.Request.{Request}
use Rattle.wb_messages.specs.declared.request.Request.TheVariants.{Indication, Ticket}
use Rattle.wb_messages.specs.Content.{text_content}
use Rattle.wb_office.specs.Answer.{text_of_indication}
use Rattle.wb_office.specs.Wanted.{asks_store}
use Rattle.wb_scale.specs.History.{moments}
use Rattle.wb_scale.specs.Indication.{indicated}
use Rattle.wb_sics.specs.Calls.{calls}
use Rattle.wb_sics.specs.Event.{TerminalEvent}
use Rattle.wb_sics.specs.Event as terminal
use Rattle.wb_sics.specs.Heard.{heard}
use Rattle.wb_sics.specs.Replies.{replies}
use Rattle.wb_sics.specs.Stands.{TerminalState, TerminalStands}
use Rattle.wb_store.specs.Journal.{IsHonest, Reopens, StoreView, StoreStands}
use Rattle.wb_store.specs.Keeping.{LeavesOnly}
use Rattle.wb_tables.specs.Lists.{AreLists}
use Rattle.wb_http.specs.declared.fault.HttpFault.{HttpFault}
use Rattle.wb_http.specs.declared.fault.HttpFault.TheVariants.{Memory}
use Rattle.wb_station.specs.Account.{Account, Comes, IsAccount, IsResponseOut, Out, nothing, replied}
use Rattle.wb_messages.specs.Happening.{Happening, heard_of, reading, byte, hang_up, office, unmarked}
use Rattle.wb_http.specs.HttpJudgement.{IsJudged}
use Rattle.wb_http.specs.Response.{response_to_fault, response_to_result}
use Rattle.wb_station.specs.Unmade.{MayBeUnmade}

-- ---- a terminal alone

-- it stands after the readings, bytes and hang-ups of a history, whatever weighings were stored between them
pub record Hears (t : TerminalState) (h : List Happening) : Type 0 where
  pub events : List TerminalEvent
  pub stands : TerminalStands t events
  pub of_history : heard events ≡ heard_of h

-- the replies are those of the readings, bytes and hang-ups alone
abbrev pub IsReplied : Setup → Happening → List Happening → Out → Type 0
IsReplied s (reading r) h out = out ≡ replied (replies s (terminal.reading r ∷ heard_of h))
IsReplied s (byte b) h out = out ≡ replied (replies s (terminal.byte b ∷ heard_of h))
IsReplied s hang_up h out = out ≡ nothing
IsReplied s (office at bytes unmade) h out = Unit {0}

-- ---- without asking the store

-- what a request of these bytes is answered that asks no store: a fault of HTTP, the ticket of the number 0, and the indication of what the
-- terminal heard
pub record IsOutright (s : Setup) (at : ℕ) (bytes : List ℕ) (h : List Happening) (out : Out) : Type 0 where
  pub fault : (fault : HttpFault) → IsJudged bytes (Err fault) → IsResponseOut at (response_to_fault fault) out
  pub no_ticket : IsJudged bytes (Ok (Ticket 0)) → IsResponseOut at (response_to_result (Ticket 0) (Err NoTicket)) out
  pub indication : IsJudged bytes (Ok Indication) → (events : List TerminalEvent) × (heard events ≡ heard_of h)
      × IsResponseOut at (response_to_result Indication (Ok (text_content (text_of_indication s (indicated s (moments s (calls s events))))))) out

-- and a request that counts as never made is answered 503
abbrev pub IsAnsweredOutright : Setup → Happening → List Happening → Out → Type 0
IsAnsweredOutright s (reading r) h out = Unit {0}
IsAnsweredOutright s (byte b) h out = Unit {0}
IsAnsweredOutright s hang_up h out = Unit {0}
IsAnsweredOutright s (office at bytes true) h out = IsResponseOut at (response_to_fault Memory) out
IsAnsweredOutright s (office at bytes false) h out = IsOutright s at bytes h out

-- ---- the store

-- what asks the store counts as never made
abbrev pub MustBeUnmade : Happening → Type 0
MustBeUnmade (reading r) = Unit {0}
MustBeUnmade (byte b) = Unit {0}
MustBeUnmade hang_up = Unit {0}
MustBeUnmade (office at bytes unmade) = (request : Request) → IsJudged bytes (Ok request) → asks_store request ≡ true → unmade ≡ true

-- ---- what a crash leaves

-- the lists to which a happening leads
pub record IsLedTo (s : Setup) (p : Happening) (before : Account) (db : Trees) : Type 0 where
  pub after : Account
  pub out : Out
  pub comes : Comes s p before after out
  pub reopens : Reopens db after.entries after.spent

-- the same history, but that one request that was answered 503 counts as made; no request that asks the store was made after it
abbrev pub IsButForOne : List Happening → List Happening → Type 0
IsButForOne [] other = ⊥
IsButForOne (p ∷ h) other = (other ≡ unmarked p ∷ h) ⊎ (MustBeUnmade p × (earlier : List Happening) × (other ≡ p ∷ earlier) × IsButForOne h earlier)

-- the lists of an account of this history, in which one such request may count as made
pub record IsOfHistory (s : Setup) (opening : Account) (h : List Happening) (db : Trees) : Type 0 where
  pub history : List Happening
  pub same : (history ≡ h) ⊎ IsButForOne h history
  pub account : Account
  pub is_account : IsAccount s opening history account
  pub reopens : Reopens db account.entries account.spent

-- ---- a station

module _ {D : Type 0} (g : Ghosts D) where
  -- whatever a crash leaves now is opened again with the lists of the history
  abbrev pub LeavesSoon : Setup → Account → StoreView D → List Happening → Type 0
  LeavesSoon s opening j h = (db : Trees) → (state g j.conn).may_leave db → IsOfHistory s opening h db

  -- the store stands for the lists, and a crash leaves these
  pub record KeepsLists (j : StoreView D) (a : Account) : Type 0 where
    pub stands : StoreStands g j a.entries a.spent
    pub only : LeavesOnly g j a.entries a.spent

  -- they stand at this account of a history; of a store that a fault of the disk closed only what a crash leaves is said
  pub record StationStandsAt (opening : Account) (t : TerminalState) (j : StoreView D) (h : List Happening) (account : Account) : Type 0 where
    pub terminal : TerminalStands t account.terminal
    pub lists : AreLists account.entries account.spent
    pub store : j.is_closed ≡ false → KeepsLists j account
    pub soon : LeavesSoon t.scale.setup opening j h

  -- they stand after a history that began with the account at the opening
  pub record StationStands (opening : Account) (t : TerminalState) (j : StoreView D) (h : List Happening) : Type 0 where
    pub account : Account
    pub is_account : IsAccount t.scale.setup opening h account
    pub at : StationStandsAt opening t j h account

module _ {D : Type 0} (g : Ghosts D) (p : Happening) (out : Out) (t : TerminalState) (j : StoreView D) (t' : TerminalState) (j' : StoreView D) where
  -- a happening led from here to there, and this was put out
  pub record Took : Type 0 where
    pub setup : t'.scale.setup ≡ t.scale.setup
    pub may_be_unmade : MayBeUnmade p
    -- what is put out, and the account at which it stands then, are what comes of the happening by the definitions
    pub comes : (opening : Account) (h : List Happening) (stood : StationStands g opening t j h) → IsHonest g j'
        → (after : Account) × Comes t.scale.setup p stood.account after out × StationStandsAt g opening t' j' (p ∷ h) after
    -- a crash at the end of the call leaves the lists before it, or those to which the happening leads where it is made
    pub crash : (opening : Account) (h : List Happening) (stood : StationStands g opening t j h) → IsHonest g j' → j.is_closed ≡ false → (db : Trees) → (state g j'.conn).may_leave db
        → Reopens db stood.account.entries stood.account.spent ⊎ IsLedTo t.scale.setup (unmarked p) stood.account db
    -- a closed store stays as it is
    pub still : j.is_closed ≡ true → (j' ≡ j) × MustBeUnmade p
    -- what was not honest before is not after
    pub honest : IsHonest g j' → IsHonest g j
    -- the terminal alone, whatever the store is
    pub hears : (h : List Happening) → Hears t h → Hears t' (p ∷ h)
    pub replies : (h : List Happening) → Hears t h → IsReplied t.scale.setup p h out
    pub outright : (h : List Happening) → Hears t h → IsAnsweredOutright t.scale.setup p h out
