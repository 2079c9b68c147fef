-- The requests of a history as a course of the office.
use Rattle.std.specs.Prelude.{◌≡◌, ◌⊎◌, ℕ, true, false, List, [], ◌∷◌, ◌++◌, Some, Result, Ok, Err}
use Rattle.wb_instrument.specs.Setup.{Setup}
use Rattle.wb_journal.specs.declared.entry.EntryParts.{EntryParts}
use Rattle.wb_messages.specs.declared.request.Request.{Request}
use Rattle.wb_office.specs.CourseOfRequests.{AreBounds, Journal, RequestTurn, after, answered_with}
use Rattle.wb_office.specs.Laws.{IsGone, IsKeptEntry}
use Rattle.wb_office.specs.Wanted.{Wanted, IsWanted}
use Rattle.wb_scale.specs.History.{moments}
use Rattle.wb_sics.specs.Calls.{calls}
use Rattle.wb_tables.specs.Lists.{AreLists, entry_by_key, is_spent}
use Rattle.wb_http.specs.declared.fault.HttpFault.{HttpFault}
use Rattle.wb_station.specs.Account.{Account, IsAccount, account_left, situation_at}
use Rattle.wb_messages.specs.Happening.{Happening, reading, byte, hang_up, office}
use Rattle.wb_http.specs.HttpJudgement.{IsJudged}

-- the two lists of an account
abbrev pub journal_of : Account → Journal
journal_of a = record { entries = a.entries; spent = a.spent }

-- a request in its turn, after this account, with the bound of a purge
abbrev pub request_turn : Setup → ℕ → Request → ℕ → Account → RequestTurn
request_turn s at request bound a = record { setup = s; history = moments s (calls s a.terminal); at = at; request = request; bound = bound; is_made = true }

-- the turn of what was judged: a fault of HTTP has none
abbrev pub AreTurnsOf : Setup → ℕ → Result Request HttpFault → Account → List RequestTurn → Type 0
AreTurnsOf s at (Err fault) a ts = ts ≡ []
AreTurnsOf s at (Ok request) a ts = (bound : ℕ) × (ts ≡ request_turn s at request bound a ∷ [])

-- the turns of a history, the newest first: those of its requests but for those that count as never made
abbrev pub AreTurns : Setup → Account → List Happening → List RequestTurn → Type 0
AreTurns s opening [] ts = ts ≡ []
AreTurns s opening (reading r ∷ h) ts = AreTurns s opening h ts
AreTurns s opening (byte b ∷ h) ts = AreTurns s opening h ts
AreTurns s opening (hang_up ∷ h) ts = AreTurns s opening h ts
AreTurns s opening (office at bytes true ∷ h) ts = AreTurns s opening h ts
AreTurns s opening (office at bytes false ∷ h) ts =
    (before : Account) × (r : Result Request HttpFault) × (now : List RequestTurn) × (earlier : List RequestTurn) × IsAccount s opening h before × IsJudged bytes r
    × AreTurnsOf s at r before now × AreTurns s opening h earlier × (ts ≡ now ++ earlier)

-- they are a course of the office that leads from the lists at the opening to those of the account
pub record IsCourse (s : Setup) (opening : Account) (h : List Happening) (a : Account) : Type 0 where
  pub turns : List RequestTurn
  pub of_history : AreTurns s opening h turns
  pub bounds : AreBounds (journal_of opening) turns
  pub leads : journal_of a ≡ after (journal_of opening) turns

-- so the laws of the office on every course hold of every history: a key is accepted at most once, numbers run, places are kept
abbrev pub HasCourse : Type 0
HasCourse = (s : Setup) (opening : Account) (h : List Happening) (a : Account) → IsAccount s opening h a → IsCourse s opening h a

-- ---- an entry that was added or repeated

-- in a situation of this account the request is answered with the entry, which it adds or repeats, and this is wanted of it
pub record AddsEntry (s : Setup) (before : Account) (request : Request) (want : Wanted) (e : EntryParts) : Type 0 where
  pub lists : AreLists before.entries before.spent
  pub at : ℕ
  pub is : IsWanted request (situation_at s at before) want
  pub adds : answered_with (situation_at s at before) request ≡ Some e

-- it is asked again after whatever came: its entry is stored, and the answer and the ticket of its number are those that it had at first; or
-- it was purged, and it is refused as gone
abbrev pub SameAgain : Type 0
SameAgain = (s : Setup) (before : Account) (request : Request) (want : Wanted) (e : EntryParts) → AddsEntry s before request want e
    → (later : List Happening) (c : Account) → IsAccount s (account_left want before) later c
    → (at : ℕ) (again : Wanted) → IsWanted request (situation_at s at c) again → IsKeptEntry (journal_of c) e want.answer again.answer ⊎ IsGone (journal_of c) e again.answer

-- after whatever came it is stored, or its key is spent
abbrev pub KeptForGood : Type 0
KeptForGood = (s : Setup) (before : Account) (request : Request) (want : Wanted) (e : EntryParts) → AddsEntry s before request want e
    → (later : List Happening) (c : Account) → IsAccount s (account_left want before) later c
    → (entry_by_key c.entries e.key ≡ Some e) ⊎ (is_spent c.spent e.key ≡ true)
