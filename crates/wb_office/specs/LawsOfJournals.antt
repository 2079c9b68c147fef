-- Laws on what stands in a journal after whatever was asked, in the words of a haulier, an operator and an inspector.
use Rattle.std.specs.Prelude.{◌≡◌, ◌⊎◌, ℕ, ◌<◌, true, false, Contains, List, [], ◌∷◌, Some, Ok, Err}
use Rattle.wb_journal.specs.declared.entry.EntryParts.{EntryParts}
use Rattle.wb_journal.specs.Check.{AreSound}
use Rattle.wb_journal.specs.Kind.{is_closing_kind}
use Rattle.wb_journal.specs.Moment.{day_of}
use Rattle.wb_journal.specs.Pairs.{partner_in, with_number}
use Rattle.wb_journal.specs.Retention.{IsOfAge}
use Rattle.wb_tables.specs.Lists.{AreLists}
use Rattle.wb_messages.specs.declared.refusal.Refusal.{Refusal}
use Rattle.wb_messages.specs.declared.request.Request.{Request}
use Rattle.wb_messages.specs.declared.request.Request.TheVariants.{Purge}
use Rattle.wb_tables.specs.Purging.{spent_by}
use Rattle.wb_messages.specs.Content.{Content}
use Rattle.wb_office.specs.Answer.{IsBoundAt, office_answer, entries_left, marks, spent_left, ticket_answer}
use Rattle.wb_office.specs.Situation.{Situation}
use Rattle.wb_office.specs.CourseOfRequests.{AreBounds, Journal, RequestTurn, additions, after}

-- ---- an entry

-- a purge takes the entry out: it was made of a sound journal in which the entry stood, below the bound on that day, and of age
pub record TakesOut (j : Journal) (t : RequestTurn) (e : EntryParts) : Type 0 where
  pub is_made : t.is_made ≡ true
  pub asked : t.request ≡ Purge
  pub sound : AreSound j.entries
  pub found : Contains j.entries e
  pub bound : IsBoundAt t.setup j.entries j.spent t.at t.bound
  pub below : e.number < t.bound
  pub of_age : IsOfAge (day_of t.at) t.setup.retention_days e

-- one of these turns takes it out
abbrev pub IsTakenOut : Journal → List RequestTurn → EntryParts → Type 0
IsTakenOut j [] e = ⊥
IsTakenOut j (t ∷ ts) e = TakesOut (after j ts) t e ⊎ IsTakenOut j ts e

pub record IsKeptForItsTime (j : Journal) (ts : List RequestTurn) (e : EntryParts) : Type 0 where
  -- it stands unchanged, unless one of the turns takes it out
  pub stands : Contains (after j ts).entries e ⊎ IsTakenOut j ts e
  -- and after that turn its key is spent, with its number
  pub spent : IsTakenOut j ts e → Contains (after j ts).spent (spent_by e)

-- an entry that stood at the opening, or that one of the turns added, is kept for its time
abbrev pub KeptForItsTime : Type 0
KeptForItsTime = (j : Journal) (ts : List RequestTurn) (e : EntryParts) → AreBounds j ts → Contains j.entries e ⊎ Contains (additions j ts) e → IsKeptForItsTime j ts e

-- a ticket that was given is given again with the same text, unless one of the turns takes its entry out
abbrev pub TicketGivenAgain : Type 0
TicketGivenAgain = (j : Journal) (ts : List RequestTurn) → AreLists j.entries j.spent → AreBounds j ts → (number : ℕ) (text : Content) → ticket_answer j.entries number ≡ Ok text
    → (ticket_answer (after j ts).entries number ≡ Ok text) ⊎ ((e : EntryParts) × (with_number number j.entries ≡ Some e) × IsTakenOut j ts e)

-- ---- a refusal

pub record ChangesNothing (w : Situation) (b : ℕ) (request : Request) : Type 0 where
  pub entries : entries_left w b request ≡ w.entries
  pub spent : spent_left w b request ≡ w.spent
  pub unmarked : marks w request ≡ false

-- a refusal leaves the entries and the spent keys as they are, and marks nothing on the scale
abbrev pub RefusalsChangeNothing : Type 0
RefusalsChangeNothing = (w : Situation) (b : ℕ) (request : Request) (why : Refusal) → office_answer w b request ≡ Err why → ChangesNothing w b request

-- ---- partners, and the check

-- a First is closed at most once, whoever wrote the entries: two of them whose partner it is have the same number
abbrev pub FirstsClosedOnce : Type 0
FirstsClosedOnce = (es : List EntryParts) (f s t : EntryParts) → Contains es s → partner_in es s ≡ Some f → Contains es t → partner_in es t ≡ Some f → s.number ≡ t.number

-- a Second or Void that one of the turns added has its partner as long as it is stored
abbrev pub ClosingsHavePartners : Type 0
ClosingsHavePartners = (j : Journal) (ts : List RequestTurn) → AreLists j.entries j.spent → AreBounds j ts → (e : EntryParts)
    → Contains (additions j ts) e → is_closing_kind e.kind ≡ true → Contains (after j ts).entries e → (f : EntryParts) × (partner_in (after j ts).entries e ≡ Some f)

-- a journal in which the check finds no damage stays so
abbrev pub StaysSound : Type 0
StaysSound = (j : Journal) (ts : List RequestTurn) → AreLists j.entries j.spent → AreBounds j ts → AreSound j.entries → AreSound (after j ts).entries
