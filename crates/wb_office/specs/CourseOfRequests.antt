-- Requests one after the other, and the journal that they leave.
use Rattle.std.specs.Prelude.{ℕ, Bool, if◌then◌else◌, List, [], ◌∷◌, Option, Some, None, Result}
use Rattle.wb_instrument.specs.Setup.{Setup}
use Rattle.wb_journal.specs.declared.entry.EntryParts.{EntryParts}
use Rattle.wb_journal.specs.declared.kind.Kind.TheVariants.{Void}
use Rattle.wb_scale.specs.Moment.{Moment}
use Rattle.wb_tables.specs.Rows.{SpentKey}
use Rattle.wb_messages.specs.declared.refusal.Refusal.{Refusal}
use Rattle.wb_messages.specs.declared.request.Request.{Request}
use Rattle.wb_messages.specs.declared.request.Request.TheVariants.{Weigh, VoidOpen}
use Rattle.wb_messages.specs.Content.{Content}
use Rattle.wb_office.specs.Answer.{Outcome, adds, office_answer, asking, entries_left, outcome, spent_left}
use Rattle.wb_office.specs.Situation.{Situation}
use Rattle.wb_office.specs.Verdict.{Verdict, accepted, refused, repeated, verdict}
use Rattle.wb_office.specs.Wanted.{HasBound}

abbrev pub added_by : Outcome → Option EntryParts
added_by (adds e) = Some e
added_by _ = None

-- the entry that a request adds, if it is an accepted weighing or void; no bound decides it
abbrev pub added : Situation → Request → Option EntryParts
added w request = added_by (outcome w 0 request)

-- the entry with which a verdict is answered: it is repeated or added
abbrev pub entry_of : Verdict → Option EntryParts
entry_of (refused why) = None
entry_of (repeated e) = Some e
entry_of (accepted e) = Some e

-- the entry with which a weighing or void is answered, unless it is refused
abbrev pub answered_with : Situation → Request → Option EntryParts
answered_with w (Weigh key kind plate) = entry_of (verdict (asking w key kind plate))
answered_with w (VoidOpen key plate) = entry_of (verdict (asking w key Void plate))
answered_with w _ = None

-- the two lists of a store
pub record Journal : Type 0 where
  pub entries : List EntryParts
  pub spent : List SpentKey

-- a request in its turn, with the setup and the scale's history as they are then, and with the bound of a purge. One that was
-- answered 15 or that a stop broke off may have been made or not; any other is made
pub record RequestTurn : Type 0 where
  pub setup : Setup
  pub history : List Moment
  pub at : ℕ
  pub request : Request
  pub bound : ℕ
  pub is_made : Bool

-- what it is judged on
abbrev pub situation_of_turn : Journal → RequestTurn → Situation
situation_of_turn j t = record { setup = t.setup; history = t.history; entries = j.entries; spent = j.spent; at = t.at }

abbrev pub answer_in : Journal → RequestTurn → Result Content Refusal
answer_in j t = office_answer (situation_of_turn j t) t.bound t.request

-- the journal that it leaves if it is made
abbrev pub left : Journal → RequestTurn → Journal
left j t = record { entries = entries_left (situation_of_turn j t) t.bound t.request; spent = spent_left (situation_of_turn j t) t.bound t.request }

abbrev pub after_turn : Journal → RequestTurn → Journal
after_turn j t = if t.is_made then left j t else j

-- the journal after these turns, the newest first
abbrev pub after : Journal → List RequestTurn → Journal
after j [] = j
after j (t ∷ ts) = after_turn (after j ts) t

-- purges are at their bounds
abbrev pub AreBounds : Journal → List RequestTurn → Type 0
AreBounds j [] = Unit {0}
AreBounds j (t ∷ ts) = HasBound t.request (situation_of_turn (after j ts) t) t.bound × AreBounds j ts

abbrev pub with_one : Option EntryParts → List EntryParts → List EntryParts
with_one None es = es
with_one (Some e) es = e ∷ es

abbrev pub added_in_turn : Journal → RequestTurn → Option EntryParts
added_in_turn j t = if t.is_made then added (situation_of_turn j t) t.request else None

-- the entries that these turns added, the newest first
abbrev pub additions : Journal → List RequestTurn → List EntryParts
additions j [] = []
additions j (t ∷ ts) = with_one (added_in_turn (after j ts) t) (additions j ts)
