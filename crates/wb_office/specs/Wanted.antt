-- What is wanted of a request.
use Rattle.std.specs.Prelude.{◌≡◌, ℕ, Bool, true, false, ◌==◌, not, List, Result}
use Rattle.wb_messages.specs.declared.request.Request.{Request}
use Rattle.wb_messages.specs.declared.request.Request.TheVariants.{Ticket, Indication, Purge}
use Rattle.wb_messages.specs.Content.{Content}
use Rattle.wb_office.specs.Answer.{IsBoundAt, office_answer, entries_left, marks, spent_left}
use Rattle.wb_office.specs.Situation.{Situation}
use Rattle.wb_journal.specs.declared.entry.EntryParts.{EntryParts}
use Rattle.wb_tables.specs.Rows.{SpentKey}
use Rattle.wb_messages.specs.declared.refusal.Refusal.{Refusal}

-- what is wanted in a situation: an answer, the lists that it leaves, and whether the scale is marked
pub record Wanted : Type 0 where
  pub answer : Result Content Refusal
  pub entries : List EntryParts
  pub spent : List SpentKey
  pub marks : Bool

-- the bound of a purge is that on the day of its moment; nothing is asked of that of another request, which decides nothing
abbrev pub HasBound : Request → Situation → ℕ → Type 0
HasBound Purge w b = IsBoundAt w.setup w.entries w.spent w.at b
HasBound _ w b = Unit {0}

abbrev pub wanted : Request → Situation → ℕ → Wanted
wanted request w b = record { answer = office_answer w b request; entries = entries_left w b request; spent = spent_left w b request; marks = marks w request }

-- the answer of the definitions, with what it leaves
pub record IsWanted (request : Request) (w : Situation) (want : Wanted) : Type 0 where
  pub bound : ℕ
  pub is_bound : HasBound request w bound
  pub is : want ≡ wanted request w bound

-- an indication and the ticket of the number 0 ask no store; every other request does
abbrev pub asks_store : Request → Bool
asks_store (Ticket number) = not (number == 0)
asks_store Indication = false
asks_store _ = true
