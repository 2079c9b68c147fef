-- Which entry an answer is of.
use Rattle.std.specs.Prelude.{◌≡◌, ℕ, true, false, Option, Some, None, option_map, Result}
use Rattle.sqlite.specs.Store.{Ghosts}
use Rattle.wb_journal.specs.declared.entry.EntryParts.{EntryParts}
use Rattle.wb_journal.specs.declared.kind.Kind.TheVariants.{Void as VoidKind}
use Rattle.wb_scale.specs.State.{State}
use Rattle.wb_store.specs.Journal.{IsHonest, StoreView, StoreStands}
use Rattle.wb_messages.specs.declared.answer.Answer.{Answer}
use Rattle.wb_messages.specs.declared.notice.EntryName.{EntryName}
use Rattle.wb_messages.specs.declared.refusal.Refusal.{Refusal}
use Rattle.wb_messages.specs.declared.request.Request.{Request}
use Rattle.wb_messages.specs.declared.request.Request.TheVariants.{Weigh, VoidOpen}
use Rattle.wb_office.specs.Answer.{asking}
use Rattle.wb_office.specs.Serves.{IsNow, is_store_refusal}
use Rattle.wb_office.specs.Situation.{Situation}
use Rattle.wb_office.specs.Verdict.{Verdict, accepted, refused, repeated, verdict}

abbrev pub name_of : EntryParts → EntryName
name_of e = record { number = e.number; digest = e.digest }

-- the entry that a verdict repeats or adds
abbrev pub entry_of_verdict : Verdict → Option EntryParts
entry_of_verdict (refused why) = None
entry_of_verdict (repeated e) = Some e
entry_of_verdict (accepted e) = Some e

-- the entry that a weighing or void stored, now or earlier under its key; no other request has one
abbrev pub entry_answered : Situation → Request → Option EntryParts
entry_answered w (Weigh key kind plate) = entry_of_verdict (verdict (asking w key kind plate))
entry_answered w (VoidOpen key plate) = entry_of_verdict (verdict (asking w key VoidKind plate))
entry_answered w _ = None

module _ {D : Type 0} (g : Ghosts D) (old new : StoreView D) (before : State) (at : ℕ) (result : Result Answer Refusal) (name : Option EntryName) where
  -- an answer comes with the name of its entry
  pub record Names (entry : Situation → Option EntryParts) : Type 0 where
    pub named : (w : Situation) → IsNow before at w → StoreStands g old w.entries w.spent → IsHonest g new → is_store_refusal result ≡ false → name ≡ option_map name_of (entry w)
    pub unnamed : is_store_refusal result ≡ true → name ≡ None
