-- What a request leaves of the store and the scale, and what it is answered.
use Rattle.std.specs.Prelude.{◌≡◌, ◌≢◌, ◌↔◌, ℕ, Bool, true, false, ◌||◌, List, Option, Some, None, is_some, Result, Ok, Err}
use Rattle.sqlite.specs.Store.{Ghosts}
use Rattle.wb_journal.specs.declared.entry.EntryParts.{EntryParts}
use Rattle.wb_scale.specs.Call.{Call, stored}
use Rattle.wb_scale.specs.History.{moments}
use Rattle.wb_scale.specs.Stands.{ScaleStands, ScaleTakes}
use Rattle.wb_scale.specs.State.{State}
use Rattle.wb_store.specs.declared.fault.StoreFault.{StoreFault}
use Rattle.wb_store.specs.declared.fault.StoreFault.TheVariants.{Closed, Foreign}
use Rattle.wb_store.specs.Faults.{is_disk}
use Rattle.wb_store.specs.Journal.{IsHonest, StoreView, StoreStands}
use Rattle.wb_store.specs.Keeping.{LeavesEither, LeavesOnly}
use Rattle.wb_tables.specs.Rows.{SpentKey}
use Rattle.wb_store.specs.Versions.{IsOfCall}
use Rattle.wb_messages.specs.declared.answer.Answer.{Answer}
use Rattle.wb_messages.specs.declared.refusal.Refusal.{Refusal}
use Rattle.wb_messages.specs.declared.refusal.Refusal.TheVariants.{Store}
use Rattle.wb_messages.specs.Content.{content_or_refusal}
use Rattle.wb_office.specs.Situation.{Situation}
use Rattle.wb_office.specs.Conditions.{holds_of}
use Rattle.wb_office.specs.Wanted.{Wanted}

-- the fault of the store for which it is refused
abbrev pub fault_of_refusal : Refusal → Option StoreFault
fault_of_refusal (Store fault) = Some fault
fault_of_refusal _ = None

abbrev pub is_of_store : Refusal → Bool
is_of_store why = is_some (fault_of_refusal why)

abbrev pub is_store_refusal : Result Answer Refusal → Bool
is_store_refusal (Ok answer) = false
is_store_refusal (Err why) = is_of_store why

-- a fault of the disk is the one that closes the store
abbrev pub closes_store : Refusal → Bool
closes_store why = holds_of is_disk (fault_of_refusal why)

abbrev pub is_closed_after : Bool → Result Answer Refusal → Bool
is_closed_after was (Ok answer) = was
is_closed_after was (Err why) = was || closes_store why

-- the scale stands after the history of the situation, which has its setup
pub record IsNow (scale : State) (at : ℕ) (w : Situation) : Type 0 where
  pub setup : w.setup ≡ scale.setup
  pub calls : List Call
  pub stands : ScaleStands scale calls
  pub history : w.history ≡ moments scale.setup calls
  pub moment : w.at ≡ at

-- a stored weighing is marked on the scale, and nothing else changes it
abbrev pub Marks : State → State → Bool → Type 0
Marks before after true = ScaleTakes before after stored
Marks before after false = after ≡ before

module _ {D : Type 0} (g : Ghosts D) (old new : StoreView D) (before after : State) (at : ℕ) (result : Result Answer Refusal) where
  -- it is answered as is wanted, and what is wanted is left
  pub record LeavesWanted (want : Wanted) : Type 0 where
    pub answered : content_or_refusal result ≡ want.answer
    pub stands : StoreStands g new want.entries want.spent
    pub only : LeavesOnly g new want.entries want.spent
    pub marked : Marks before after want.marks

  -- a request that asks the store
  pub record Serves (IsWanted : Situation → Wanted → Type 0) : Type 0 where
    -- unless the store refuses, it is answered as is wanted
    pub judged : (w : Situation) → IsNow before at w → StoreStands g old w.entries w.spent → IsHonest g new → is_store_refusal result ≡ false
        → (want : Wanted) × IsWanted w want × LeavesWanted want
    -- if the store refuses, the scale is as before, and so are the lists unless the store was closed
    pub unmarked : is_store_refusal result ≡ true → after ≡ before
    pub kept : (es : List EntryParts) (ks : List SpentKey) → StoreStands g old es ks → IsHonest g new → is_store_refusal result ≡ true → new.is_closed ≡ false
        → StoreStands g new es ks × LeavesOnly g new es ks
    -- a crash leaves the lists before, or those that are wanted
    pub leaves : (w : Situation) → IsNow before at w → StoreStands g old w.entries w.spent → IsHonest g new → (want : Wanted) → IsWanted w want
        → LeavesEither g new w.entries w.spent want.entries want.spent
    -- the rows of a store that stands are never called Foreign
    pub known : (es : List EntryParts) (ks : List SpentKey) → StoreStands g old es ks → IsHonest g new → result ≢ Err (Store Foreign)
    -- no fault is that of an opening, a creation, a reading of version 1 or a migration
    pub cause : (f : StoreFault) → result ≡ Err (Store f) → IsOfCall f
    -- a closed store is answered Closed, and nothing else is
    pub closed : (result ≡ Err (Store Closed)) ↔ (old.is_closed ≡ true)
    pub still : old.is_closed ≡ true → new ≡ old
    pub closes : new.is_closed ≡ is_closed_after old.is_closed result
    pub honest : IsHonest g new → IsHonest g old
    -- the scale is as before, or takes a stored weighing
    pub scale : (marks : Bool) × Marks before after marks
