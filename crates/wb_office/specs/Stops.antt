-- A weighing or void that a stop broke off, and that is asked again once the tables are opened.
use Rattle.std.specs.Prelude.{◌≡◌, ◌⊎◌, ℕ, true, false, Some, None, Result, Ok, Err}
use Rattle.sqlite.specs.Effect.{Database, IsDatabase}
use Rattle.sqlite.specs.Held.{state}
use Rattle.sqlite.specs.Store.{Ghosts}
use Rattle.wb_journal.specs.declared.entry.EntryParts.{EntryParts}
use Rattle.wb_journal.specs.declared.kind.Kind.TheVariants.{Void}
use Rattle.wb_scale.specs.State.{State}
use Rattle.wb_tables.specs.HasTables.{HasTables, MayHaveOpen}
use Rattle.wb_store.specs.Journal.{IsHonest, StoreView, StoreStands}
use Rattle.wb_tables.specs.Holds.{Holds}
use Rattle.wb_tables.specs.Lists.{entry_by_key, is_spent}
use Rattle.wb_messages.specs.declared.answer.Answer.{Answer}
use Rattle.wb_messages.specs.declared.refusal.Refusal.{Refusal}
use Rattle.wb_messages.specs.declared.refusal.Refusal.TheVariants as refusal
use Rattle.wb_messages.specs.declared.request.Request.{Request}
use Rattle.wb_messages.specs.declared.request.Request.TheVariants.{Weigh, VoidOpen}
use Rattle.wb_messages.specs.Content.{Content}
use Rattle.wb_office.specs.Answer.{office_answer, answer_by_verdict, entry_content}
use Rattle.wb_office.specs.Situation.{Asking, IsOnLists}
use Rattle.wb_office.specs.Conditions.{is_damaged_entry, is_other}
use Rattle.wb_office.specs.CourseOfRequests.{Journal, RequestTurn, left, situation_of_turn}
use Rattle.wb_office.specs.Serves.{IsNow, Serves}
use Rattle.wb_office.specs.Verdict.{first_refusal, of_new, on_new}
use Rattle.wb_office.specs.Wanted.{HasBound, IsWanted}

-- the request asks for this entry
abbrev pub Asks : Request → Asking → Type 0
Asks request a = (request ≡ Weigh a.key a.kind a.plate) ⊎ ((request ≡ VoidOpen a.key a.plate) × (a.kind ≡ Void))

-- the entry of the key is stored, and it is of the kind and plate that are asked for
pub record IsStoredUnder (a : Asking) (e : EntryParts) : Type 0 where
  pub found : entry_by_key a.now.entries a.key ≡ Some e
  pub same : is_other a e ≡ false

-- what the request is answered, by its key
pub record IsAnsweredByKey (a : Asking) (again : Result Content Refusal) : Type 0 where
  -- its entry is stored: with the text that is kept
  pub kept : (e : EntryParts) → IsStoredUnder a e → is_damaged_entry a.now.entries e ≡ false → again ≡ Ok (entry_content a.now.entries e e.kind)
  -- but it is refused, if the entry or its partner isn't sound
  pub damaged : (e : EntryParts) → IsStoredUnder a e → is_damaged_entry a.now.entries e ≡ true → again ≡ Err refusal.Damaged
  -- or if the key is that of another kind or plate
  pub reused : (e : EntryParts) → entry_by_key a.now.entries a.key ≡ Some e → is_other a e ≡ true → again ≡ Err refusal.KeyReused
  -- its entry was purged: it is refused as gone
  pub gone : is_spent a.now.spent a.key ≡ true → again ≡ Err refusal.Gone
  -- there is none: it is judged anew
  pub anew : entry_by_key a.now.entries a.key ≡ None → is_spent a.now.spent a.key ≡ false → again ≡ answer_by_verdict a.now.entries (on_new a (first_refusal of_new a))

-- a database that an opening takes holds the journal before the request or the one after it, and the request, asked again of that journal,
-- at whatever setup, load and moment, is answered by its key
pub record IsFoundAgain (j : Journal) (t : RequestTurn) (db : Database) : Type 0 where
  pub now : Journal
  pub whole : (now ≡ j) ⊎ (now ≡ left j t)
  pub tables : HasTables db.schema
  pub holds : Holds db now.entries now.spent
  pub beside : MayHaveOpen db.schema
  pub again : (a : Asking) (bound : ℕ) → IsOnLists now.entries now.spent a → Asks t.request a → IsAnsweredByKey a (office_answer a.now bound t.request)

module _ {D : Type 0} (g : Ghosts D) where
  -- a request was asked of an office whose store stood for the journal, and was answered, refused, or broken off by the disk
  pub record WasAsked (j : Journal) (t : RequestTurn) (after : StoreView D) : Type 0 where
    pub before : StoreView D
    pub scale : State
    pub scale_after : State
    pub result : Result Answer Refusal
    pub stood : StoreStands g before j.entries j.spent
    pub on_scale : IsNow scale t.at (situation_of_turn j t)
    pub served : Serves g before after scale scale_after t.at result (IsWanted t.request)
    pub honest : IsHonest g after
    pub is_bound : HasBound t.request (situation_of_turn j t) t.bound

  -- whatever a stop leaves of the store then, an opening finds it so
  abbrev pub AnsweredAfterStops : Type 0
  AnsweredAfterStops = (j : Journal) (t : RequestTurn) (after : StoreView D) → WasAsked j t after
      → (db : Database) → IsDatabase db → (state g after.conn).may_leave db.trees → IsFoundAgain j t db
