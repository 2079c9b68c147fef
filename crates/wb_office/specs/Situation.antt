-- What the office answers from, and what a weighing or void is judged on.
use Rattle.std.specs.Prelude.{ℕ, List, ◌≡◌}
use Rattle.wb_instrument.specs.Setup.{Setup}
use Rattle.wb_journal.specs.declared.entry.EntryParts.{EntryParts}
use Rattle.wb_journal.specs.declared.kind.Kind.{Kind}
use Rattle.wb_scale.specs.Moment.{Moment}
use Rattle.wb_tables.specs.Rows.{SpentKey}

-- what there is when the office is asked; the entries and the spent keys are the lists of a store
pub record Situation : Type 0 where
  pub setup : Setup
  -- what each call did to the scale (a reading, the zero, the tare, a stored weighing), the newest first
  pub history : List Moment
  -- by number
  pub entries : List EntryParts
  pub spent : List SpentKey
  -- the moment at which it is asked, in seconds of UTC since 1970
  pub at : ℕ

-- an entry of this kind and plate is asked for, under this key
pub record Asking : Type 0 where
  pub now : Situation
  pub key : List ℕ
  pub kind : Kind
  pub plate : List ℕ

-- the lists are those of the journal
pub record IsOnLists (es : List EntryParts) (ks : List SpentKey) (a : Asking) : Type 0 where
  pub entries : a.now.entries ≡ es
  pub spent : a.now.spent ≡ ks
