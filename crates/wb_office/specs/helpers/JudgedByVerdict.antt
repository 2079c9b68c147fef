-- A judgement is the verdict, and brings the entry that goes with it.
use Rattle.std.specs.Prelude.{◌≡◌, Bool, not, true, List, Option}
use Rattle.wb_journal.specs.declared.entry.EntryParts.{EntryParts}
use Rattle.wb_journal.specs.Kind.{is_second_kind}
use Rattle.wb_journal.specs.Pairs.{open_entry, partner_in}
use Rattle.wb_scale.specs.Call.{Call}
use Rattle.wb_scale.specs.History.{moments}
use Rattle.wb_scale.specs.Stands.{ScaleStands}
use Rattle.wb_scale.specs.State.{State}
use Rattle.wb_tables.specs.Lists.{IsNext}
use Rattle.wb_office.specs.declared.judging.WeighingRequest.{WeighingRequest}
use Rattle.wb_office.specs.declared.judging.Judgement.{Judgement}
use Rattle.wb_office.specs.declared.judging.Judgement.TheVariants.{Refused, Repeated, Accepted}
use Rattle.wb_office.specs.Situation.{Asking}
use Rattle.wb_office.specs.Serves.{is_of_store}
use Rattle.wb_office.specs.Verdict.{accepted, refused, repeated, verdict}

-- the weighing or void is asked for
pub record AsksFor (asked : WeighingRequest) (a : Asking) : Type 0 where
  pub of_key : a.key ≡ asked.key
  pub of_kind : a.kind ≡ asked.kind
  pub of_plate : a.plate ≡ asked.plate
  pub of_moment : a.now.at ≡ asked.at

-- the scale stands after the history
pub record IsOnScale (scale : State) (a : Asking) : Type 0 where
  pub setup : a.now.setup ≡ scale.setup
  pub calls : List Call
  pub stands : ScaleStands scale calls
  pub history : a.now.history ≡ moments scale.setup calls

-- the entry that is repeated, and the partner of a Second
pub record IsRepetition (e : EntryParts) (p : Option EntryParts) (a : Asking) : Type 0 where
  pub judged : verdict a ≡ repeated e
  pub paired : is_second_kind e.kind ≡ true → p ≡ partner_in a.now.entries e

-- the entry that is to be added, and the open weighing of its plate
pub record IsAccepted (e : EntryParts) (p : Option EntryParts) (a : Asking) : Type 0 where
  pub judged : verdict a ≡ accepted e
  pub paired : p ≡ open_entry a.now.entries e.plate
  pub next : IsNext a.now.entries a.now.spent e

-- the judgement is the verdict
abbrev pub MeetsVerdict : Judgement → Asking → Type 0
MeetsVerdict (Refused why) a = verdict a ≡ refused why
MeetsVerdict (Repeated e p) a = IsRepetition e p a
MeetsVerdict (Accepted e p) a = IsAccepted e p a

-- no refusal is the store's
abbrev pub is_plain : Judgement → Bool
is_plain (Refused why) = not (is_of_store why)
is_plain (Repeated e p) = true
is_plain (Accepted e p) = true
