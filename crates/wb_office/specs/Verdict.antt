-- The verdict on a weighing or void: refused, repeated or accepted.
use Rattle.std.specs.Prelude.{ℕ, Bool, List, [], ◌∷◌, Option, Some, None, if◌then◌else◌, option_map, ℤ, pos, ◌*ℤ◌, unsigned_abs}
use Rattle.wb_instrument.specs.Setup.{Setup}
use Rattle.wb_journal.specs.declared.entry.EntryParts.{EntryParts}
use Rattle.wb_journal.specs.declared.kind.Kind.{Kind}
use Rattle.wb_journal.specs.declared.kind.Kind.TheVariants.{First, Second, Single, Void}
use Rattle.wb_journal.specs.Digest.{sealed_entry}
use Rattle.wb_scale.specs.declared.answers.TareNow.{TareNow}
use Rattle.wb_scale.specs.declared.answers.TareNow.TheVariants.{Empty, Weighed, Preset}
use Rattle.wb_scale.specs.Indication.{gross}
use Rattle.wb_scale.specs.Tare.{tare_now}
use Rattle.wb_tables.specs.Lists.{entry_by_key, newest_entry, number_after, previous_after}
use Rattle.wb_messages.specs.declared.refusal.Refusal.{Refusal}
use Rattle.wb_messages.specs.declared.refusal.Refusal.TheVariants.{KeyReused, Gone, ClockBack, NoLoad, Overload, Underload, Unstable, BelowMin, TareActive, NoPreset, NotCleared, AlreadyOpen, NoOpen, JournalFull, Damaged}
use Rattle.wb_office.specs.Situation.{Asking}
use Rattle.wb_office.specs.Conditions.{already_open, below_min, clock_back, damaged_first, damaged_repetition, journal_full, key_gone, key_reused, no_load, no_open, no_preset, not_cleared, overload, tare_active, underload, unstable}

-- a refusal, with the condition on which it comes
pub record Condition : Type 0 where
  pub refusal : Refusal
  pub holds : Asking → Bool

abbrev pub on : (Asking → Bool) → Refusal → Condition
on holds refusal = record { refusal = refusal; holds = holds }

-- the conditions on the key, in the order in which they are judged
abbrev pub of_key : List Condition
of_key = on key_reused KeyReused ∷ on key_gone Gone ∷ on damaged_repetition Damaged ∷ []

-- the conditions on a request whose key is new, in the order in which they are judged
abbrev pub of_new : List Condition
of_new =
    on clock_back ClockBack ∷ on no_load NoLoad ∷ on overload Overload ∷ on underload Underload ∷ on unstable Unstable ∷ on below_min BelowMin
    ∷ on tare_active TareActive ∷ on no_preset NoPreset ∷ on not_cleared NotCleared ∷ on already_open AlreadyOpen ∷ on no_open NoOpen
    ∷ on damaged_first Damaged ∷ on journal_full JournalFull ∷ []

-- the refusal of the first condition that holds
abbrev pub first_refusal : List Condition → Asking → Option Refusal
first_refusal [] a = None
first_refusal (c ∷ later) a = if c.holds a then Some c.refusal else first_refusal later a

-- so many intervals in kilograms, without a sign: what is stored is positive
abbrev pub kilograms_of : Setup → ℤ → ℕ
kilograms_of s whole = unsigned_abs (pos s.interval_kg *ℤ whole)

-- the gross that is stored; none for a Void
abbrev pub gross_stored : Setup → Kind → Option ℤ → Option ℕ
gross_stored s First g = option_map (kilograms_of s) g
gross_stored s Second g = option_map (kilograms_of s) g
gross_stored s Single g = option_map (kilograms_of s) g
gross_stored s Void g = None

abbrev pub preset_of : Setup → TareNow → Option ℕ
preset_of s Empty = None
preset_of s (Weighed tenths) = None
preset_of s (Preset whole) = Some (kilograms_of s whole)

-- the preset tare that is stored, of a Single alone
abbrev pub preset_stored : Setup → Kind → TareNow → Option ℕ
preset_stored s First tare = None
preset_stored s Second tare = None
preset_stored s Single tare = preset_of s tare
preset_stored s Void tare = None

-- the entry that is added, with the digest of the entry one number below, and its own
abbrev pub entry_added : Asking → EntryParts
entry_added a = sealed_entry (record {
  number = number_after a.now.entries a.now.spent;
  key = a.key;
  kind = a.kind;
  plate = a.plate;
  moment = a.now.at;
  gross_kg = gross_stored a.now.setup a.kind (gross a.now.history);
  preset_kg = preset_stored a.now.setup a.kind (tare_now a.now.history);
  interval_kg = a.now.setup.interval_kg;
  max_kg = a.now.setup.max_kg;
  serial = a.now.setup.serial;
  digest = [];
  previous = previous_after (newest_entry a.now.entries) (number_after a.now.entries a.now.spent);
})

pub data Verdict : Type 0 where
  refused : Refusal → Verdict
  -- the key repeats this entry
  repeated : EntryParts → Verdict
  -- this entry is added
  accepted : EntryParts → Verdict

-- the verdict on a request whose key is new
abbrev pub on_new : Asking → Option Refusal → Verdict
on_new a (Some why) = refused why
on_new a None = accepted (entry_added a)

-- the verdict if no condition on the key holds: its entry is repeated, if there is one
abbrev pub on_key : Asking → Option EntryParts → Verdict
on_key a (Some e) = repeated e
on_key a None = on_new a (first_refusal of_new a)

-- the verdict: by the first condition on the key, else repeated, else by the first condition on a new one, else accepted
abbrev pub by_order : Asking → Option Refusal → Verdict
by_order a (Some why) = refused why
by_order a None = on_key a (entry_by_key a.now.entries a.key)

unfoldable pub verdict : Asking → Verdict
verdict a = by_order a (first_refusal of_key a)
