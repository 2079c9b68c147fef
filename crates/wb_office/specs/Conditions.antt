-- The conditions on which a weighing or void is refused: those with a section are OIML R 76-1:2006's, the others this project's own.
use Rattle.std.specs.Prelude.{ℕ, ◌+◌, Bool, false, not, ◌&&◌, ◌||◌, nat_lt, List, length, Option, Some, None, is_some, is_none, ℤ, int_lt}
use Rattle.std.specs.Str.{bytes_eq}
use Rattle.wb_instrument.specs.Limits.{is_below_min, is_above_range, is_below_range}
use Rattle.wb_journal.specs.declared.entry.EntryParts.{EntryParts}
use Rattle.wb_journal.specs.declared.kind.Kind.{Kind}
use Rattle.wb_journal.specs.declared.kind.Kind.TheVariants.{First, Second, Single, Void}
use Rattle.wb_journal.specs.Digest.{is_sound_entry}
use Rattle.wb_journal.specs.Kind.{is_closing_kind, is_first_kind, is_second_kind, is_single_kind, is_void_kind, same_kind}
use Rattle.wb_journal.specs.Pairs.{count_of_open, open_entry, partner_in}
use Rattle.wb_scale.specs.declared.answers.TareNow.{TareNow}
use Rattle.wb_scale.specs.declared.answers.TareNow.TheVariants.{Empty, Weighed, Preset}
use Rattle.wb_scale.specs.Cleared.{is_cleared}
use Rattle.wb_scale.specs.Indication.{gross}
use Rattle.wb_scale.specs.Moment.{readings}
use Rattle.wb_scale.specs.Tare.{is_preset, is_weighed, tare_now}
use Rattle.wb_tables.specs.Lists.{entry_by_key, is_spent, newest_entry, number_after}
use Rattle.wb_window.specs.Stability.{is_stable}
use Rattle.wb_office.specs.Situation.{Asking}

-- it holds of what is there; where nothing is there it doesn't
abbrev pub holds_of : {X : Type 0} → (X → Bool) → Option X → Bool
holds_of p None = false
holds_of p (Some x) = p x

-- ---- of the key

-- the entry's kind or plate isn't the one that is asked for
abbrev pub is_other : Asking → EntryParts → Bool
is_other a e = not (same_kind e.kind a.kind && bytes_eq e.plate a.plate)

-- an entry with this key is stored, and its kind or plate differs
abbrev pub key_reused : Asking → Bool
key_reused a = holds_of (is_other a) (entry_by_key a.now.entries a.key)

-- an entry with this key was purged
abbrev pub key_gone : Asking → Bool
key_gone a = is_spent a.now.spent a.key

-- an entry that isn't sound, or is a Second whose partner is missing or isn't sound
abbrev pub is_damaged_entry : List EntryParts → EntryParts → Bool
is_damaged_entry es e = not (is_sound_entry e) || (is_second_kind e.kind && not (holds_of is_sound_entry (partner_in es e)))

-- the key repeats such an entry
abbrev pub damaged_repetition : Asking → Bool
damaged_repetition a = holds_of (λ e. not (is_other a e) && is_damaged_entry a.now.entries e) (entry_by_key a.now.entries a.key)

-- ---- of the moment

-- the moment is less than that of the newest entry
abbrev pub clock_back : Asking → Bool
clock_back a = holds_of (λ e. nat_lt a.now.at e.moment) (newest_entry a.now.entries)

-- ---- of the load: a First, Second or Single is asked for; a Void needs none

abbrev pub asks_to_weigh : Asking → Bool
asks_to_weigh a = not (is_void_kind a.kind)

-- there is no gross
abbrev pub no_load : Asking → Bool
no_load a = asks_to_weigh a && is_none (gross a.now.history)

-- gross is above Max + 9 e (4.2.3)
abbrev pub overload : Asking → Bool
overload a = asks_to_weigh a && holds_of (is_above_range a.now.setup) (gross a.now.history)

-- gross is below -20 e
abbrev pub underload : Asking → Bool
underload a = asks_to_weigh a && holds_of is_below_range (gross a.now.history)

-- the scale isn't in stable equilibrium (4.4.2)
abbrev pub unstable : Asking → Bool
unstable a = asks_to_weigh a && not (is_stable a.now.setup.window a.now.setup.band (readings a.now.history))

-- gross is below Min (20 e in class III with e of 5 g or more: 3.2; that it is refused is this project's own)
abbrev pub below_min : Asking → Bool
below_min a = asks_to_weigh a && holds_of is_below_min (gross a.now.history)

-- any tare is in force for a First or Second, a weighed one for a Single
abbrev pub tare_active : Asking → Bool
tare_active a = asks_to_weigh a && (is_weighed (tare_now a.now.history) || (not (is_single_kind a.kind) && is_preset (tare_now a.now.history)))

-- a preset tare is in force, and the gross is above it
abbrev pub gross_is_above_preset : TareNow → Option ℤ → Bool
gross_is_above_preset (Preset whole) (Some g) = int_lt whole g
gross_is_above_preset (Preset whole) None = false
gross_is_above_preset (Weighed tenths) g = false
gross_is_above_preset Empty g = false

-- a Single is asked for, and no preset tare is in force, or one that isn't below the gross
abbrev pub no_preset : Asking → Bool
no_preset a = is_single_kind a.kind && not (gross_is_above_preset (tare_now a.now.history) (gross a.now.history))

-- the bridge was not cleared since the last stored weighing, or since the opening
abbrev pub not_cleared : Asking → Bool
not_cleared a = asks_to_weigh a && not (is_cleared a.now.history)

-- ---- of the journal

-- a First is asked for, and its plate has an open weighing: an entry that closes it now would have a partner
abbrev pub already_open : Asking → Bool
already_open a = is_first_kind a.kind && is_some (open_entry a.now.entries a.plate)

-- a Second or Void is asked for, and its plate has none
abbrev pub no_open : Asking → Bool
no_open a = is_closing_kind a.kind && is_none (open_entry a.now.entries a.plate)

-- a Second is asked for, and the First that it would close isn't sound
abbrev pub damaged_first : Asking → Bool
damaged_first a = is_second_kind a.kind && holds_of (λ f. not (is_sound_entry f)) (open_entry a.now.entries a.plate)

-- the places that the journal takes: one for each entry, and one more for each open First
abbrev pub places : List EntryParts → ℕ
places es = length es + count_of_open es

-- the free places that an entry of a kind needs: a First keeps one for the entry that closes it, which so needs none
abbrev pub places_needed : Kind → ℕ
places_needed First = 2
places_needed Second = 0
places_needed Single = 1
places_needed Void = 0

-- it needs places beyond the capacity, or the last number, 4,294,967,295, was given
abbrev pub journal_full : Asking → Bool
journal_full a =
    (nat_lt 0 (places_needed a.kind) && nat_lt a.now.setup.capacity (places a.now.entries + places_needed a.kind))
    || nat_lt 4294967295 (number_after a.now.entries a.now.spent)
