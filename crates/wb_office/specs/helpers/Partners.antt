-- An entry that was found, with its partner.
use Rattle.std.specs.Prelude.{◌≡◌, ℕ, List, Option, Some, None, option_map, ◌&&◌, ◌||◌, Bool, not}
use Rattle.wb_journal.specs.declared.entry.EntryParts.{EntryParts}
use Rattle.wb_journal.specs.Pairs.{partner_in, with_number}
use Rattle.wb_office.specs.declared.tickets.Pair.{Pair}
use Rattle.wb_journal.specs.Digest.{is_sound_entry}
use Rattle.wb_journal.specs.Kind.{is_second_kind}
use Rattle.wb_office.specs.Conditions.{holds_of}

-- it comes with its partner
abbrev pub IsPaired : List EntryParts → Option Pair → Type 0
IsPaired es None = Unit {0}
IsPaired es (Some pair) = pair.partner ≡ partner_in es pair.entry

-- the entry of the number, with its partner
pub record IsPairOf (es : List EntryParts) (number : ℕ) (found : Option Pair) : Type 0 where
  pub entry : option_map (λ pair. pair.entry) found ≡ with_number number es
  pub paired : IsPaired es found

-- an entry that isn't sound, or is a Second with this partner, which is missing or isn't sound
abbrev pub is_damaged_with : EntryParts → Option EntryParts → Bool
is_damaged_with e p = not (is_sound_entry e) || (is_second_kind e.kind && not (holds_of is_sound_entry p))
