-- The net of a weighing in two parts, or over a preset tare: N of a ticket. A tare of the terminal plays no part in it.
use Rattle.std.specs.Prelude.{ℕ, ◌-◌, Option, Some, None, ℤ, pos, ◌-ℤ◌, max, min}
use Rattle.wb_journal.specs.declared.entry.EntryParts.{EntryParts}

-- the greater gross less the smaller, where both are there
abbrev pub gross_difference : Option ℕ → Option ℕ → Option ℤ
gross_difference None other = None
gross_difference (Some gross) None = None
gross_difference (Some gross) (Some other) = Some (pos (max gross other - min gross other))

-- the gross less the preset tare, where both are there
abbrev pub gross_over_preset : Option ℕ → Option ℕ → Option ℤ
gross_over_preset None preset = None
gross_over_preset (Some gross) None = None
gross_over_preset (Some gross) (Some preset) = Some (pos gross -ℤ pos preset)

-- the net of an entry: with its partner, or over its preset tare
abbrev pub net_of_entry : EntryParts → Option EntryParts → Option ℤ
net_of_entry e None = gross_over_preset e.gross_kg e.preset_kg
net_of_entry e (Some partner) = gross_difference e.gross_kg partner.gross_kg
