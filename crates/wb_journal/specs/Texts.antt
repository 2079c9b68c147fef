-- Slips and tickets: texts of an entry, and of its partner (print symbols of OIML R 76-1:2006: G gross, N net, PT preset tare).
use Rattle.std.specs.Prelude.{ℕ, ◌+◌, ◌/◌, ◌%◌, List, [], ◌∷◌, ◌++◌, Option, Some, None, ℤ, pos, codes, decimal}
use Rattle.wb_instrument.specs.WeightField.{weight_in_field}
use Rattle.wb_journal.specs.declared.civil.Civil.{Civil}
use Rattle.wb_journal.specs.declared.entry.EntryParts.{EntryParts}
use Rattle.wb_journal.specs.Civil.{civil}
use Rattle.wb_journal.specs.EntryText.{line}
use Rattle.wb_journal.specs.Kind.{kind_capitals}
use Rattle.wb_journal.specs.Net.{net_of_entry}

-- the last two digits of a number
abbrev pub two_digits : ℕ → List ℕ
two_digits n = (48 + n / 10) ∷ (48 + n % 10) ∷ []

-- YYYY-MM-DD
unfoldable pub date_text : Civil → List ℕ
date_text at = two_digits (at.year / 100) ++ two_digits (at.year % 100) ++ codes "-" ++ two_digits at.month ++ codes "-" ++ two_digits at.day

-- hh:mm:ss
unfoldable pub clock_text : Civil → List ℕ
clock_text at = two_digits at.hour ++ codes ":" ++ two_digits at.minute ++ codes ":" ++ two_digits at.second

-- YYYY-MM-DD hh:mm:ss, in UTC
unfoldable pub moment_text : ℕ → List ℕ
moment_text moment = date_text (civil moment) ++ codes " " ++ clock_text (civil moment)

-- a line with a weight
abbrev pub weight_line : List ℕ → ℤ → List ℕ
weight_line name kg = name ++ weight_in_field kg ++ codes " kg\n"

-- such a line where there is a weight
abbrev pub kilogram_line : List ℕ → Option ℕ → List ℕ
kilogram_line name None = []
kilogram_line name (Some kg) = weight_line name (pos kg)

-- what an entry is, and of when
unfoldable pub block_head : EntryParts → List ℕ
block_head e = kind_capitals e.kind ++ line (codes " NO ") (decimal e.number) ++ line (codes "AT ") (moment_text e.moment)

-- its gross and preset tare
unfoldable pub block_weights : EntryParts → List ℕ
block_weights e = kilogram_line (codes "G ") e.gross_kg ++ kilogram_line (codes "PT ") e.preset_kg

-- the instrument as it was when the entry was stored, and the digest
unfoldable pub block_device : EntryParts → List ℕ
block_device e = codes "E " ++ decimal e.interval_kg ++ codes " kg MAX " ++ decimal e.max_kg ++ line (codes " kg SERIAL ") e.serial
    ++ line (codes "DIGEST ") e.digest

-- the block of an entry
abbrev pub block : EntryParts → List ℕ
block e = block_head e ++ block_weights e ++ block_device e

-- a title with the entry's number, and its plate
unfoldable pub title : List ℕ → EntryParts → List ℕ
title name e = line name (decimal e.number) ++ line (codes "PLATE ") e.plate

-- the slip of an entry
unfoldable pub slip : EntryParts → List ℕ
slip e = title (codes "WEIGHING SLIP ") e ++ block e

-- the line of a net
abbrev pub net_line : Option ℤ → List ℕ
net_line None = []
net_line (Some kg) = weight_line (codes "N ") kg

-- the block of a partner, where there is one
abbrev pub partner_block : Option EntryParts → List ℕ
partner_block None = []
partner_block (Some partner) = block partner

-- the ticket of an entry and its partner
unfoldable pub ticket : EntryParts → Option EntryParts → List ℕ
ticket e partner = title (codes "WEIGHING TICKET ") e ++ partner_block partner ++ block e ++ net_line (net_of_entry e partner)
