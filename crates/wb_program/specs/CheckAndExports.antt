-- What the check of a store's journal and its exports print.
use Rattle.std.specs.Prelude.{ℕ, Bool, true, false, List, ◌++◌, codes, decimal, Option, Some, None}
use Rattle.wb_journal.specs.Check.{finding_in}
use Rattle.wb_journal.specs.declared.entry.EntryParts.{EntryParts}
use Rattle.wb_journal.specs.declared.journal_check.Finding.{Finding}
use Rattle.wb_journal.specs.declared.journal_check.Finding.TheVariants.{Damaged, Sound}
use Rattle.wb_office.specs.Exports.{journal_csv, tickets_csv}
use Rattle.wb_program.specs.declared.commands.What.{What}
use Rattle.wb_program.specs.declared.commands.What.TheVariants.{Journal, Tickets}

-- the line of what a check finds
abbrev pub finding_line : Finding → List ℕ
finding_line (Sound count) = codes "SOUND " ++ decimal count ++ codes "\n"
finding_line (Damaged number) = codes "DAMAGED " ++ decimal number ++ codes "\n"

abbrev pub is_sound_finding : Finding → Bool
is_sound_finding (Sound count) = true
is_sound_finding (Damaged number) = false

-- a text, if the check found no damage
abbrev pub text_if_sound : Finding → List ℕ → Option (List ℕ)
text_if_sound (Sound count) text = Some text
text_if_sound (Damaged number) text = None

-- the text of an export; none of the tickets of a damaged journal
abbrev pub export_text : What → List EntryParts → Option (List ℕ)
export_text Journal es = Some (journal_csv es)
export_text Tickets es = text_if_sound (finding_in es) (tickets_csv es)
