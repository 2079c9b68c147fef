-- The record of an entry that may have none.
use Rattle.std.specs.Prelude.{ℕ, List, [], Option, Some, None}
use Rattle.csv.specs.Writing.{default_writer, row_text}

-- the text of a record, if there is one
abbrev pub record_text : Option (List (List ℕ)) → List ℕ
record_text None = []
record_text (Some fields) = row_text default_writer fields
