-- The nearest entry of a plate below a number that is no Single.
use Rattle.std.specs.Prelude.{ℕ, Bool, not, List, Option, find, reverse, ◌&&◌, ◌==◌, nat_lt}
use Rattle.std.specs.Str.{bytes_eq}
use Rattle.wb_journal.specs.declared.entry.EntryParts.{EntryParts}
use Rattle.wb_tables.specs.Rows.{code_of_kind}

-- an entry of this plate that is no Single, with a number below this one
abbrev pub may_pair_below : List ℕ → ℕ → EntryParts → Bool
may_pair_below plate number e = bytes_eq e.plate plate && (not (code_of_kind e.kind == 3) && nat_lt e.number number)

-- the one with the greatest number
abbrev pub nearest_below : List ℕ → ℕ → List EntryParts → Option EntryParts
nearest_below plate number entries = find (may_pair_below plate number) (reverse entries)
