-- What a migration prints.
use Rattle.std.specs.Prelude.{ℕ, List, ◌++◌, codes, decimal}

-- the line of a migration that brought over so many entries
abbrev pub migrated_line : ℕ → List ℕ
migrated_line count = codes "MIGRATED " ++ decimal count ++ codes "\n"
