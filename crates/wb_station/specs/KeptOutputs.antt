-- Outputs that are kept in memory.
use Rattle.std.specs.Prelude.{ℕ, List, map, reverse}
use Rattle.wb_station.specs.declared.output_list.Placed.{Placed}

abbrev pub placed : Placed → ℕ × List ℕ
placed p = (p.at, p.bytes.items)

-- the newest first
abbrev pub kept_of : List Placed → List (ℕ × List ℕ)
kept_of ps = reverse (map placed ps)
