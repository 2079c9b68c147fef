-- Lines for the client.
use Rattle.std.specs.Prelude.{ℕ, List, ◌++◌, ℤ, codes}
use Rattle.std.specs.Fmt.{signed_decimal}

-- the line of a load: its tenths in decimal digits, with a minus sign if they are below zero, and LF
abbrev pub line_of : ℤ → List ℕ
line_of tenths = signed_decimal tenths ++ codes "\n"

-- the line of a reading that has no load
abbrev pub lost_line : List ℕ
lost_line = codes "lost\n"
