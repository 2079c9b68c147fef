-- A line of a load converter, without its end.
use Rattle.std.specs.Prelude.{ℕ, List, Option, Some, None, ℤ}
use Rattle.wb_input.specs.Number.{signed_number}
use Rattle.wb_window.specs.Reading.{reading_of}
use Rattle.wb_window.specs.declared.reading.Reading.{Reading}
use Rattle.wb_window.specs.declared.reading.Reading.TheVariants.{Lost}

-- a number of tenths is handed in, or nothing that is one
abbrev pub reading_of_number : Option ℤ → Reading
reading_of_number (Some tenths) = reading_of tenths
reading_of_number None = Lost

-- an optional minus sign and 1 to 18 digits are a number of tenths; any other line is a lost reading
abbrev pub converter_reading : List ℕ → Reading
converter_reading line = reading_of_number (signed_number line)
