-- What a load converter gives.
use Rattle.wb_window.specs.Reading.{IsReading}
use Rattle.wb_input.specs.declared.sources.Converter.{Converter}
use Rattle.wb_input.specs.declared.sources.Converter.TheVariants.{Line, End, Fault}

-- the load of a line's reading is in its range
abbrev pub IsConverted : Converter → Type 0
IsConverted (Line reading) = IsReading reading
IsConverted End = Unit {0}
IsConverted Fault = Unit {0}
