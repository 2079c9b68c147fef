-- What is made of the last readings of a load cell.
use Rattle.std.specs.Prelude.{ℕ, Option, Some, None}
use Rattle.wb_calibration.specs.declared.filter.Filter.{Filter}
use Rattle.wb_calibration.specs.declared.filter.Filter.TheVariants.{Median, Mean}
use Rattle.wb_calibration.specs.Readings.{IsNumberOfReadings}

-- of how many a filter makes one value
abbrev pub readings_of : Filter → ℕ
readings_of (Median n) = n
readings_of (Mean n) = n

-- one of 1 to 32 readings, or none
abbrev pub IsFilter : Option Filter → Type 0
IsFilter None = Unit {0}
IsFilter (Some f) = IsNumberOfReadings (readings_of f)
