-- A reading of a load converter.
use Rattle.std.specs.Prelude.{ℤ, pos, neg_ℤ, ◌≤ℤ◌, int_le, ◌&&◌, if◌then◌else◌}
use Rattle.wb_window.specs.declared.reading.Reading.{Reading}
use Rattle.wb_window.specs.declared.reading.Reading.TheVariants.{Load, Lost}

-- the greatest load that a converter hands in, in tenths of the verification scale interval
abbrev pub greatest_load : ℤ
greatest_load = pos 2000000

-- a load of so many tenths, where it is in range
abbrev pub reading_of : ℤ → Reading
reading_of tenths = if int_le (neg_ℤ greatest_load) tenths && int_le tenths greatest_load then Load tenths else Lost

-- a reading in range
abbrev pub IsReading : Reading → Type 0
IsReading (Load load) = (neg_ℤ greatest_load ≤ℤ load) × (load ≤ℤ greatest_load)
IsReading Lost = Unit {0}
