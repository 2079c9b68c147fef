-- Laws of what is handed on.
use Rattle.std.specs.Prelude.{◌≡◌, ℤ, neg_ℤ, ◌≤ℤ◌, codes}
use Rattle.std.specs.Fmt.{signed_decimal}
use Rattle.wb_input.specs.ConverterLines.{converter_reading}
use Rattle.wb_window.specs.Reading.{greatest_load}
use Rattle.wb_window.specs.declared.reading.Reading.TheVariants.{Load, Lost}

-- the service reads the line of a load as that load, and that of a lost reading as one; both without their LF
pub record AreRead : Type 0 where
  pub loads : (tenths : ℤ) → neg_ℤ greatest_load ≤ℤ tenths → tenths ≤ℤ greatest_load → converter_reading (signed_decimal tenths) ≡ Load tenths
  pub lost : converter_reading (codes "lost") ≡ Lost
