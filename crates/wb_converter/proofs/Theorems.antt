-- What is handed on, as the service reads it; and what a filter shows.
use Rattle.std.proofs.Common.{◌≡◌, refl, ℤ, neg_ℤ, ◌≤ℤ◌, true, arith}
use Rattle.std.specs.Prelude.{int_le}
use Rattle.std.proofs.lemmas.Int.{ints}
use Rattle.std.specs.Fmt.{signed_decimal}
use Rattle.wb_input.specs.ConverterLines.{converter_reading}
use Rattle.wb_window.specs.Reading.{greatest_load}
use Rattle.wb_window.specs.declared.reading.Reading.TheVariants.{Load}
use Rattle.wb_calibration_file.proofs.Numbers.{number-signed}
use Rattle.wb_converter.specs.FilterLaws.{FollowsInTime, IsOne, LiesBetween, WaitsAfterLost}
use Rattle.wb_converter.specs.Laws.{AreRead}
use Rattle.wb_converter.proofs.Filters.{follows_in_time, is_one, lies_between, waits_after_lost}

load_read : (tenths : ℤ) → neg_ℤ greatest_load ≤ℤ tenths → tenths ≤ℤ greatest_load → converter_reading (signed_decimal tenths) ≡ Load tenths
load_read tenths low high =
    let less : int_le (neg_ℤ greatest_load) tenths ≡ true = grind (arith, ints) in
    let more : int_le tenths greatest_load ≡ true = grind (arith, ints) in
    rw (number-signed tenths (omega (arith, ints, low, high)), less, more) refl

-- What is handed on for a load is read by the service as that load, and `lost` as a lost reading.
pub law_of_answers : AreRead
law_of_answers = record { loads = load_read; lost = refl }

-- What a filter shows lies between the least and the greatest of the last counts.
pub law_of_bounds : LiesBetween
law_of_bounds = lies_between

-- It shows counts that have come as often as it wants, whatever came before.
pub law_of_delay : FollowsInTime
law_of_delay = follows_in_time

-- After a reading that failed it shows nothing until as many have come again.
pub law_of_lost_readings : WaitsAfterLost
law_of_lost_readings = waits_after_lost

-- It shows one value alone.
pub law_of_one_value : IsOne
law_of_one_value = is_one
