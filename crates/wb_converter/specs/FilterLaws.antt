-- Laws of every filter, after any readings.
use Rattle.std.specs.Prelude.{◌≡◌, ◌<◌, ℤ, ◌≤ℤ◌, List, ◌∷◌, ◌++◌, Option, Some, None, length, replicate}
use Rattle.std.specs.List.{All}
use Rattle.wb_calibration.specs.declared.filter.Filter.{Filter}
use Rattle.wb_calibration.specs.Filter.{readings_of}
use Rattle.wb_converter.specs.Filter.{IsFiltered, last_counts}

-- what is shown lies between any bounds of the last counts, so between the least of them and the greatest
abbrev pub LiesBetween : Type 0
LiesBetween = (f : Filter) (readings : List (Option ℤ)) (x low high : ℤ) → 0 < readings_of f → IsFiltered f readings (Some x)
    → All (λ counts. (low ≤ℤ counts) × (counts ≤ℤ high)) (last_counts f readings) → (low ≤ℤ x) × (x ≤ℤ high)

-- counts that have come as often as the filter wants are shown, whatever came before
abbrev pub FollowsInTime : Type 0
FollowsInTime = (f : Filter) (earlier : List (Option ℤ)) (counts : ℤ) (value : Option ℤ) → 0 < readings_of f
    → IsFiltered f (replicate (readings_of f) (Some counts) ++ earlier) value → value ≡ Some counts

-- after a reading that failed nothing is shown until as many have come again
abbrev pub WaitsAfterLost : Type 0
WaitsAfterLost = (f : Filter) (since earlier : List (Option ℤ)) (value : Option ℤ) → length since < readings_of f
    → IsFiltered f (since ++ None ∷ earlier) value → value ≡ None

-- there is one value alone
abbrev pub IsOne : Type 0
IsOne = (f : Filter) (readings : List (Option ℤ)) (value other : Option ℤ) → 0 < readings_of f
    → IsFiltered f readings value → IsFiltered f readings other → value ≡ other
