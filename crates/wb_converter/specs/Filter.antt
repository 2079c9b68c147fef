-- What is made of the last readings. A reading is its counts, or none if it failed; of readings and of counts the newest comes first.
use Rattle.std.specs.Prelude.{◌≡◌, ℕ, ◌-◌, ◌/◌, ◌<◌, ◌≤◌, ℤ, pos, ◌+ℤ◌, int_lt, int_le, List, [], ◌∷◌, Option, Some, None, length, take, if◌then◌else◌}
use Rattle.std.specs.List.{sum_by}
use Rattle.wb_calibration.specs.declared.filter.Filter.{Filter}
use Rattle.wb_calibration.specs.declared.filter.Filter.TheVariants.{Median, Mean}
use Rattle.wb_calibration.specs.Filter.{readings_of}
use Rattle.wb_calibration.specs.Line.{IsNearest}
use Rattle.wb_converter.specs.Sample.{sum_of}

-- the counts that came since a reading failed
abbrev pub counts_since_lost : List (Option ℤ) → List ℤ
counts_since_lost [] = []
counts_since_lost (None ∷ earlier) = []
counts_since_lost (Some counts ∷ earlier) = counts ∷ counts_since_lost earlier

-- the last of them, at most as many as the filter makes one value of
abbrev pub last_counts : Filter → List (Option ℤ) → List ℤ
last_counts f readings = take (readings_of f) (counts_since_lost readings)

-- how many counts are less than x, and how many are at most x
abbrev pub how_many_below : ℤ → List ℤ → ℕ
how_many_below x = sum_by (λ counts. if int_lt counts x then 1 else 0)

abbrev pub how_many_up_to : ℤ → List ℤ → ℕ
how_many_up_to x = sum_by (λ counts. if int_le counts x then 1 else 0)

-- x stands at this place, from 0, if the counts are put in order: no more than that are below it, and more are up to it
pub record IsAtPlace (counts : List ℤ) (place : ℕ) (x : ℤ) : Type 0 where
  pub below : how_many_below x counts ≤ place
  pub up_to : place < how_many_up_to x counts

-- the one in the middle; of an even number of counts the mean of the two in the middle, an exact half up
pub record IsMedian (counts : List ℤ) (x : ℤ) : Type 0 where
  pub lower : ℤ
  pub upper : ℤ
  pub lower_place : IsAtPlace counts ((length counts - 1) / 2) lower
  pub upper_place : IsAtPlace counts (length counts / 2) upper
  pub middle : IsNearest (lower +ℤ upper) (pos 2) x

-- the mean is rounded to a whole number, an exact half up
abbrev pub IsMade : Filter → List ℤ → ℤ → Type 0
IsMade (Median n) counts x = IsMedian counts x
IsMade (Mean n) counts x = IsNearest (sum_of counts) (pos (length counts)) x

-- nothing is made of fewer counts than the filter wants
abbrev pub IsMadeOf : Filter → List ℤ → Option ℤ → Type 0
IsMadeOf f counts None = length counts < readings_of f
IsMadeOf f counts (Some x) = (length counts ≡ readings_of f) × IsMade f counts x

-- what the filter gives after these readings
abbrev pub IsFiltered : Filter → List (Option ℤ) → Option ℤ → Type 0
IsFiltered f readings value = IsMadeOf f (last_counts f readings) value

-- what is kept: the filter and the last counts
pub record Kept : Type 0 where
  pub filter : Filter
  pub last : List ℤ

abbrev pub Stands : Filter → List (Option ℤ) → Kept → Type 0
Stands f readings kept = (kept.filter ≡ f) × (kept.last ≡ last_counts f readings)
