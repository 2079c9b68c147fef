-- The load of counts: on the straight line between two neighbouring points, in whole numbers.
use Rattle.std.specs.Prelude.{◌≡◌, Bool, ℤ, pos, neg_ℤ, ◌+ℤ◌, ◌-ℤ◌, ◌*ℤ◌, ◌≤ℤ◌, ◌<ℤ◌, int_lt, List, [], ◌∷◌, Option, Some, None, if◌then◌else◌}
use Rattle.wb_window.specs.Reading.{greatest_load}
use Rattle.wb_calibration.specs.declared.point.Point.{Point}
use Rattle.wb_calibration.specs.declared.segment.Segment.{Segment}
use Rattle.wb_calibration.specs.Turned.{counts_fall, rising_counts}

-- counts stand for less load than others
abbrev pub stands_for_less : Bool → ℤ → ℤ → Bool
stands_for_less falling counts others = int_lt (rising_counts falling counts) (rising_counts falling others)

-- the two neighbours whose line holds, from these two on: the first whose upper point the counts do not reach, or the last two
abbrev pub segment_among : Bool → Point → Point → List Point → ℤ → Segment
segment_among falling lower upper [] counts = record { lower = lower; upper = upper }
segment_among falling lower upper (next ∷ above) counts =
    if stands_for_less falling counts upper.counts then record { lower = lower; upper = upper } else segment_among falling upper next above counts

-- those of a calibration's points
abbrev pub segment_of : List Point → ℤ → Option Segment
segment_of (lower ∷ upper ∷ above) counts = Some (segment_among (counts_fall (lower ∷ upper ∷ above)) lower upper above counts)
segment_of _ counts = None

-- counts from the lower point to the upper
abbrev pub run : Bool → Segment → ℤ
run falling s = rising_counts falling s.upper.counts -ℤ rising_counts falling s.lower.counts

-- tenths from the lower point to the upper
abbrev pub rise : Segment → ℤ
rise s = s.upper.tenths -ℤ s.lower.tenths

-- counts from the lower point to these
abbrev pub past : Bool → Segment → ℤ → ℤ
past falling s counts = rising_counts falling counts -ℤ rising_counts falling s.lower.counts

-- q is product / run rounded to a whole number, an exact half up: times twice the run, it is less than a run below twice the
-- product, and at most a run above it
pub record IsNearest (product run q : ℤ) : Type 0 where
  pub below : (pos 2 *ℤ product) <ℤ (pos 2 *ℤ (run *ℤ q) +ℤ run)
  pub above : (pos 2 *ℤ (run *ℤ q)) ≤ℤ (pos 2 *ℤ product +ℤ run)

-- tenths are those on the line of two points, lower.tenths + past * rise / run, rounded
abbrev pub IsRoundedOnLine : Bool → Segment → ℤ → ℤ → Type 0
IsRoundedOnLine falling s counts tenths = IsNearest (past falling s counts *ℤ rise s) (run falling s) (tenths -ℤ s.lower.tenths)

-- tenths are those of counts on the line of the two neighbours, however far past the ends
pub record IsOnLine (points : List Point) (counts tenths : ℤ) : Type 0 where
  pub segment : Segment
  pub neighbours : segment_of points counts ≡ Some segment
  pub rounded : IsRoundedOnLine (counts_fall points) segment counts tenths

-- tenths are the load of counts: those on the line, if a converter may hand them in
pub record IsLoadOf (points : List Point) (counts tenths : ℤ) : Type 0 where
  pub on_line : IsOnLine points counts tenths
  pub least : neg_ℤ greatest_load ≤ℤ tenths
  pub most : tenths ≤ℤ greatest_load
