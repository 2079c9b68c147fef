-- Laws of every calibration.
use Rattle.std.specs.Prelude.{◌≡◌, ◌↔◌, ◌⊎◌, ℕ, ◌+◌, ℤ, pos, neg_ℤ, ◌-ℤ◌, ◌*ℤ◌, ◌≤ℤ◌, ◌<ℤ◌, List, length, Some, None, slice_get}
use Rattle.wb_calibration.specs.declared.point.Point.{Point}
use Rattle.wb_calibration.specs.declared.segment.Segment.{Segment}
use Rattle.wb_calibration.specs.Calibration.{IsCalibration}
use Rattle.wb_calibration.specs.Fault.{fault_of_points}
use Rattle.wb_calibration.specs.Line.{IsLoadOf, IsOnLine, past, rise, run, segment_of}
use Rattle.wb_calibration.specs.Turned.{counts_fall, rising_counts}

-- points without a fault are those of a calibration
abbrev pub FaultlessAre : Type 0
FaultlessAre = (points : List Point) → (fault_of_points points ≡ None) ↔ IsCalibration points

-- counts lie between two neighbours, or past the end at which these are
pub record LieBetween (points : List Point) (counts : ℤ) (s : Segment) : Type 0 where
  pub place : ℕ
  pub lower : slice_get points place ≡ Some s.lower
  pub upper : slice_get points (place + 1) ≡ Some s.upper
  pub from : (place ≡ 0) ⊎ (rising_counts (counts_fall points) s.lower.counts ≤ℤ rising_counts (counts_fall points) counts)
  pub to : (place + 2 ≡ length points) ⊎ (rising_counts (counts_fall points) counts <ℤ rising_counts (counts_fall points) s.upper.counts)

-- the two whose line holds are such
abbrev pub AllBetween : Type 0
AllBetween = (points : List Point) (counts : ℤ) (s : Segment) → segment_of points counts ≡ Some s → LieBetween points counts s

-- all counts are those of some tenths on the line, so that they have no load only if a converter may not hand that in
abbrev pub AllOnLine : Type 0
AllOnLine = (points : List Point) → IsCalibration points → (counts : ℤ) → (tenths : ℤ) × IsOnLine points counts tenths

-- at each point the load is that point's
abbrev pub ExactAtPoints : Type 0
ExactAtPoints = (points : List Point) → IsCalibration points
    → (place : ℕ) (p : Point) → slice_get points place ≡ Some p → IsLoadOf points p.counts p.tenths

-- more counts give no less load, or fewer counts, if they fall; the same counts give the same
abbrev pub AllInOrder : Type 0
AllInOrder = (points : List Point) → IsCalibration points
    → (counts others tenths more : ℤ) → rising_counts (counts_fall points) counts ≤ℤ rising_counts (counts_fall points) others
    → IsOnLine points counts tenths → IsOnLine points others more → tenths ≤ℤ more

-- the tenths are at most half a tenth from the straight line: twice what they are apart times the run is at most the run
abbrev pub AllNear : Type 0
AllNear = (points : List Point) (counts tenths : ℤ) → (on : IsOnLine points counts tenths)
    → let s = on.segment in
    let falling = counts_fall points in
    let apart = run falling s *ℤ (tenths -ℤ s.lower.tenths) -ℤ past falling s counts *ℤ rise s in
    (neg_ℤ (run falling s) ≤ℤ (pos 2 *ℤ apart)) × ((pos 2 *ℤ apart) ≤ℤ run falling s)
