-- A calibration: 2 to 8 points.
use Rattle.std.specs.Prelude.{◌≤◌, Bool, pos, ◌+ℤ◌, ◌≤ℤ◌, List, [], ◌∷◌, length}
use Rattle.wb_window.specs.Reading.{greatest_load}
use Rattle.wb_calibration.specs.declared.point.Point.{Point}
use Rattle.wb_calibration.specs.Turned.{counts_fall, rising_counts}

-- a point's load is from 0 to the greatest that a converter hands in
abbrev pub IsPoint : Point → Type 0
IsPoint p = (pos 0 ≤ℤ p.tenths) × (p.tenths ≤ℤ greatest_load)

-- neighbours are at least 100 tenths and 100 counts apart
pub record AreApart (falling : Bool) (p q : Point) : Type 0 where
  pub loads : (p.tenths +ℤ pos 100) ≤ℤ q.tenths
  pub counts : (rising_counts falling p.counts +ℤ pos 100) ≤ℤ rising_counts falling q.counts

-- each of the points behind p is one, and neighbours are apart
abbrev pub AreBehind : Bool → Point → List Point → Type 0
AreBehind falling p [] = Unit {0}
AreBehind falling p (q ∷ rest) = IsPoint q × AreApart falling p q × AreBehind falling q rest

-- all of them
abbrev pub AreInOrder : Bool → List Point → Type 0
AreInOrder falling [] = Unit {0}
AreInOrder falling (p ∷ rest) = IsPoint p × AreBehind falling p rest

pub record IsCalibration (points : List Point) : Type 0 where
  pub two : 2 ≤ length points
  pub eight : length points ≤ 8
  pub in_order : AreInOrder (counts_fall points) points
