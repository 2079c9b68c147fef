-- Two neighbouring points of a calibration.
use Rattle.std.specs.Prelude.{Bool}
use Rattle.wb_calibration.specs.declared.segment.Segment.{Segment}
use Rattle.wb_calibration.specs.Calibration.{AreApart, IsPoint}

pub record IsSegment (falling : Bool) (s : Segment) : Type 0 where
  pub lower : IsPoint s.lower
  pub upper : IsPoint s.upper
  pub apart : AreApart falling s.lower s.upper
