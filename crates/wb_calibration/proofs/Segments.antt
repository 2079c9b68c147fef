-- The segments of a calibration.
use Rattle.std.proofs.Common.{◌≡◌, ap, Bool, true, false, ℤ, List, [], ◌∷◌, Option, unwrap_or, if◌then◌else◌}
use Rattle.wb_calibration.specs.declared.point.Point.{Point}
use Rattle.wb_calibration.specs.declared.segment.Segment.{Segment}
use Rattle.wb_calibration.specs.Calibration.{AreBehind, IsPoint}
use Rattle.wb_calibration.specs.Line.{IsOnLine, IsRoundedOnLine, stands_for_less, segment_among}
use Rattle.wb_calibration.specs.helpers.Neighbours.{IsSegment}
use Rattle.wb_calibration.specs.Turned.{counts_fall}

-- any of them is one of neighbours of the calibration
pub IsSegment-from : (falling : Bool) (lower upper : Point) (above : List Point) (counts : ℤ) → IsPoint lower → AreBehind falling lower (upper ∷ above)
    → IsSegment falling (segment_among falling lower upper above counts)
IsSegment-from falling lower upper [] counts is behind = record { lower = is; upper = behind.0; apart = behind.1 }
IsSegment-from falling lower upper (next ∷ above) counts is behind =
    elim (stands_for_less falling counts upper.counts) as (λ v. IsSegment falling (if v then record { lower = lower; upper = upper } else segment_among falling upper next above counts))
    [ true ↦ record { lower = is; upper = behind.0; apart = behind.1 } | false ↦ IsSegment-from falling upper next above counts behind.0 behind.2 ]

-- tenths on the line are rounded on the segment that is found
pub IsRoundedOnLine-on_line : (lower upper : Point) (above : List Point) (counts tenths : ℤ) → IsOnLine (lower ∷ upper ∷ above) counts tenths
    → let falling = counts_fall (lower ∷ upper ∷ above) in IsRoundedOnLine falling (segment_among falling lower upper above counts) counts tenths
IsRoundedOnLine-on_line lower upper above counts tenths on =
    let falling = counts_fall (lower ∷ upper ∷ above) in
    let found = segment_among falling lower upper above counts in
    let e : found ≡ on.segment = ap (λ (o : Option Segment). unwrap_or o found) on.neighbours in
    rw e on.rounded
