-- The points that were taken for a calibration.
use Rattle.std.specs.Prelude.{int_lt, List, [], ◌∷◌, if◌then◌else◌}
use Rattle.wb_calibration.specs.declared.point.Point.{Point}

-- these points and one more, in the order of their loads, in place of one with the same load
abbrev pub points_with : Point → List Point → List Point
points_with p [] = p ∷ []
points_with p (q ∷ rest) =
    if int_lt q.tenths p.tenths then q ∷ points_with p rest
    else (if int_lt p.tenths q.tenths then p ∷ q ∷ rest else p ∷ rest)
