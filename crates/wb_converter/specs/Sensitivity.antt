-- How many counts stand for a verification scale interval.
use Rattle.std.specs.Prelude.{ℕ, ◌*◌, ◌/◌, ◌^◌, ◌-◌, ◌-ℤ◌, unsigned_abs, max, min, List, [], ◌∷◌}
use Rattle.wb_calibration.specs.declared.point.Point.{Point}

-- between two points, in tenths of a count, rounded down: ten tenths of e are an interval
abbrev pub sensitivity_between : Point → Point → ℕ
sensitivity_between p q = unsigned_abs (q.counts -ℤ p.counts) * 100 / max (unsigned_abs (q.tenths -ℤ p.tenths)) 1

-- the least of so many and of what is between two neighbours, from a point on
abbrev pub least_among : ℕ → Point → List Point → ℕ
least_among least p [] = least
least_among least p (q ∷ rest) = least_among (min least (sensitivity_between p q)) q rest

-- the least of a calibration
abbrev pub sensitivity_of : List Point → ℕ
sensitivity_of [] = 2 ^ 64 - 1
sensitivity_of (p ∷ rest) = least_among (2 ^ 64 - 1) p rest
