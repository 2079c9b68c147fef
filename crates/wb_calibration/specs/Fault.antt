-- What is wrong with the points of a calibration: the first fault, by its place from 1.
use Rattle.std.specs.Prelude.{ℕ, ◌+◌, nat_lt, Bool, ℤ, pos, ◌+ℤ◌, int_le, List, [], ◌∷◌, length, Option, Some, None, ◌&&◌, if◌then◌else◌}
use Rattle.wb_window.specs.Reading.{greatest_load}
use Rattle.wb_calibration.specs.declared.fault.CalibrationFault.{CalibrationFault}
use Rattle.wb_calibration.specs.declared.fault.CalibrationFault.TheVariants.{Few, Many, Load, Loads, Counts}
use Rattle.wb_calibration.specs.declared.point.Point.{Point}
use Rattle.wb_calibration.specs.Turned.{counts_fall, rising_counts}

-- a load in tenths that a converter may hand in, and that weights can make
abbrev pub is_possible_load : ℤ → Bool
is_possible_load tenths = int_le (pos 0) tenths && int_le tenths greatest_load

-- the loads of neighbours are at least 100 tenths apart, the later above
abbrev pub loads_are_apart : Point → Point → Bool
loads_are_apart p q = int_le (p.tenths +ℤ pos 100) q.tenths

-- the counts of neighbours are at least 100 apart, all on the same side
abbrev pub counts_are_apart : Bool → Point → Point → Bool
counts_are_apart falling p q = int_le (rising_counts falling p.counts +ℤ pos 100) (rising_counts falling q.counts)

-- the first fault of the points behind p, the first of them at this place
abbrev pub fault_behind : Bool → ℕ → Point → List Point → Option CalibrationFault
fault_behind falling place p [] = None
fault_behind falling place p (q ∷ rest) =
    if is_possible_load q.tenths then (
    if loads_are_apart p q then (
    if counts_are_apart falling p q then fault_behind falling (place + 1) q rest
    else Some (Counts place)) else Some (Loads place)) else Some (Load place)

-- the first fault of points of which there are 2 to 8
abbrev pub fault_within : List Point → Option CalibrationFault
fault_within [] = None
fault_within (p ∷ rest) = if is_possible_load p.tenths then fault_behind (counts_fall (p ∷ rest)) 2 p rest else Some (Load 1)

-- the first fault of points: there are 2 to 8, each load is one, and neighbours are far enough apart
abbrev pub fault_of_points : List Point → Option CalibrationFault
fault_of_points points = if nat_lt (length points) 2 then Some Few else (if nat_lt 8 (length points) then Some Many else fault_within points)
