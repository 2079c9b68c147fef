-- Stable equilibrium (OIML R 76-1:2006, 4.4.2; the window and the band are this project's own).
use Rattle.std.specs.Prelude.{ℕ, Bool, false, ◌&&◌, nat_le, List, length, take, pos, ◌+ℤ◌, int_le}
use Rattle.std.specs.List.{list_all}
use Rattle.wb_window.specs.declared.reading.Reading.{Reading}
use Rattle.wb_window.specs.declared.reading.Reading.TheVariants.{Load, Lost}

-- both are loads, and they differ by at most the band
abbrev pub near : ℕ → Reading → Reading → Bool
near band (Load a) (Load b) = int_le a (b +ℤ pos band) && int_le b (a +ℤ pos band)
near band (Load a) Lost = false
near band Lost b = false

-- each is a load, and any two of them differ by at most the band
abbrev pub are_near : ℕ → List Reading → Bool
are_near band readings = list_all (λ a. list_all (near band a) readings) readings

-- of readings, the newest first: there are n at least, and the last n agree
abbrev pub is_stable : ℕ → ℕ → List Reading → Bool
is_stable n band readings = nat_le n (length readings) && are_near band (take n readings)
