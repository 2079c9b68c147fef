-- The range of a load.
use Rattle.std.specs.Prelude.{ℤ, pos, neg_ℤ, ◌≤ℤ◌}
use Rattle.wb_window.specs.Reading.{greatest_load}

abbrev pub IsLoad : ℤ → Type 0
IsLoad load = (neg_ℤ greatest_load ≤ℤ load) × (load ≤ℤ greatest_load)

-- a load above a zero that is within its range
abbrev pub IsAbove : ℤ → Type 0
IsAbove tenths = (neg_ℤ (pos 2002000) ≤ℤ tenths) × (tenths ≤ℤ pos 2002000)
