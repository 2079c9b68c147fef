-- Counts of a load cell, as they rise with the load.
use Rattle.std.specs.Prelude.{Bool, true, false, ℤ, neg_ℤ, List, ◌∷◌, int_lt}
use Rattle.wb_calibration.specs.declared.point.Point.{Point}

-- whether the counts fall while the load rises, as those of a cell that is wired the other way: from the first point to the second
abbrev pub counts_fall : List Point → Bool
counts_fall (first ∷ second ∷ rest) = int_lt second.counts first.counts
counts_fall _ = false

-- counts as they rise with the load: with the other sign if they fall
abbrev pub rising_counts : Bool → ℤ → ℤ
rising_counts true counts = neg_ℤ counts
rising_counts false counts = counts
