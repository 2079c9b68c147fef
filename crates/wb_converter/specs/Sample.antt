-- Counts under one load.
use Rattle.std.specs.Prelude.{List, ℤ, pos, neg_ℤ, ◌+ℤ◌, fold}
use Rattle.std.specs.Int.{int_max, int_min}

abbrev pub sum_of : List ℤ → ℤ
sum_of = fold ◌+ℤ◌ (pos 0)

-- of counts of 32 bits
abbrev pub greatest_of : List ℤ → ℤ
greatest_of = fold int_max (neg_ℤ (pos 2147483648))

abbrev pub least_of : List ℤ → ℤ
least_of = fold int_min (pos 2147483647)
