-- What a count says beyond what was found.
use Rattle.std.proofs.Common.{◌≡◌, ℕ, ◌+◌, ◌<◌, Some, None, arith, rules}
use Rattle.wb_wal.specs.helpers.Commit.{left_of, left_after}

pub left-none : (s f : ℕ) → left_of s f ≡ None → s < f
left-none s f is = grind (arith, rules)

pub none-left : (s f : ℕ) → s < f → left_of s f ≡ None
none-left s f h = grind (arith, rules)

pub left-zero : (s f : ℕ) → left_of s f ≡ Some 0 → s ≡ f
left-zero s f is = grind (arith, rules)

pub zero-left : (s f : ℕ) → s ≡ f → left_of s f ≡ Some 0
zero-left s f h = grind (arith, rules)

pub left-more : (s f m : ℕ) → left_after (left_of s f) m ≡ left_of s (f + m)
left-more s f m = grind (arith, rules)
