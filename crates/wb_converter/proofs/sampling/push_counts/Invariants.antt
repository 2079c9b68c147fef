use Rattle.std.proofs.Common.{◌≡◌, ◌++◌, ℕ, List, Some, map, length, vec_len, ◌≤◌}
use Rattle.wb_converter.specs.Counts.{HasNoEnd, IsHeld, counts_in}
use Rattle.wb_converter.proofs.sampling.push_counts.Given as goal

-- the counts so far, and those of what is held of a line and of the bytes after it, are those of all
abbrev pub invariant-loop-left : goal.invariant-loop-left
invariant-loop-left l =
    (begun after : List ℕ) → vec_len l.fn.counts ≤ l.lines → HasNoEnd begun → IsHeld l.fn.line begun
    → (vec_len l.counts ≤ l.lines) × (held : List ℕ) × HasNoEnd held × IsHeld l.line held
    × (map Some l.counts.items ++ counts_in (held ++ l.left ++ after) ≡ map Some l.fn.counts.items ++ counts_in (begun ++ l.fn.bytes ++ after))

abbrev pub decreases-loop-left : goal.decreases-loop-left
decreases-loop-left l = length l.left
