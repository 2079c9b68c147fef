use Rattle.std.proofs.Common.{◌≡◌, ◌⊎◌, ℕ, ◌<◌, slice_index}
use Rattle.wb_wal.proofs.bytes.are_right_or_lost.Given as goal

abbrev pub invariant-loop-i : goal.invariant-loop-i
invariant-loop-i l = (k : ℕ) → k < l.i → (slice_index l.bytes k ≡ 0) ⊎ (slice_index l.bytes k ≡ slice_index l.right k)
