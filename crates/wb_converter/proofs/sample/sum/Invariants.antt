use Rattle.std.proofs.Common.{◌≡◌, ◌*◌, take, pos, neg_ℤ, ◌≤ℤ◌}
use Rattle.wb_converter.specs.Sample.{sum_of}
use Rattle.wb_converter.proofs.sample.sum.Given as goal

abbrev pub invariant-loop-one : goal.invariant-loop-one
invariant-loop-one l =
    (l.sum ≡ sum_of (take l.one-index l.counts)) × (neg_ℤ (pos (2147483648 * l.one-index)) ≤ℤ l.sum) × (l.sum ≤ℤ pos (2147483647 * l.one-index))
