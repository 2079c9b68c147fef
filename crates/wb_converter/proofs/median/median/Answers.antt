use Rattle.std.proofs.Common.{◌<◌, ap, length, ◌-◌, ◌/◌, pos, w32, to_z-of_z, SFits, slice_index_or, rules, arith}
use Rattle.std.proofs.lemmas.List.Sorted.{length_permutation}
use Rattle.wb_converter.proofs.Places.{IsMedian-sorted}
use Rattle.wb_converter.proofs.median.median.Goals as goal

longer : (c : goal.After-as_slice-sorted) → 0 < length c.as_slice-sorted.result.now
longer c =
    let n = length_permutation c.args.counts.now c.sorted-sorted.result.items c.sorted-sorted.ensures.same in
    let same = ap length c.as_slice-sorted.ensures.value in
    omega (arith, n, same, c.requires.some)

pub overflow_sub-sorted : goal.overflow_sub-sorted
overflow_sub-sorted c = omega (arith, longer c)

pub bounds-sorted-sorted : goal.bounds-sorted-sorted
bounds-sorted-sorted c = omega (arith, longer c)

pub bounds-sorted-sorted-2 : goal.bounds-sorted-sorted-2
bounds-sorted-sorted-2 c =
    let n = length_permutation c.args.counts.now c.sorted-sorted.result.items c.sorted-sorted.ensures.same in
    let same = ap length c.as_slice-sorted.ensures.value in
    omega (arith, n, same, c.requires.some)

pub returns : goal.returns
returns c =
    let sorted = c.as_slice-sorted.result.now in
    let n = length sorted in
    let lower : SFits w32 (slice_index_or sorted ((n - 1) / 2) (pos 0)) = search rules in
    let upper : SFits w32 (slice_index_or sorted (n / 2) (pos 0)) = search rules in
    let fits : SFits w32 c.middle.result = search rules in
    let is = rw (to_z-of_z lower, to_z-of_z upper) at c.middle.ensures in
    let items = c.as_slice-sorted.ensures.value in
    rw (to_z-of_z fits) (IsMedian-sorted c.args.counts.now sorted _ _ c.middle.result c.requires.some (rw items c.sorted-sorted.ensures.same) (rw items c.sorted-sorted.ensures.order) is)
