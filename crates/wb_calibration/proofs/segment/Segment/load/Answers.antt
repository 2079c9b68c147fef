use Rattle.std.proofs.Common.{rules, ◌≡◌, ◌≤◌, Bool, w32, w64, ℤ, pos, ◌+ℤ◌, ◌-ℤ◌, ◌*ℤ◌, ◌≤ℤ◌, SFits, to_z, of_z, unsigned_abs, arith}
use Rattle.std.proofs.lemmas.Int.{ints}
use Rattle.wb_calibration.specs.declared.segment.Segment.{Segment}
use Rattle.wb_calibration.specs.Line.{IsNearest, past, rise, run}
use Rattle.wb_calibration.specs.helpers.Neighbours.{IsSegment}
use Rattle.wb_calibration.proofs.Rounding.{IsRoundedOnLine-nearest, positive_run}
use Rattle.wb_calibration.proofs.Turning.{turned_apart}
use Rattle.wb_calibration.proofs.Sizes.{run_small, rise_small, product_small, product_fits, product_passed}
use Rattle.wb_calibration.proofs.segment.Segment.load.Goals as goal

-- the rise as the code has it
rise_is : (falling : Bool) (s : Segment) → IsSegment falling s → (is : ℤ) → is ≡ to_z w32 (of_z w32 (to_z w32 (of_z w32 s.upper.tenths) -ℤ to_z w32 (of_z w32 s.lower.tenths)))
    → to_z w64 (of_z w64 is) ≡ rise s
rise_is falling s segment is e = omega (arith, ints, e, segment.lower, segment.upper, rise_small falling s segment)

-- the sum as the code has it
sum_is : (lower q is : ℤ) → (pos 0 ≤ℤ lower) × (lower ≤ℤ pos 2000000) → unsigned_abs q ≤ 4611686018427387904 → is ≡ to_z w32 (of_z w32 lower)
    → to_z w64 (of_z w64 (to_z w64 (of_z w64 is) +ℤ to_z w64 (of_z w64 q))) ≡ lower +ℤ q
sum_is lower q is h small e = omega (arith, ints)

pub overflow_mul-past : goal.overflow_mul-past
overflow_mul-past c =
    let s = c.args.self.now in
    let falling = c.args.falls in
    let lower : SFits w32 s.lower.counts = search rules in
    let past_is = turned_apart falling c.args.counts s.lower.counts c.turned-2.result c.turned-lowest.result c.ranges.counts lower c.turned-2.ensures c.turned-lowest.ensures in
    let rise_is = rise_is falling s c.requires c.from-rise.result c.from-rise.ensures in
    rw (past_is, rise_is) (product_fits falling s c.args.counts c.requires lower c.ranges.counts)

pub nearest-requires : goal.nearest-requires
nearest-requires c =
    let s = c.args.self.now in
    let falling = c.args.falls in
    let lower : SFits w32 s.lower.counts = search rules in
    let upper : SFits w32 s.upper.counts = search rules in
    let run_is = turned_apart falling s.upper.counts s.lower.counts c.turned.result c.turned-lowest.result upper lower c.turned.ensures c.turned-lowest.ensures in
    let past_is = turned_apart falling c.args.counts s.lower.counts c.turned-2.result c.turned-lowest.result c.ranges.counts lower c.turned-2.ensures c.turned-lowest.ensures in
    let rise_is = rise_is falling s c.requires c.from-rise.result c.from-rise.ensures in
    let product_is = product_passed falling s c.args.counts c.requires lower c.ranges.counts in
    let product = product_small falling s c.args.counts c.requires lower c.ranges.counts in
    let run_is_small = run_small falling s c.requires lower upper in
    rw (past_is, rise_is, product_is, run_is) (record { product = omega (arith, product); positive = positive_run falling s c.requires; run = omega (arith, ints, run_is_small) })

pub returns : goal.returns
returns c =
    let s = c.args.self.now in
    let falling = c.args.falls in
    let lower : SFits w32 s.lower.counts = search rules in
    let upper : SFits w32 s.upper.counts = search rules in
    let run_is = turned_apart falling s.upper.counts s.lower.counts c.turned.result c.turned-lowest.result upper lower c.turned.ensures c.turned-lowest.ensures in
    let past_is = turned_apart falling c.args.counts s.lower.counts c.turned-2.result c.turned-lowest.result c.ranges.counts lower c.turned-2.ensures c.turned-lowest.ensures in
    let rise_is = rise_is falling s c.requires c.from-rise.result c.from-rise.ensures in
    let product_is = product_passed falling s c.args.counts c.requires lower c.ranges.counts in
    let near : IsNearest (past falling s c.args.counts *ℤ rise s) (run falling s) c.nearest.result = rw (past_is, rise_is, product_is, run_is) at c.nearest.ensures.nearest in
    IsRoundedOnLine-nearest falling s c.args.counts c.nearest.result _ near (sum_is s.lower.tenths c.nearest.result c.from.result c.requires.lower c.nearest.ensures.small c.from.ensures)
