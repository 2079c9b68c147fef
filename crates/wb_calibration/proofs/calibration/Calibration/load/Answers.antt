use Rattle.std.proofs.Common.{◌≡◌, sym, ◌∙◌, to_z-of_z, w32, w64, SFits, rules}
use Rattle.wb_window.specs.Reading.{reading_of}
use Rattle.wb_window.specs.declared.reading.Reading.TheVariants.{Load, Lost}
use Rattle.wb_calibration.proofs.Loads.{segment_of-passed, IsSegment-found, IsRoundedOnLine-passed, load_clause, lost_clause}
use Rattle.wb_calibration.proofs.calibration.Calibration.load.Goals as goal

pub load-requires : goal.load-requires
load-requires c =
    let points = c.self.inside.points.items in
    let s = c.segment_from-segment.result in
    let e = segment_of-passed points c.as_slice-points.result.now c.falls-falls.result c.args.counts s _ c.as_slice-points.ensures.value c.in-len2-up.len_at_least c.falls-falls.ensures c.ranges.counts c.segment_from-segment.ensures in
    let falls_is = IsSegment-found points c.args.counts s c.self.invariant e in
    rw (c.falls-falls.ensures, c.as_slice-points.ensures.value) falls_is

pub returns-in-Load-clause-value : goal.returns-in-Load-clause-value
returns-in-Load-clause-value c = λ tenths.
    let points = c.self.inside.points.items in
    let s = c.segment_from-segment.result in
    let e = segment_of-passed points c.as_slice-points.result.now c.falls-falls.result c.args.counts s _ c.as_slice-points.ensures.value c.in-len2-up.len_at_least c.falls-falls.ensures c.ranges.counts c.segment_from-segment.ensures in
    let r = IsRoundedOnLine-passed points c.as_slice-points.result.now c.falls-falls.result c.args.counts s c.load.result c.as_slice-points.ensures.value c.falls-falls.ensures c.ranges.counts c.load.ensures in
    let fits : SFits w64 c.load.result = record { sfits = c.load.type_inv } in
    let read_fits : SFits w32 c.in-Load.tenths = search rules in
    let k : Load c.in-Load.tenths ≡ reading_of c.load.result = sym c.in-Load.is ∙ (rw (to_z-of_z fits) at c.of.ensures.value) in
    rw (← c.self.view_is, to_z-of_z read_fits) (load_clause points c.args.counts s c.load.result tenths c.self.invariant e r c.in-Load.tenths k)

pub returns-in-Lost-clause-value : goal.returns-in-Lost-clause-value
returns-in-Lost-clause-value c = λ tenths.
    let points = c.self.inside.points.items in
    let s = c.segment_from-segment.result in
    let e = segment_of-passed points c.as_slice-points.result.now c.falls-falls.result c.args.counts s _ c.as_slice-points.ensures.value c.in-len2-up.len_at_least c.falls-falls.ensures c.ranges.counts c.segment_from-segment.ensures in
    let r = IsRoundedOnLine-passed points c.as_slice-points.result.now c.falls-falls.result c.args.counts s c.load.result c.as_slice-points.ensures.value c.falls-falls.ensures c.ranges.counts c.load.ensures in
    let fits : SFits w64 c.load.result = record { sfits = c.load.type_inv } in
    let k : Lost ≡ reading_of c.load.result = sym c.in-Lost.is ∙ (rw (to_z-of_z fits) at c.of.ensures.value) in
    rw (← c.self.view_is) (lost_clause points c.args.counts s c.load.result tenths c.self.invariant e r k)
