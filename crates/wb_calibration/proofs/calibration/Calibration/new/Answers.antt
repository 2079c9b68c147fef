use Rattle.std.proofs.Common.{◌≡◌, sym, ◌∙◌, List, [], ◌++◌, None}
use Rattle.wb_calibration.specs.declared.point.Point.{Point}
use Rattle.wb_calibration.specs.Calibration.{IsCalibration}
use Rattle.wb_calibration.specs.Fault.{fault_of_points}
use Rattle.wb_calibration.proofs.Faults.{faultless_are}
use Rattle.wb_calibration.proofs.calibration.Calibration.new.Goals as goal

IsCalibration-kept : (points old new : List Point) → fault_of_points points ≡ None → old ≡ [] → new ≡ old ++ points → IsCalibration new
IsCalibration-kept points old new none e k = rw (k, e) (let f = faultless_are points in f.0 none)

pub invariant_of-result : goal.invariant_of-result
invariant_of-result c =
    IsCalibration-kept c.args.points.now c.new-kept.result.items c.try_extend_from_slice.new.self.items (sym c.fault_of.ensures ∙ c.in_default.is) c.new-kept.ensures c.in-Ok.ensures.ok
