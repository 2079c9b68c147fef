use Rattle.std.proofs.Common.{◌≡◌, ◌+ℤ◌, pos, SFits, w32, w64, to_z, of_z, rules, arith}
use Rattle.std.proofs.lemmas.Int.{ints}
use Rattle.wb_calibration.specs.Turned.{rising_counts}
use Rattle.wb_calibration.proofs.Turning.{turned_between, turned_passed}
use Rattle.wb_calibration.proofs.fault.are_apart_counts.Goals as goal

pub returns : goal.returns
returns c =
    let a = c.args in
    let before : SFits w32 a.before.counts = search rules in
    let point : SFits w32 a.point.counts = search rules in
    let b = turned_between a.falls a.before.counts before in
    let p = turned_between a.falls a.point.counts point in
    let be = turned_passed a.falls a.before.counts c.turned.result before c.turned.ensures in
    let pe = turned_passed a.falls a.point.counts c.turned-2.result point c.turned-2.ensures in
    let x : to_z w64 (of_z w64 (to_z w64 (of_z w64 c.turned.result) +ℤ pos 100)) ≡ rising_counts a.falls a.before.counts +ℤ pos 100 = omega (arith, ints, b, be) in
    let y : to_z w64 (of_z w64 c.turned-2.result) ≡ rising_counts a.falls a.point.counts = omega (arith, ints, p, pe) in
    rw (x, y)
