use Rattle.std.proofs.Common.{refl, arith, rules}
use Rattle.sqlite_wal.specs.Format.{zeros_to}
use Rattle.wb_wal.proofs.bytes.zeros_in.Goals.{then-bytes-i-eq0, else-bytes-i-eq0}
use Rattle.wb_wal.proofs.bytes.zeros_in.Goals as goal

pub loop-i-init : goal.loop-i-init
unfolding zeros_to
loop-i-init c = (refl, omega arith)

pub loop-i-preserved : goal.loop-i-preserved
unfolding zeros_to
loop-i-preserved c = elim (c.if-bytes-i-eq0.branch) [
  | then-bytes-i-eq0 w ↦ (grind (arith, rules), grind (arith, rules))
  | else-bytes-i-eq0 w ↦ (grind (arith, rules), grind (arith, rules))
]
