use Rattle.std.proofs.Common.{◌≡◌, ◌≤◌}
use Rattle.sqlite_wal.specs.Format.{zeros_to}
use Rattle.wb_wal.proofs.bytes.zeros_in.Given as goal

abbrev pub invariant-loop-i : goal.invariant-loop-i
invariant-loop-i l = (l.count ≡ zeros_to l.bytes l.i) × (l.count ≤ l.i)
