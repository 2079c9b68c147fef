use Rattle.std.proofs.Common.{◌<◌, IfSome}
use Rattle.wb_connections.proofs.office.OfficeClients.first.Given as goal

abbrev pub invariant-loop-index : goal.invariant-loop-index
invariant-loop-index g l = IfSome l.first (λ found. found.1 < l.index)
