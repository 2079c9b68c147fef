use Rattle.std.proofs.Common.{◌≡◌, ℕ, get_or, length}
use Rattle.wb_connections.specs.Dispatch.{KeepsOwn}
use Rattle.wb_connections.specs.declared.connection.Connection.{Connection}
use Rattle.wb_connections.proofs.office.OfficeClients.drop_late.Given as goal

abbrev pub invariant-loop-connection : goal.invariant-loop-connection
invariant-loop-connection g l = (k : ℕ) (c : Connection g.row.L-Stream.Denot g.row.J.Denot) → KeepsOwn (get_or l.fn.self.connections.items k c) (get_or l.connection-items k c)
