use Rattle.std.proofs.Common.{rules, ◌≡◌, length, arith}
use Rattle.wb_connections.proofs.Dispatch.{all_written}
use Rattle.wb_connections.proofs.office.OfficeClients.drop_late.Goals as goal

pub returns-clause-keeps : goal.returns-clause-keeps
returns-clause-keeps g c = λ k d.
    let same : length c.loop-connection.connection-items ≡ length c.args.self.now.connections.items = search rules in
    let is : c.args.self.now.connections.len ≡ length c.args.self.now.connections.items = search rules in
    rw (all_written c.loop-connection.connection-items c.args.self.now.connections.items c.args.self.now.connections.len same is) (c.loop-connection.invariant k d)
