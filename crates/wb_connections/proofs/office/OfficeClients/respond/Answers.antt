use Rattle.std.proofs.Common.{rules}
use Rattle.wb_connections.specs.Dispatch.{is_asked}
use Rattle.wb_connections.proofs.Dispatch.{found_at, none_found}
use Rattle.wb_connections.proofs.office.OfficeClients.respond.Goals as goal

pub returns-in_err-asked-clause-returns : goal.returns-in_err-asked-clause-returns
returns-in_err-asked-clause-returns g c = search (rules, c.in_err-asked.is, none_found (λ x. is_asked x.stage) c.args.self.now.connections.items)

pub returns-clause-returns : goal.returns-clause-returns
returns-clause-returns g c = search (rules, c.in_ok-asked.is, c.respond.ensures.peer, found_at (λ x. is_asked x.stage) c.args.self.now.connections.items c.in_ok-asked.asked c.index_mut-connection.result.now)
