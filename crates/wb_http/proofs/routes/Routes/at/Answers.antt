use Rattle.std.proofs.Common.{sym}
use Rattle.wb_http.proofs.judgement.RoutesFound.{bytes_of, found, missing}
use Rattle.wb_http.proofs.routes.Routes.at.Goals as goal

pub returns-in-Ok : goal.returns-in-Ok
returns-in-Ok c =
    let there = rw c.self.invariant at c.in-Ok.ensures.found in
    sym (found c.args.path.now _ (bytes_of c.args.path.now c.type_inv.path) there)

pub returns-in-Err : goal.returns-in-Err
returns-in-Err c =
    let none = rw c.self.invariant at c.in-Err.ensures.missing in
    sym (missing c.args.path.now (bytes_of c.args.path.now c.type_inv.path) none)
