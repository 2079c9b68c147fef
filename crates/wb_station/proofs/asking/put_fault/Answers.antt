use Rattle.std.proofs.Common.{ap, refl}
use Rattle.wb_station.specs.Account.{responded}
use Rattle.wb_station.proofs.Accounts.{when_ok}
use Rattle.wb_station.proofs.asking.put_fault.Goals as goal

pub returns-clause-response : goal.returns-clause-response
returns-clause-response c =
    let is = when_ok c.response_bytes.result c.response_bytes.ensures.value (c.response_bytes.ensures.fits refl) in
    (is.0, is.1, ap responded is.2)
