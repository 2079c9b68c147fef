use Rattle.wb_store.proofs.Theorems.{law_of_leaving}
use Rattle.wb_station.proofs.Accounts.{opens}
use Rattle.wb_station.proofs.station.Station.open.Goals as goal

pub returns-clause-stands : goal.returns-clause-stands
returns-clause-stands g c = λ entries spent stood.
    opens g.D.Store _ c.args.store c.new-5.result c.new-5.ensures (c.new-4.ensures.stands c.new-3.ensures.stands) entries spent stood (law_of_leaving g.D.Store g.met.D.Store.settled c.args.store entries spent stood)
