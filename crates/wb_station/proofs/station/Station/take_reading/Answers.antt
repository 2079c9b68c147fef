use Rattle.wb_station.proofs.Accounts.{reading_took}
use Rattle.wb_station.proofs.station.Station.take_reading.Goals as goal

pub returns-clause-took : goal.returns-clause-took
returns-clause-took g c =
    reading_took g.D.Store c.args.self.now.office c.args.reading c.hear.new.replies.items c.args.self.now.terminal c.hear.new.terminal c.hear.ensures.takes c.hear.ensures.replies

pub returns-clause-noticed : goal.returns-clause-noticed
returns-clause-noticed g c = c.hear.ensures.notice
