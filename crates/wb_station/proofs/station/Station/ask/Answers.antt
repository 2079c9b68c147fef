use Rattle.wb_station.proofs.station.Station.ask.Goals as goal

pub returns : goal.returns
returns g c = λ bytes was.
    let took = c.ask-notice.ensures.took bytes was in
    (took.0, took.1, c.ask-notice.ensures.noticed bytes was)
