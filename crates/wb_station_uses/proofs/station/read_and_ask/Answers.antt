use Rattle.std.proofs.Common.{[], ◌∷◌, subst}
use Rattle.std.proofs.lemmas.Option.{IfSome_then}
use Rattle.wb_station.proofs.Theorems.{law_of_runs}
use Rattle.wb_station.proofs.offered.Runs.{ran_more, ran_none}
use Rattle.wb_station.specs.Account.{IsOut, replied}
use Rattle.wb_messages.specs.Happening.{office, reading}
use Rattle.wb_station.specs.OutputShows.{out_shown}
use Rattle.wb_station_uses.proofs.station.read_and_ask.Goals as goal

-- both happenings are a run, and a run leads where the history does
pub returns : goal.returns
returns g c = λ opening h stood honest.
    let t = c.args.station.now.terminal in
    let j = c.args.station.now.office in
    let first = reading c.args.reading in
    let read = c.read-replies.follows.holds-at-none in
    let asked = c.turn-output.follows.holds-at-none in
    let then = office c.args.moment c.args.bytes.now asked.0 in
    let outs = replied c.read-replies.result.now.items ∷ [] in
    let both = ran_more g.D.Store (first ∷ []) outs then _ t j _ _ _ _ (ran_more g.D.Store [] [] first _ t j t j _ _ (ran_none g.D.Store t j) read) asked.1 in
    let led = (law_of_runs g.D.Store).leads (then ∷ first ∷ []) t j _ _ (out_shown c.turn-output.result ∷ outs) both in
    let put_out = led.put_out opening h stood honest in (
      asked.0,
      led.stands opening h stood honest,
      IfSome_then c.response_of.result c.response_of.ensures (λ response same. subst (IsOut t.scale.setup opening then (first ∷ h)) same put_out.0),
    )
