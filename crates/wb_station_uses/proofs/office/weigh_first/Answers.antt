use Rattle.std.proofs.Common.{◌∙◌, ◌∷◌, ap, refl, subst, sym}
use Rattle.wb_office.specs.Serves.{IsNow}
use Rattle.wb_office.specs.Situation.{Situation}
use Rattle.wb_office.specs.Wanted.{Wanted}
use Rattle.wb_scale.specs.Call.{read}
use Rattle.wb_scale.specs.History.{moments}
use Rattle.wb_store.specs.Journal.{StoreStands}
use Rattle.wb_station_uses.proofs.office.weigh_first.Goals as goal

-- the reading leaves what the office asks of: a scale that stands after the calls up to it
pub returns : goal.returns
returns g c = λ calls entries spent stood stored honest told.
    let taken = c.read.ensures.takes in
    let history = read c.args.reading ∷ calls in
    let w : Situation = record { setup = c.args.scale.now.setup; history = moments c.args.scale.now.setup history; entries = entries; spent = spent; at = c.args.at } in
    let now : IsNow c.read.new.self c.args.at w = record {
      setup = sym taken.setup;
      calls = history;
      stands = taken.stands calls stood;
      history = ap (λ s. moments s history) (sym taken.setup);
      moment = refl;
    } in
    let done = (c.answer.ensures.serves refl).judged w now stored honest told in
    let is = done.1.is in
    (done.2.answered ∙ ap (λ (want : Wanted). want.answer) is, subst (λ (want : Wanted). StoreStands g.D.Store c.answer.new.self want.entries want.spent) is done.2.stands)
