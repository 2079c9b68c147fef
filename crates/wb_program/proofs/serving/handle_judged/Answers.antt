use Rattle.wb_program.proofs.Turns.{handled_one}
use Rattle.wb_messages.specs.Happening.{office}
use Rattle.wb_program.proofs.serving.handle_judged.Goals as goal

pub returns : goal.returns
returns g c =
    let took = c.answer_noticing-turned.follows.holds-at-none in
    handled_one g.D.Store (office c.args.moment c.args.request took.0) _ _ _ _ _ _ _ _ took.1 took.2 c.hand_on.ensures
