use Rattle.wb_program.proofs.Turns.{handled_event}
use Rattle.wb_program.proofs.serving.handle.Goals as goal

pub returns : goal.returns
returns g c =
    let took = c.turn_noticing-turned.follows.holds-at-none in
    handled_event g.D.Store c.args.event.now took.0 _ _ _ _ _ _ _ _ took.1 took.2 c.hand_on.ensures
