use Rattle.wb_program.proofs.PerformedHappenings.{Performed-printed}
use Rattle.wb_program.proofs.performing.take_event.Goals as goal

pub returns : goal.returns
returns g c =
    let took = c.turn-output.follows.holds-at-none in
    Performed-printed g.D.Store c.args.event.now took.0 _ _ _ _ _ _ _ c.print_output.result took.1 c.print_output.ensures
