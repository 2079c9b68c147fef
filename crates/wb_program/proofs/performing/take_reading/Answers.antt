use Rattle.std.proofs.Common.{false}
use Rattle.wb_program.proofs.PerformedHappenings.{Performed-printed}
use Rattle.wb_messages.specs.declared.event.Event.TheVariants.{Reading}
use Rattle.wb_program.proofs.performing.take_reading.Goals as goal

pub returns : goal.returns
returns g c =
    Performed-printed g.D.Store (Reading c.args.reading) false _ _ _ _ _ _ _ c.print_replies.result c.read-replies.follows.holds-at-none c.print_replies.ensures
