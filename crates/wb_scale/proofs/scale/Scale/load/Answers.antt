use Rattle.wb_scale.proofs.Windows.{IsReading-last}
use Rattle.wb_scale.proofs.scale.Scale.load.Goals as goal

pub load_of_last-requires : goal.load_of_last-requires
load_of_last-requires g c = rw c.last.ensures (IsReading-last (g.W.Window.held c.self.inside.window).readings c.self.invariant.readings)
