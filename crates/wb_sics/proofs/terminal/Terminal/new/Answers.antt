use Rattle.wb_sics.proofs.Standing.{Stands-new}
use Rattle.wb_sics.proofs.terminal.Terminal.new.Goals as goal

pub returns-clause-stands : goal.returns-clause-stands
returns-clause-stands g c = λ st. rw c.new.ensures (Stands-new c.args.scale st)
