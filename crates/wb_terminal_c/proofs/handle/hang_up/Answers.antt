use Rattle.std.proofs.Common.{◌∙◌}
use Rattle.wb_sics.specs.Event.{hang_up}
use Rattle.wb_terminal_c.proofs.Keeping.{Keeps-after, replies-hang_up}
use Rattle.wb_terminal_c.proofs.handle.hang_up.Goals as goal

pub returns-clause-keeps : goal.returns-clause-keeps
returns-clause-keeps c = λ s h k. Keeps-after c.args.handle.now _ s h hang_up k c.hangup.ensures.takes (λ stands. c.clear.ensures ∙ replies-hang_up _ h)
