use Rattle.wb_program.proofs.SourceAnswers.{hands_on}
use Rattle.wb_program.proofs.serving.hand_on.Goals as goal

pub returns : goal.returns
returns g c = hands_on _ _ _ _ _ c.hand_on_notice.ensures c.hand_on_output.ensures
