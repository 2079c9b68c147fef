use Rattle.std.proofs.Common.{◌∙◌}
use Rattle.wb_converter.proofs.answering.answer.Goals as goal

pub returns-clause-load : goal.returns-clause-load
returns-clause-load c = λ counts tenths e is. c.answer_to.ensures.load counts tenths (c.counts_line.ensures ∙ e) is
