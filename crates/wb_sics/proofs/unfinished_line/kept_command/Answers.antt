use Rattle.std.proofs.Common.{◌∙◌}
use Rattle.wb_sics.proofs.UnfinishedLine.{kept_cr, kept_whole}
use Rattle.wb_sics.proofs.unfinished_line.kept_command.Goals as goal

pub returns-then-last-eq13 : goal.returns-then-last-eq13
returns-then-last-eq13 c = λ bytes e. c.parse_line.ensures ∙ kept_cr bytes c.args.line.now c.in-Some.rest.now c.in-Some.last.now e c.in-Some.ensures.cases.0 c.if-last-eq13.true

pub returns-else-last-eq13 : goal.returns-else-last-eq13
returns-else-last-eq13 c = λ bytes e. c.parse_line-else-last-eq13.ensures ∙ kept_whole bytes c.args.line.now c.in-Some.rest.now c.in-Some.last.now e c.in-Some.ensures.cases.0 c.if-last-eq13.false
