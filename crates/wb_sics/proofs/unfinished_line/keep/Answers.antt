use Rattle.std.proofs.Common.{arith, ◌∙◌}
use Rattle.std.proofs.lemmas.Bool.Decides.{nat_tests}
use Rattle.wb_sics.proofs.UnfinishedLine.{take_push, take_full}
use Rattle.wb_sics.proofs.unfinished_line.keep.Goals as goal

pub returns-then-not-is_full : goal.returns-then-not-is_full
returns-then-not-is_full c = λ text e. c.push.ensures.items ∙ take_push 42 c.args.byte c.args.line.now.items text e (grind (arith, nat_tests, c.is_full.ensures.value, c.if-not-is_full.true))

pub returns-else-not-is_full : goal.returns-else-not-is_full
returns-else-not-is_full c = λ text e. take_full 42 c.args.byte c.args.line.now.items text e (grind (arith, nat_tests, c.is_full.ensures.value, c.if-not-is_full.false))
