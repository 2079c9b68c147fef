use Rattle.std.proofs.Common.{sym, ◌∙◌}
use Rattle.wb_trace.proofs.FirstLine.{lines-first, lines-last, length-after_first}
use Rattle.wb_trace.proofs.lines.first_line.Goals as goal

pub returns-in-Some-clause-first : goal.returns-in-Some-clause-first
returns-in-Some-clause-first c =
    rw (c.without_carriage_return.ensures.value, c.in-Some.ensures.before, c.in-Some.ensures.after) (lines-first c.args.rest.now (sym c.in-Some.ensures.found))

pub returns-in-Some-clause-shorter : goal.returns-in-Some-clause-shorter
returns-in-Some-clause-shorter c = rw c.in-Some.ensures.after (length-after_first c.args.rest.now (sym c.in-Some.ensures.found))

pub returns-in-None-clause-first : goal.returns-in-None-clause-first
returns-in-None-clause-first c = lines-last c.args.rest.now (sym c.in-None.ensures.found) (sym c.is_empty.ensures ∙ c.if-is_empty.false)
