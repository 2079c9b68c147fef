use Rattle.std.proofs.Common.{rules, sym, ◌∙◌}
use Rattle.wb_trace.proofs.LineKinds.{line-readings}
use Rattle.wb_trace.proofs.trace_line.read_line.Goals as goal

pub returns-then-kind-eq114-clause-events : goal.returns-then-kind-eq114-clause-events
returns-then-kind-eq114-clause-events c =
    c.readings.ensures.events c.args.room.now ∙ sym (line-readings c.args.line.now c.in-len1-up.len_at_least c.if-kind-eq114.true)

pub returns-then-kind-eq114-clause-read : goal.returns-then-kind-eq114-clause-read
returns-then-kind-eq114-clause-read c = c.readings.ensures.read c.args.room.now

pub returns-then-kind-eq104-clause-events : goal.returns-then-kind-eq104-clause-events
returns-then-kind-eq104-clause-events c = search (c.hang_up.ensures.events c.args.room.now, rules)

pub returns-then-kind-eq104-clause-read : goal.returns-then-kind-eq104-clause-read
returns-then-kind-eq104-clause-read c = c.hang_up.ensures.read c.args.room.now
