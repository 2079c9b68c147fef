use Rattle.std.proofs.Common.{ap}
use Rattle.std.specs.Str.Lines.{lines}
use Rattle.wb_program.proofs.WrittenTexts.{all-printed, none-printed, one-printed}
use Rattle.wb_program.proofs.printing.print_lines.Goals as goal

pub loop-line-init : goal.loop-line-init
loop-line-init g c = none-printed (lines c.args.text.now) (g.O.Write.contents c.args.writer.now)

pub loop-line-preserved : goal.loop-line-preserved
loop-line-preserved g c =
    one-printed (lines c.args.text.now) (lines c.loop-line.rest.now) (lines c.in-Some.after.now) c.in-Some.line.now _ _ _ c.in-Some.ensures.first c.loop-line.invariant c.in_ok-print_line.ensures

pub returns : goal.returns
returns g c = all-printed (lines c.args.text.now) (lines c.loop-line.rest.now) _ _ (ap lines c.in_default.ensures.first) c.loop-line.invariant
