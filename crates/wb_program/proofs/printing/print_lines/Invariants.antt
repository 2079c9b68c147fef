use Rattle.std.proofs.Common.{length}
use Rattle.std.specs.Str.Lines.{lines}
use Rattle.wb_program.proofs.WrittenTexts.{PrintedSoFar}
use Rattle.wb_program.proofs.printing.print_lines.Given as goal

abbrev pub invariant-loop-line : goal.invariant-loop-line
invariant-loop-line g l = PrintedSoFar (lines l.fn.text) (lines l.rest) (g.O.Write.contents l.fn.writer) (g.O.Write.contents l.writer)

abbrev pub decreases-loop-line : goal.decreases-loop-line
decreases-loop-line g l = length l.rest
