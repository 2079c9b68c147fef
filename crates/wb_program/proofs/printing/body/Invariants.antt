use Rattle.std.proofs.Common.{◌≡◌, length}
use Rattle.wb_program.specs.PrintedOutputs.{body_lines}
use Rattle.wb_program.proofs.printing.body.Given as goal

abbrev pub invariant-loop-line : goal.invariant-loop-line
invariant-loop-line l = body_lines l.rest ≡ body_lines l.fn.response

abbrev pub decreases-loop-line : goal.decreases-loop-line
decreases-loop-line l = length l.rest
