use Rattle.std.proofs.Common.{take}
use Rattle.std.specs.Io.KnownBytes.{Appends}
use Rattle.wb_program.specs.PrintedOutputs.{printed_replies}
use Rattle.wb_program.proofs.printing.print_replies.Given as goal

abbrev pub invariant-loop-reply : goal.invariant-loop-reply
invariant-loop-reply g l = Appends (g.O.Write.contents l.fn.writer) (g.O.Write.contents l.writer) (printed_replies (take l.reply-index l.reply-items))
