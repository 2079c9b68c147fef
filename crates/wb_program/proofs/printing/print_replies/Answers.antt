use Rattle.std.proofs.Common.{sym}
use Rattle.wb_program.proofs.WrittenTexts.{Appends-reply}
use Rattle.wb_program.proofs.printing.print_replies.Goals as goal

pub loop-reply-preserved : goal.loop-reply-preserved
loop-reply-preserved g c = Appends-reply c.as_slice-reply-items.result.now c.loop-reply.reply-index c.reply-item.result c.reply-item.result _ _ _ c.loop-reply-test.true (sym c.reply-item.is) c.loop-reply.invariant (c.in_ok-print_reply.ensures)
