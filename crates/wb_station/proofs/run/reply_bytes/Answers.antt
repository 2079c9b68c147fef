use Rattle.std.proofs.Common.{◌++◌, ap₂, sym, ◌∙◌, arith}
use Rattle.wb_station.proofs.BytesOfReplies.{next_bytes}
use Rattle.wb_station.proofs.run.reply_bytes.Goals as goal

pub loop-reply-preserved : goal.loop-reply-preserved
loop-reply-preserved c = (
  c.push_str.ensures.bytes ∙ ap₂ (λ a b. a ++ b) c.loop-reply.invariant.0 (c.as_str.ensures.value ∙ c.bytes-text.ensures)
      ∙ sym (next_bytes c.as_slice-reply-items.result.now c.loop-reply.reply-index c.reply-item.result c.loop-reply-test.true c.reply-item.is),
  omega (arith, c.push_str.ensures.len, c.loop-reply.invariant.1, c.as_str.ensures.fits),
)
