use Rattle.std.proofs.Common.{◌≡◌, ◌≤◌, ◌*◌, take}
use Rattle.arrayvec.specs.ArrayString.{array_string_len}
use Rattle.wb_station.specs.Account.{bytes_of_replies}
use Rattle.wb_station.proofs.run.reply_bytes.Given as goal

abbrev pub invariant-loop-reply : goal.invariant-loop-reply
invariant-loop-reply l = (l.bytes.bytes ≡ bytes_of_replies (take l.reply-index l.reply-items)) × (array_string_len l.bytes ≤ 32 * l.reply-index)
