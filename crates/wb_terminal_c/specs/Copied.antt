-- What the caller's buffer holds once a reply is copied into it.
use Rattle.std.specs.Prelude.{ℕ, List, ◌++◌, length, drop, nat_le, Option, Some, None, if◌then◌else◌}
use Rattle.wb_sics.specs.declared.reply.Reply.{Reply}
use Rattle.wb_sics.specs.ReplyText.{reply_bytes}

-- how many bytes were copied, and the buffer: none if there is no reply or not enough room, and then it is as it was
abbrev pub copied : Option Reply → List ℕ → ℕ × List ℕ
copied None room = (0, room)
copied (Some reply) room =
    let text = reply_bytes reply in
    if nat_le (length text) (length room) then (length text, text ++ drop (length text) room) else (0, room)
