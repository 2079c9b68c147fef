use Rattle.std.proofs.Common.{refl}
use Rattle.wb_sics.specs.Event as terminal
use Rattle.wb_station.proofs.Notices.{heard_noticed}
use Rattle.wb_station.proofs.hearing.hear.Goals as goal

pub returns-in-Reading : goal.returns-in-Reading
returns-in-Reading g c =
    rw c.in-Reading.is (record {
      takes = c.reading_into.ensures.takes;
      in_room = refl;
      replies = c.reading_into.ensures.replies;
      notice = heard_noticed (terminal.reading c.in-Reading.reading) _ _ _ _ c.reading_into.ensures.takes c.reading_into.ensures.replies c.notice_of_zero.ensures;
    })

pub returns-in-Byte : goal.returns-in-Byte
returns-in-Byte g c =
    rw c.in-Byte.is (record {
      takes = c.byte_into.ensures.takes;
      in_room = refl;
      replies = c.byte_into.ensures.replies;
      notice = heard_noticed (terminal.byte c.in-Byte.byte) _ _ _ _ c.byte_into.ensures.takes c.byte_into.ensures.replies c.notice_of_zero-in-Byte.ensures;
    })
