use Rattle.std.proofs.Common.{false}
use Rattle.wb_station.proofs.HeardEvents.{byte_heard, hang_up_heard}
use Rattle.wb_station.proofs.station.Station.take.Goals as goal

pub returns-in-Reading : goal.returns-in-Reading
returns-in-Reading g c = rw c.in-Reading.is (false, c.take_reading.ensures.took, c.take_reading.ensures.noticed)

pub returns-in-Byte : goal.returns-in-Byte
returns-in-Byte g c =
    rw c.in-Byte.is (
      false,
      byte_heard g.D.Store c.args.self.now.office c.hear.new.replies.items c.hear.new.notice _ c.args.self.now.terminal c.hear.new.terminal c.hear.result c.in-Byte.byte c.hear.ensures,
      c.hear.ensures.notice,
    )

pub returns-in-Hangup : goal.returns-in-Hangup
returns-in-Hangup g c =
    rw c.in-Hangup.is (false, hang_up_heard g.D.Store c.args.self.now.office c.hear-in-Hangup.new.replies.items c.hear-in-Hangup.new.notice _ c.args.self.now.terminal c.hear-in-Hangup.new.terminal c.hear-in-Hangup.result c.hear-in-Hangup.ensures, c.hear-in-Hangup.ensures.notice)
