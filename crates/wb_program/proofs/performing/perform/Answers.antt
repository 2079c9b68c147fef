use Rattle.std.proofs.Common.{sym, ap, subst, ◌∙◌}
use Rattle.std.specs.Prelude.{OnOk, reverse}
use Rattle.wb_trace.specs.helpers.LineEvents.{events_of}
use Rattle.wb_program.specs.helpers.Performed.{Performed}
use Rattle.wb_program.proofs.PerformedHappenings.{Performed-none, reverse-replicate}
use Rattle.wb_messages.specs.Happening.{reading}
use Rattle.wb_program.proofs.performing.perform.Goals as goal

pub returns-in-Nothing : goal.returns-in-Nothing
returns-in-Nothing g c =
    subst (λ line. Performed g.D.Store (reverse (events_of c.args.room.now line)) c.args.station.now.terminal c.args.station.now.office c.args.station.now.terminal c.args.station.now.office
    (g.O.Write.contents c.args.writer.now) (g.O.Write.contents c.args.writer.now)) (sym c.in-Nothing.is)
    (Performed-none g.D.Store c.args.station.now.terminal c.args.station.now.office (g.O.Write.contents c.args.writer.now))

pub returns-in-Readings : goal.returns-in-Readings
returns-in-Readings g c =
    subst (λ es. OnOk c.take_readings.result (Performed g.D.Store es c.args.station.now.terminal c.args.station.now.office c.take_readings.new.station.terminal c.take_readings.new.station.office
    (g.O.Write.contents c.args.writer.now) (g.O.Write.contents c.take_readings.new.writer)))
    (sym (ap (λ line. reverse (events_of c.args.room.now line)) c.in-Readings.is ∙ reverse-replicate c.in-Readings.times (reading c.in-Readings.reading))) c.take_readings.ensures
