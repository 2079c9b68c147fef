use Rattle.std.proofs.Common.{[], ◌∷◌, replicate, subst}
use Rattle.wb_program.specs.helpers.Performed.{Performed}
use Rattle.wb_program.proofs.PerformedHappenings.{Performed-append, Performed-none, replicate-more}
use Rattle.wb_messages.specs.Happening.{reading}
use Rattle.wb_program.proofs.performing.take_readings.Goals as goal

pub loop-init : goal.loop-init
loop-init g c = Performed-none g.D.Store c.args.station.now.terminal c.args.station.now.office (g.O.Write.contents c.args.writer.now)

pub loop-preserved : goal.loop-preserved
loop-preserved g c =
    subst (λ es. Performed g.D.Store es c.args.station.now.terminal c.args.station.now.office c.take_reading.new.station.terminal c.take_reading.new.station.office (g.O.Write.contents c.args.writer.now)
    (g.O.Write.contents c.take_reading.new.writer)) (replicate-more c.loop.counter (reading c.args.reading))
    (Performed-append g.D.Store (replicate c.loop.counter (reading c.args.reading)) (reading c.args.reading ∷ []) _ _ c.loop.station.terminal c.loop.station.office _ _ _ _ _
    c.loop.invariant c.in_ok-take_reading.ensures)
