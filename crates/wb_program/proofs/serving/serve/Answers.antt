use Rattle.std.proofs.Common.{subst, sym}
use Rattle.wb_program.specs.Served.{Served}
use Rattle.wb_program.proofs.Turns.{served_stopped, serving_next, serving_none}
use Rattle.wb_program.proofs.serving.serve.Goals as goal

pub loop-count-init : goal.loop-count-init
loop-count-init g c = serving_none g.D.Store c.args.station.now.terminal c.args.station.now.office (g.S.Sources.told c.args.sources.now)

pub loop-count-preserved : goal.loop-count-preserved
loop-count-preserved g c = serving_next g.D.Store c.loop-count.count _ _ _ _ _ _ _ _ _ c.loop-count.invariant c.in_default.field-0 c.in_default.ensures

pub returns-in-Err : goal.returns-in-Err
returns-in-Err g c =
    subst (Served g.D.Store c.args.station.now.terminal c.args.station.now.office c.serve_turn.new.station.terminal c.serve_turn.new.station.office (g.S.Sources.told c.args.sources.now)
    (g.S.Sources.told c.serve_turn.new.sources) c.args.turns) (sym c.after.ensures)
    (served_stopped g.D.Store c.loop-count.count _ _ _ _ _ _ _ _ _ c.loop-count.invariant c.args.turns c.in-Err.stop c.loop-count-test.true c.in-Err.ensures)
