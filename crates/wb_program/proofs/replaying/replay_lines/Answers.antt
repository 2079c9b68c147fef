use Rattle.std.proofs.Common.{sym}
use Rattle.wb_trace.specs.helpers.LineEvents.{events_of}
use Rattle.wb_program.proofs.ReplayedLines.{Replaying-all, Replaying-next, Replaying-none, Replaying-stops}
use Rattle.wb_program.proofs.replaying.replay_lines.Goals as goal

pub loop-line-init : goal.loop-line-init
loop-line-init g c = Replaying-none c.args.trace.now c.args.station.now.terminal c.args.station.now.office (g.O.Write.contents c.args.writer.now)

pub loop-line-preserved : goal.loop-line-preserved
loop-line-preserved g c =
    Replaying-next c.args.trace.now c.loop-line.rest.now c.in-Some.after.now c.in-Some.line.now c.loop-line.number (events_of c.read_line.new.room c.in-Some-read_line.asked)
    _ _ c.loop-line.station.terminal c.loop-line.station.office _ _ _ _ _ c.in-Some.ensures.first c.in-Some.ensures.shorter (sym c.in-Some-read_line.ensures.events)
    c.loop-line.invariant c.in-Ok.ensures

pub returns-in_default-read_line-clause-lines : goal.returns-in_default-read_line-clause-lines
returns-in_default-read_line-clause-lines g c stood heard =
    Replaying-stops c.args.trace.now c.loop-line.rest.now c.loop-line.number _ _ c.loop-line.station.terminal c.loop-line.station.office _ _ c.loop-line.invariant stood heard
    c.in-Some.after.now c.in-Some.line.now c.in-Some.ensures.first (sym c.in_default-read_line.ensures.events)

pub returns-clause-lines : goal.returns-clause-lines
returns-clause-lines g c stood heard =
    Replaying-all c.args.trace.now c.loop-line.rest.now c.loop-line.number _ _ c.loop-line.station.terminal c.loop-line.station.office _ _ c.loop-line.invariant stood heard c.in_default.ensures.first
