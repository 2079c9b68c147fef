use Rattle.std.proofs.Common.{List, subst}
use Rattle.std.specs.Str.Lines.{lines}
use Rattle.wb_instrument.specs.Setup.{Setup}
use Rattle.wb_program.specs.Replayed.{ReplaysLines}
use Rattle.wb_program.proofs.TraceEnds.{ended, written_to}
use Rattle.wb_program.proofs.replaying.replay.Goals as goal

pub returns-clause-ends : goal.returns-clause-ends
returns-clause-ends g c =
    let w = g.O.Write.contents c.args.writer.now in
    let w' = g.O.Write.contents c.replay_lines.new.writer in
    let did = subst (λ (s : Setup). ReplaysLines c.replay_lines.result s (lines c.as_slice.result.now) w w') c.in-Some.ensures.setup (c.replay_lines.ensures.lines c.in-Some.ensures.stands c.in-Some.ensures.hears) in
    let run = subst (λ (bs : List _). ReplaysLines c.replay_lines.result c.args.instrument (lines bs) w w') c.as_slice.ensures.value did in
    ended c.replay_lines.result c.args.instrument (g.R.Read.remaining c.args.reader.now) w w' c.in-Ok.trace.items c.replay_lines.ensures.run c.in-Ok.ensures.within c.in-Ok.ensures.whole run

pub returns-clause-untouched : goal.returns-clause-untouched
returns-clause-untouched g c = written_to c.replay_lines.result (g.O.Write.contents c.args.writer.now) (g.O.Write.contents c.replay_lines.new.writer) c.replay_lines.ensures.run
