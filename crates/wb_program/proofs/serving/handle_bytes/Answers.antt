use Rattle.std.proofs.Common.{[], ◌∷◌, get_or, map, subst, sym, take}
use Rattle.std.specs.Prelude.{reverse}
use Rattle.wb_program.specs.Served.{Handled}
use Rattle.wb_program.proofs.PerformedHappenings.{next-byte}
use Rattle.wb_program.proofs.SourceAnswers.{tells_none}
use Rattle.wb_program.proofs.Turns.{handled_append, handled_none}
use Rattle.wb_messages.specs.Happening.{byte}
use Rattle.wb_program.proofs.serving.handle_bytes.Goals as goal

pub loop-byte-init : goal.loop-byte-init
loop-byte-init g c = handled_none g.D.Store c.args.station.now.terminal c.args.station.now.office _ _ [] (tells_none (g.S.Sources.told c.args.sources.now))

pub loop-byte-preserved : goal.loop-byte-preserved
loop-byte-preserved g c =
    let i = c.loop-byte.byte-index in
    subst (λ ps. Handled g.D.Store c.args.station.now.terminal c.args.station.now.office c.handle.new.station.terminal c.handle.new.station.office (g.S.Sources.told c.args.sources.now)
    (g.S.Sources.told c.handle.new.sources) [] ps)
    (sym (next-byte c.args.bytes.now i c.loop-byte-test.true))
    (handled_append g.D.Store [] [] (reverse (map byte (take i c.args.bytes.now))) (byte (get_or c.args.bytes.now i 0) ∷ []) c.args.station.now.terminal c.args.station.now.office c.loop-byte.station.terminal
    c.loop-byte.station.office c.handle.new.station.terminal c.handle.new.station.office _ _ _ c.loop-byte.invariant c.handle.ensures)
