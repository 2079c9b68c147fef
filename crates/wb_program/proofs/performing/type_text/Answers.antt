use Rattle.std.proofs.Common.{[], ◌∷◌, get_or, map, subst, sym, take}
use Rattle.std.specs.Prelude.{reverse}
use Rattle.wb_program.specs.helpers.Performed.{Performed}
use Rattle.wb_program.proofs.PerformedHappenings.{Performed-append, Performed-none, next-byte}
use Rattle.wb_messages.specs.Happening.{byte}
use Rattle.wb_program.proofs.performing.type_text.Goals as goal

pub loop-byte-init : goal.loop-byte-init
loop-byte-init g c = Performed-none g.D.Store c.args.station.now.terminal c.args.station.now.office (g.O.Write.contents c.args.writer.now)

pub loop-byte-preserved : goal.loop-byte-preserved
loop-byte-preserved g c =
    let i = c.loop-byte.byte-index in
    subst (λ es. Performed g.D.Store es c.args.station.now.terminal c.args.station.now.office c.type_byte.new.station.terminal c.type_byte.new.station.office (g.O.Write.contents c.args.writer.now)
    (g.O.Write.contents c.type_byte.new.writer))
    (sym (next-byte c.args.text.now i c.loop-byte-test.true))
    (Performed-append g.D.Store (reverse (map byte (take i c.args.text.now))) (byte (get_or c.args.text.now i 0) ∷ []) c.args.station.now.terminal c.args.station.now.office c.loop-byte.station.terminal
    c.loop-byte.station.office c.type_byte.new.station.terminal c.type_byte.new.station.office _ _ _ c.loop-byte.invariant c.in_ok-type_byte.ensures)
