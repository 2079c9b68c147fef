use Rattle.std.proofs.Common.{[], ◌∷◌, map, sym, subst, take}
use Rattle.std.specs.Prelude.{reverse}
use Rattle.wb_program.specs.Served.{Handled}
use Rattle.wb_station.specs.SourceAnswers.{took}
use Rattle.wb_program.specs.Turns.{stretch}
use Rattle.wb_program.proofs.Turns.{handled_answer, handled_append}
use Rattle.wb_messages.specs.Happening.{byte, hang_up}
use Rattle.wb_program.proofs.serving.serve_terminal.Goals as goal

pub returns-then-taken : goal.returns-then-taken
returns-then-taken g c =
    let bytes = take c.terminal-taken.result.count c.terminal-taken.new.room in
    let hung_up = c.terminal-taken.result.hung_up in
    let old = g.S.Sources.told c.args.sources.now in
    let new = g.S.Sources.told c.handle.new.sources in
    let answer = took bytes hung_up ∷ [] in record {
      bytes = bytes;
      hung_up = hung_up;
      handled = subst (λ b. Handled g.D.Store c.args.station.now.terminal c.args.station.now.office c.handle.new.station.terminal c.handle.new.station.office old new answer (stretch bytes b)) (sym c.if-taken.true)
          (handled_append g.D.Store answer [] (reverse (map byte bytes)) (hang_up ∷ []) _ _ _ _ _ _ _ _ _
          (handled_answer g.D.Store answer (reverse (map byte bytes)) _ _ _ _ _ _ _ c.terminal-taken.ensures.told c.handle_bytes.ensures) c.handle.ensures);
    }
