use Rattle.std.proofs.Common.{[], ◌∷◌, refl}
use Rattle.wb_input.specs.declared.sources.Converter.TheVariants.{End, Fault}
use Rattle.wb_station.specs.SourceAnswers.{converted}
use Rattle.wb_program.proofs.Turns.{handled_none, turn_served}
use Rattle.wb_program.proofs.serving.serve_turn.Goals as goal

pub returns-in-Line : goal.returns-in-Line
returns-in-Line g c =
    turn_served g.D.Store c.serve_office.result c.in-Line.reading _ _ _ _ _ _ _ _ _ _ _ _ _ c.in-Line.ensures.told c.handle.ensures c.serve_terminal.ensures c.serve_office.ensures

pub returns-in-End : goal.returns-in-End
returns-in-End g c = record {
  answers = converted End ∷ [];
  happened = [];
  handled = handled_none g.D.Store _ _ _ _ (converted End ∷ []) c.in-End.ensures.told;
  ends = (refl, refl);
}

pub returns-in-Fault : goal.returns-in-Fault
returns-in-Fault g c = record {
  answers = converted Fault ∷ [];
  happened = [];
  handled = handled_none g.D.Store _ _ _ _ (converted Fault ∷ []) c.in-Fault.ensures.told;
  ends = (refl, refl);
}
