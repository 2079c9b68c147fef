use Rattle.std.proofs.Common.{[], ◌∷◌, ◌∙◌, None, Some, ap, false, refl, subst, sym}
use Rattle.wb_program.specs.Served.{Handled}
use Rattle.wb_messages.specs.Happening.{office}
use Rattle.wb_station.specs.SourceAnswers.{SourceTells, asked, bytes_asked, timed}
use Rattle.wb_program.proofs.Turns.{exchange_served, handled_none}
use Rattle.wb_program.proofs.serving.serve_office.Goals as goal

pub returns-in_default : goal.returns-in_default
returns-in_default g c = record {
  answers = asked None ∷ [];
  happened = [];
  handled = handled_none g.D.Store _ _ _ _ (asked None ∷ []) c.in_default.ensures.told;
  ends = (None, refl, refl);
}

pub returns-in_default-moment : goal.returns-in_default-moment
returns-in_default-moment g c =
    let bytes = bytes_asked c.in-Some.exchange.asked c.exchange.new.room in record {
      answers = timed None ∷ asked (Some bytes) ∷ [];
      happened = [];
      handled = handled_none g.D.Store _ _ _ _ (timed None ∷ asked (Some bytes) ∷ [])
          (subst (λ m. SourceTells (timed m ∷ asked (Some bytes) ∷ []) [] (g.S.Sources.told c.args.sources.now) (g.S.Sources.told c.exchange.new.self)) c.in_default-moment.is c.in-Some.ensures.told);
      ends = (bytes, refl, refl);
    }

pub returns-in-Bytes : goal.returns-in-Bytes
returns-in-Bytes g c =
    exchange_served g.D.Store c.in-Some.exchange c.exchange.new.room c.in-Some-moment.moment _ _ _ _ _ _ _ c.in-Some-moment.is c.in-Some.ensures.told
    (subst (λ e. Handled g.D.Store c.args.station.now.terminal c.args.station.now.office c.handle.new.station.terminal c.handle.new.station.office (g.S.Sources.told c.exchange.new.self)
    (g.S.Sources.told c.handle.new.sources) [] (office c.in-Some-moment.moment (bytes_asked e c.exchange.new.room) false ∷ [])) (sym c.in-Bytes.is) c.handle.ensures)

pub returns-in-Judged : goal.returns-in-Judged
returns-in-Judged g c =
    exchange_served g.D.Store c.in-Some.exchange c.exchange.new.room c.in-Some-moment.moment _ _ _ _ _ _ _ c.in-Some-moment.is c.in-Some.ensures.told
    (subst (λ bytes. Handled g.D.Store c.args.station.now.terminal c.args.station.now.office c.handle_judged.new.station.terminal c.handle_judged.new.station.office (g.S.Sources.told c.exchange.new.self)
    (g.S.Sources.told c.handle_judged.new.sources) [] (office c.in-Some-moment.moment bytes false ∷ [])) (c.in-Judged.request-is ∙ ap (λ e. bytes_asked e c.exchange.new.room) (sym c.in-Judged.is)) c.handle_judged.ensures)
