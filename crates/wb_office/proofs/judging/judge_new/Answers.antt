use Rattle.std.proofs.Common.{◌≡◌, ◌∙◌, sym, ap}
use Rattle.wb_office.proofs.judging.judge_new.Goals as goal

pub returns-clause-judged : goal.returns-clause-judged
returns-clause-judged g c = λ a asks scale none ungone shown.
    let setup : a.now.setup ≡ c.instrument-instrument.result.now = scale.setup ∙ sym c.instrument-instrument.ensures.value in
    c.judge_evidence.ensures.judged a setup (record {
      asks = asks;
      most = c.capacity.ensures.value ∙ ap (λ i. i.capacity) (sym setup);
      scale_shown = c.shown.ensures.shows a scale;
      journal_shown = shown;
    }) none ungone
