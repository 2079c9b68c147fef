use Rattle.std.proofs.Common.{◌≡◌, ◌∙◌, sym, true, not, ap}
use Rattle.wb_office.proofs.Common.{is_void_kind, asks_to_weigh, refusal_of_shown}
use Rattle.wb_office.proofs.LoadConditions.{by_indication, of_void}
use Rattle.wb_office.proofs.evidence.Evidence.refusal_of_load.Goals as goal

pub returns-then-weighs-clause-judged : goal.returns-then-weighs-clause-judged
returns-then-weighs-clause-judged c = λ a shows.
    let weighed : asks_to_weigh a ≡ true = ap (λ k. not (is_void_kind k)) shows.asks.of_kind ∙ sym c.weighs.ensures ∙ c.if-weighs.true in
    c.refusal_of_indication.ensures.value ∙ ap refusal_of_shown shows.scale_shown.shown ∙ by_indication a weighed

pub returns-else-weighs-clause-judged : goal.returns-else-weighs-clause-judged
returns-else-weighs-clause-judged c = λ a shows. sym (of_void a (ap (λ k. not (is_void_kind k)) shows.asks.of_kind ∙ sym c.weighs.ensures ∙ c.if-weighs.false))
