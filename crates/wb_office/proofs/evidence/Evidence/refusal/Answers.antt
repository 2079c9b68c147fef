use Rattle.std.proofs.Common.{◌≡◌, ◌∙◌, sym, rules, ◌++◌, Some, None, false}
use Rattle.wb_office.proofs.Common.{clock_back, of_journal, of_load, of_tare, first_refusal}
use Rattle.wb_office.proofs.ConditionsInOrder.{earlier, later}
use Rattle.wb_office.proofs.evidence.Evidence.refusal.Goals as goal

pub returns-in-Some-refusal_of_tare-clause-judged : goal.returns-in-Some-refusal_of_tare-clause-judged
returns-in-Some-refusal_of_tare-clause-judged c = λ a shows.
    let on_time : clock_back a ≡ false = sym (c.is_clock_back.ensures a shows) ∙ c.if-is_clock_back.false in
    let unrefused : c.refusal_of_load.result ≡ None = search (rules, c.in_default.is, c.in_default.not-Some) in
    let load : first_refusal of_load a ≡ None = sym (c.refusal_of_load.ensures.judged a shows) ∙ unrefused in
    let tare : first_refusal of_tare a ≡ Some c.in-Some-refusal_of_tare.refusal = sym (c.refusal_of_tare.ensures.judged a shows load) ∙ c.in-Some-refusal_of_tare.is in
    let decided : first_refusal (of_load ++ of_tare ++ of_journal) a ≡ Some c.in-Some-refusal_of_tare.refusal =
    later of_load (of_tare ++ of_journal) a load ∙ earlier of_tare of_journal a c.in-Some-refusal_of_tare.refusal tare in
    rw on_time (sym decided)

pub returns-in-Some-clause-judged : goal.returns-in-Some-clause-judged
returns-in-Some-clause-judged c = λ a shows.
    let on_time : clock_back a ≡ false = sym (c.is_clock_back.ensures a shows) ∙ c.if-is_clock_back.false in
    let load : first_refusal of_load a ≡ Some c.in-Some.refusal = sym (c.refusal_of_load.ensures.judged a shows) ∙ c.in-Some.is in
    let decided : first_refusal (of_load ++ of_tare ++ of_journal) a ≡ Some c.in-Some.refusal = earlier of_load (of_tare ++ of_journal) a c.in-Some.refusal load in
    rw on_time (sym decided)
