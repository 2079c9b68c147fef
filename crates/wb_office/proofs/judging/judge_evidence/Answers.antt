use Rattle.std.proofs.Common.{rules, ◌≡◌, ◌∙◌, sym, ap, None, refl}
use Rattle.wb_office.proofs.Common.{has_key, first_refusal, entry_added, of_new}
use Rattle.wb_office.proofs.FoundEntries.{find_none, is_some_same}
use Rattle.wb_office.proofs.Verdicts.{by_condition, by_none}
use Rattle.wb_office.proofs.judging.judge_evidence.Goals as goal

pub returns-in-Some-clause-judged : goal.returns-in-Some-clause-judged
returns-in-Some-clause-judged c = λ a setup shows none ungone. by_condition a c.in-Some.refusal none ungone (sym (c.refusal.ensures.judged a shows) ∙ c.in-Some.is)

pub returns-in-Some-new_entry-clause-judged : goal.returns-in-Some-new_entry-clause-judged
returns-in-Some-new_entry-clause-judged c = λ a setup shows none ungone.
    let unrefused : c.refusal.result ≡ None = search (rules, c.in_default.is) in
    let free : first_refusal of_new a ≡ None = sym (c.refusal.ensures.judged a shows) ∙ unrefused in
    let entry : c.in-Some-new_entry.entry ≡ entry_added a = is_some_same (sym c.in-Some-new_entry.is ∙ c.new_entry.ensures a shows.asks shows.scale_shown shows.journal_shown setup free) in
    rw entry (record {
      judged = by_none a none ungone free;
      paired = ap (λ j. j.open_weighing) shows.journal_shown;
      next = record { number = refl; free = find_none (has_key a.key) a.now.entries none; unspent = ungone; linked = refl };
    })
