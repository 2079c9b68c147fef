use Rattle.std.proofs.Common.{rules, ◌≡◌, ◌∙◌, sym, ap, Bool, true, false, not}
use Rattle.wb_office.proofs.Common.{option_copied, key_gone, is_damaged_entry, is_other}
use Rattle.wb_office.specs.helpers.Partners.{is_damaged_with}
use Rattle.wb_office.proofs.FoundEntries.{found_unspent}
use Rattle.wb_office.proofs.Verdicts.{by_damage, by_other, by_repetition}
use Rattle.wb_office.proofs.judging.judge_repetition.Goals as goal

not_not : (b c : Bool) → not b ≡ c → b ≡ not c
not_not true c e = ap not e
not_not false c e = ap not e

pub returns-then-not-is_same-clause-judged : goal.returns-then-not-is_same-clause-judged
returns-then-not-is_same-clause-judged c = λ a asks lists found paired.
    by_other a c.args.entry found (not_not (is_other a c.args.entry) false (sym (c.is_same.ensures a asks) ∙ c.if-not-is_same.true))

pub returns-then-is_damaged-clause-judged : goal.returns-then-is_damaged-clause-judged
returns-then-is_damaged-clause-judged c = λ a asks lists found paired.
    let same : is_other a c.args.entry ≡ false = not_not (is_other a c.args.entry) true (sym (c.is_same.ensures a asks) ∙ c.if-not-is_same.false) in
    let ungone : key_gone a ≡ false = found_unspent a.now.entries a.now.spent a.key c.args.entry lists.apart found in
    let held : option_copied c.as_ref.result ≡ c.args.partner = search (rules, c.as_ref.ensures.value) in
    let damaged : is_damaged_entry a.now.entries c.args.entry ≡ true = ap (is_damaged_with c.args.entry) (sym paired ∙ sym held) ∙ sym c.is_damaged.ensures ∙ c.if-is_damaged.true in
    by_damage a c.args.entry found same ungone damaged

pub returns-clause-judged : goal.returns-clause-judged
returns-clause-judged c = λ a asks lists found paired.
    let same : is_other a c.args.entry ≡ false = not_not (is_other a c.args.entry) true (sym (c.is_same.ensures a asks) ∙ c.if-not-is_same.false) in
    let ungone : key_gone a ≡ false = found_unspent a.now.entries a.now.spent a.key c.args.entry lists.apart found in
    let held : option_copied c.as_ref.result ≡ c.args.partner = search (rules, c.as_ref.ensures.value) in
    let sound : is_damaged_entry a.now.entries c.args.entry ≡ false = ap (is_damaged_with c.args.entry) (sym paired ∙ sym held) ∙ sym c.is_damaged.ensures ∙ c.if-is_damaged.false in
    record { judged = by_repetition a c.args.entry found same ungone sound; paired = λ second. paired }
