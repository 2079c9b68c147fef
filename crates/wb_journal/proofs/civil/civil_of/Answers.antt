use Rattle.std.proofs.Common.{◌≡◌, ◌*◌, pos, sym, ◌∙◌, subst, arith}
use Rattle.std.proofs.lemmas.Int.{ints}
use Rattle.jiff.specs.Words.{civil_nanos}
use Rattle.wb_journal.specs.Civil.{IsCivilTime}
use Rattle.wb_journal.specs.declared.civil.Civil.{Civil}
use Rattle.wb_journal.proofs.Calendar.{civil-of_datetime, same_civil}
use Rattle.wb_journal.proofs.civil.civil_of.Goals as goal

pub overflow_cast-result : goal.overflow_cast-result
overflow_cast-result c =
    let nanos : civil_nanos c.in-Ok.at ≡ pos (c.seconds.result * 1_000_000_000) = c.in-Ok.ensures.value in
    let shown = civil-of_datetime c.seconds.result c.in-Ok.at nanos in
    let year = shown.1.0 in
    let read = c.year.ensures in
    (omega (arith, ints), omega (arith, ints))

pub returns-clause-value : goal.returns-clause-value
returns-clause-value c =
    let nanos : civil_nanos c.in-Ok.at ≡ pos (c.args.moment * 1_000_000_000) = rw c.seconds.ensures.value at c.in-Ok.ensures.value in
    let shown = civil-of_datetime c.args.moment c.in-Ok.at nanos in
    let year = shown.1.0 in
    let time = shown.1.1.0 in
    same_civil _ _ _ _ _ _ _ _ _ _ _ _ (omega (arith, ints)) (omega (arith, ints)) (omega (arith, ints)) (omega (arith, ints)) (omega (arith, ints)) (omega (arith, ints))
    ∙ sym shown.1.1.1

pub returns-clause-right : goal.returns-clause-right
returns-clause-right c =
    let nanos : civil_nanos c.in-Ok.at ≡ pos (c.args.moment * 1_000_000_000) = rw c.seconds.ensures.value at c.in-Ok.ensures.value in
    let shown = civil-of_datetime c.args.moment c.in-Ok.at nanos in
    subst (λ (x : Civil). IsCivilTime c.args.moment x) (sym shown.1.1.1 ∙ sym (returns-clause-value c)) shown.1.1.0
