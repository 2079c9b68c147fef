use Rattle.std.proofs.Common.{rules, ◌≡◌, ◌∙◌, sym, ap, Err, Some}
use Rattle.wb_office.proofs.Common.{option_and_then, partner_in, with_number}
use Rattle.wb_office.proofs.LookUps.{also, made, nothing_told, reads, stood, stop, told}
use Rattle.wb_office.proofs.tickets.find_pair.Goals as goal

pub returns-in_err-partner-in-Some : goal.returns-in_err-partner-in-Some
returns-in_err-partner-in-Some g c =
    let one = reads g.D.Store c.in_ok-entry.ensures.keeps c.in_ok-entry.ensures.closes in
    let two = reads g.D.Store c.in_err-partner-in-Some.ensures.keeps c.in_err-partner-in-Some.ensures.closes in
    let same : c.from_residual-in_err-partner-in-Some.result ≡ Err c.in_err-partner-in-Some.field-0.0 = search (rules, c.from_residual-in_err-partner-in-Some.ensures) in
    rw same (nothing_told g.D.Store (stop g.D.Store c.in_err-partner-in-Some.field-0.0 (also g.D.Store one two)))

pub returns-in_ok-partner-in-Some : goal.returns-in_ok-partner-in-Some
returns-in_ok-partner-in-Some g c =
    let one = reads g.D.Store c.in_ok-entry.ensures.keeps c.in_ok-entry.ensures.closes in
    let two = reads g.D.Store c.in_ok-partner-in-Some.ensures.keeps c.in_ok-partner-in-Some.ensures.closes in
    told g.D.Store (made g.D.Store _ _ (also g.D.Store one two)) (λ es ks s h2.
    let h1 = c.in_ok-partner-in-Some.ensures.closes.honest h2 in
    let found : Some c.in-Some.entry ≡ with_number c.args.number es = sym c.in-Some.is ∙ c.in_ok-entry.ensures.found es ks s h1 in
    let paired : c.in_ok-partner-in-Some.partner ≡ partner_in es c.in-Some.entry =
    c.in_ok-partner-in-Some.ensures.found es ks (stood g.D.Store one s h1) h2 ∙ ap (option_and_then (partner_in es)) (sym found) in
    record { entry = found; paired = paired })
