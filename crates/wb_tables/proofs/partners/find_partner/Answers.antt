use Rattle.std.proofs.Common.{None, Ok, cond, option_and_then, sym, ap, ap₂, ◌∙◌}
use Rattle.wb_tables.proofs.Common.{is_closing_kind, first_alone, nearest_below}
use Rattle.wb_tables.proofs.lemmas.queries.LookUps.{looks_up_so, looks_up_then}
use Rattle.wb_tables.proofs.lemmas.lists.Partner.{partner_found}
use Rattle.wb_tables.proofs.partners.find_partner.Goals as goal

pub returns-then-is_closing-clause-finds : goal.returns-then-is_closing-clause-finds
returns-then-is_closing-clause-finds g c have =
    let s = c.in-Some.entry in
    let closes = ap is_closing_kind (sym c.kind.ensures.value) ∙ sym c.if-is_closing.ensures in
    looks_up_then g.S.Store c.args.conn.now c.find_by_number.new.conn c.find_first_below.new.conn c.in_ok-entry.field-0 c.find_first_below.result _ _ _ have
    (c.in_ok-entry.ensures.finds have) c.find_first_below.ensures.clean c.find_first_below.ensures.finds
    (λ entries spent y lists is found.
    found ∙ ap₂ (λ p n. option_and_then first_alone (nearest_below p n entries)) c.plate.ensures.value c.number.ensures.value
    ∙ ap (λ b. cond b (option_and_then first_alone (nearest_below s.plate s.number entries)) None) (sym closes)
    ∙ sym (partner_found entries c.args.number s lists.rising (sym c.in-Some.is ∙ is)))

pub returns-else-is_closing-clause-finds : goal.returns-else-is_closing-clause-finds
returns-else-is_closing-clause-finds g c have =
    let s = c.in-Some.entry in
    let closes = ap is_closing_kind (sym c.kind.ensures.value) ∙ sym c.if-is_closing.ensures in
    looks_up_so g.S.Store c.args.conn.now c.find_by_number.new.conn c.in_ok-entry.field-0 (Ok None) _ _ (c.in_ok-entry.ensures.finds have)
    (λ entries spent lists is.
    ap (λ b. cond b (option_and_then first_alone (nearest_below s.plate s.number entries)) None) (sym closes)
    ∙ sym (partner_found entries c.args.number s lists.rising (sym c.in-Some.is ∙ is))) tt
