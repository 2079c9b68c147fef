use Rattle.std.proofs.Common.{◌≡◌, ◌∙◌, sym, ap, ap₂, ◌++◌, Some, slice_get}
use Rattle.wb_office.proofs.Common.{option_and_then, option_copied, partner_in, record_with, ticket_record, record_text}
use Rattle.std.proofs.lemmas.Option.{slice_get-get_or}
use Rattle.wb_office.proofs.ExportRecords.{ticket_more}
use Rattle.wb_office.proofs.tickets_export.tickets_text.Goals as goal

pub loop-place-preserved : goal.loop-place-preserved
loop-place-preserved c = λ rising.
    let es = c.args.entries.now in
    let e = c.index-entries-place.result in
    let here : slice_get es c.loop-place.place ≡ Some e = slice_get-get_or es c.loop-place.place e c.loop-place-test.true ∙ ap Some (sym c.index-entries-place.is) in
    let paired : option_copied c.partner_at.result ≡ partner_in es e = c.partner_at.ensures rising ∙ ap (option_and_then (partner_in es)) here in
    let fields : c.in_ok-fields.fields ≡ ticket_record es e = c.in_ok-fields.ensures ∙ ap (record_with e e.kind) paired in
    c.in_ok-export-2.ensures ∙ ap₂ (λ text fields. text ++ record_text fields) (c.loop-place.invariant rising) fields
    ∙ sym (ticket_more es c.loop-place.place e c.loop-place-test.true c.index-entries-place.is)
