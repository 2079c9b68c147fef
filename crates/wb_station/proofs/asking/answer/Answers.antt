use Rattle.std.proofs.Common.{◌≡◌, ap, refl, subst, sym, ◌∙◌}
use Rattle.wb_office.specs.WithoutStore.{Outright}
use Rattle.wb_messages.specs.Content.{content_or_refusal}
use Rattle.wb_office.specs.Serves.{Serves}
use Rattle.wb_office.specs.Wanted.{IsWanted}
use Rattle.wb_station.specs.Account.{responded}
use Rattle.wb_http.specs.Response.{is_export, response_to_result}
use Rattle.wb_station.proofs.Accounts.{response_is, when_err, when_not_err}
use Rattle.wb_office.specs.NamedEntry.{Names, entry_answered}
use Rattle.wb_station.proofs.Notices.{answer_noticed, memory_noticed}
use Rattle.wb_station.proofs.OfficeRequests.{answered_took, failed_took}
use Rattle.wb_station.proofs.asking.answer.Goals as goal

pub returns-then-is_err-clause-took : goal.returns-then-is_err-clause-took
returns-then-is_err-clause-took g c = λ bytes judged.
    failed_took g.D.Store c.args.moment bytes c.args.request judged
    c.args.terminal.now c.answer_naming-result.new.scale c.args.office.now c.answer_naming-result.new.self c.answer_naming-result.result
    (λ asks. subst (λ sc. Serves g.D.Store c.args.office.now c.answer_naming-result.new.self sc c.answer_naming-result.new.scale c.args.moment c.answer_naming-result.result (IsWanted c.args.request)) c.scale_mut.ensures.value
    (c.answer_naming-result.ensures.serves asks))
    (λ none. subst (λ sc. (c.answer_naming-result.new.self ≡ c.args.office.now) × (c.answer_naming-result.new.scale ≡ sc) × Outright sc c.args.request c.answer_naming-result.result) c.scale_mut.ensures.value
    (c.answer_naming-result.ensures.outright none))
    (when_err (is_export (content_or_refusal c.answer_naming-result.result)) c.response_bytes.result c.response_bytes.ensures.fits (sym c.is_err.ensures.value ∙ c.if-is_err.true)) (responded c.put_fault.new.room) c.put_fault.ensures.response

pub returns-clause-took : goal.returns-clause-took
returns-clause-took g c = λ bytes judged.
    answered_took g.D.Store c.args.moment bytes c.args.request judged
    c.args.terminal.now c.answer_naming-result.new.scale c.args.office.now c.answer_naming-result.new.self c.answer_naming-result.result
    (λ asks. subst (λ sc. Serves g.D.Store c.args.office.now c.answer_naming-result.new.self sc c.answer_naming-result.new.scale c.args.moment c.answer_naming-result.result (IsWanted c.args.request)) c.scale_mut.ensures.value
    (c.answer_naming-result.ensures.serves asks))
    (λ none. subst (λ sc. (c.answer_naming-result.new.self ≡ c.args.office.now) × (c.answer_naming-result.new.scale ≡ sc) × Outright sc c.args.request c.answer_naming-result.result) c.scale_mut.ensures.value
    (c.answer_naming-result.ensures.outright none))
    (responded c.response_bytes.new.room)
    (response_is c.args.moment c.args.moment (response_to_result c.args.request (content_or_refusal c.answer_naming-result.result)) (response_to_result c.copied-asked.result (content_or_refusal c.answer_naming-result.result)) _ refl
    (ap (λ r. response_to_result r (content_or_refusal c.answer_naming-result.result)) c.copied-asked.ensures)
    (when_not_err c.response_bytes.result c.response_bytes.ensures.value (sym c.is_err.ensures.value ∙ c.if-is_err.false)))

pub returns-then-is_err-clause-noticed : goal.returns-then-is_err-clause-noticed
returns-then-is_err-clause-noticed g c = λ bytes judged.
    rw c.put_fault.ensures.notice
    (memory_noticed g.D.Store c.args.moment bytes c.args.terminal.now c.args.office.now c.answer_naming-result.new.self (responded c.put_fault.new.room) c.put_fault.ensures.response)

pub returns-clause-noticed : goal.returns-clause-noticed
returns-clause-noticed g c = λ bytes judged.
    let result = c.answer_naming-result.result in
    let content = ap (λ r. response_to_result r (content_or_refusal result)) c.copied-asked.ensures in
    answer_noticed g.D.Store c.args.moment bytes c.args.request judged
    c.args.terminal.now c.answer_naming-result.new.scale c.args.office.now c.answer_naming-result.new.self result c.answer_naming-result.new.name
    (λ asks. subst (λ sc. Serves g.D.Store c.args.office.now c.answer_naming-result.new.self sc c.answer_naming-result.new.scale c.args.moment result (IsWanted c.args.request)) c.scale_mut.ensures.value
    (c.answer_naming-result.ensures.serves asks))
    (subst (λ sc. Names g.D.Store c.args.office.now c.answer_naming-result.new.self sc c.args.moment result c.answer_naming-result.new.name (λ w. entry_answered w c.args.request)) c.scale_mut.ensures.value
    c.answer_naming-result.ensures.names)
    c.answer_naming-result.ensures.nameless
    (responded c.response_bytes.new.room) c.as_u16-status.result c.fault_of.result
    (response_is c.args.moment c.args.moment (response_to_result c.args.request (content_or_refusal result)) (response_to_result c.copied-asked.result (content_or_refusal result)) _ refl content
    (when_not_err c.response_bytes.result c.response_bytes.ensures.value (sym c.is_err.ensures.value ∙ c.if-is_err.false)))
    (ap (λ x. x.status) (sym content) ∙ sym c.status.ensures ∙ sym c.as_u16-status.ensures.value)
