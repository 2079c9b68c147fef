use Rattle.std.proofs.Common.{refl, subst, Result, Some}
use Rattle.wb_messages.specs.declared.request.Request.{Request as Asked}
use Rattle.wb_http.specs.HttpJudgement.{judgement_of}
use Rattle.wb_http.specs.UnlessMemoryRefused.{IsOf}
use Rattle.wb_http.specs.declared.fault.HttpFault.{HttpFault as Fault}
use Rattle.wb_http.proofs.judgement.AskedByHead.{judged_by_parts}
use Rattle.wb_http.proofs.judgement.FirstFaults.{wanted}
use Rattle.wb_http.proofs.request.request_of.Goals as goal

pub returns-clause-judged : goal.returns-clause-judged
returns-clause-judged g c =
    let x = c.in_ok-places.ensures.read.0 in
    let there = c.in_ok-places.ensures.read.1 in
    let parts = c.head_at.ensures.head x there in
    let same = judged_by_parts x _ _ _ _ parts.method parts.target parts.fields parts.rest in
    (judgement_of x, (Some x, there.reads, refl), subst (λ (r : Result Asked Fault). IsOf r c.request_of_head.result) same c.request_of_head.ensures.value)

pub returns-clause-memory : goal.returns-clause-memory
returns-clause-memory g c = λ wants.
    let there = c.in_ok-places.ensures.read.1 in
    let parts = c.head_at.ensures.head c.in_ok-places.ensures.read.0 there in
    wanted c.args.bytes.now c.in_ok-places.ensures.read.0 _ _ _ _ there.reads parts.method parts.target parts.fields parts.rest (c.request_of_head.ensures.memory wants)
