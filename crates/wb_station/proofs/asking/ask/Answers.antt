use Rattle.std.proofs.Common.{subst}
use Rattle.wb_station.specs.Account.{responded}
use Rattle.wb_http.specs.HttpJudgement.{IsJudged}
use Rattle.wb_http.specs.UnlessMemoryRefused.{WasJudged}
use Rattle.wb_station.proofs.Notices.{fault_noticed}
use Rattle.wb_station.proofs.OfficeRequests.{fault_took}
use Rattle.wb_station.proofs.asking.ask.Goals as goal

pub returns-in-Ok-clause-took : goal.returns-in-Ok-clause-took
returns-in-Ok-clause-took g c = λ bytes was.
    let is = subst (WasJudged bytes) c.in-Ok.is was in
    c.answer.ensures.took bytes (subst (IsJudged bytes) is.judged.2 is.judged.1)

pub returns-in-Err-clause-took : goal.returns-in-Err-clause-took
returns-in-Err-clause-took g c = λ bytes was.
    let is = subst (WasJudged bytes) c.in-Err.is was in
    fault_took g.D.Store c.args.office.now c.args.moment bytes c.args.terminal.now (responded c.put_fault.new.room) c.in-Err.fault is.judged.0 is.judged.1 is.judged.2 is.memory c.put_fault.ensures.response

pub returns-in-Ok-clause-noticed : goal.returns-in-Ok-clause-noticed
returns-in-Ok-clause-noticed g c = λ bytes was.
    let is = subst (WasJudged bytes) c.in-Ok.is was in
    c.answer.ensures.noticed bytes (subst (IsJudged bytes) is.judged.2 is.judged.1)

pub returns-in-Err-clause-noticed : goal.returns-in-Err-clause-noticed
returns-in-Err-clause-noticed g c = λ bytes was.
    rw c.put_fault.ensures.notice
    (fault_noticed g.D.Store c.args.moment bytes c.args.terminal.now c.args.office.now c.args.office.now c.in-Err.fault (subst (WasJudged bytes) c.in-Err.is was) (responded c.put_fault.new.room)
    c.put_fault.ensures.response)
