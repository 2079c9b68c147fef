use Rattle.std.proofs.Common.{subst}
use Rattle.wb_http.specs.UnlessMemoryRefused.{WasJudged}
use Rattle.wb_http.proofs.judged.Judged.as_it_stands.Goals as goal

pub invariant_of-result : goal.invariant_of-result
invariant_of-result g c =
    let judged = c.request_of-result.ensures in
    subst (λ bytes. WasJudged bytes c.request_of-result.result) c.as_slice.ensures.value (record { judged = judged.judged; memory = judged.memory })
