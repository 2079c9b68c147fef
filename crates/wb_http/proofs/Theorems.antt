-- What holds of every request and of every response.
use Rattle.std.proofs.Common.{◌∙◌, ap, sym}
use Rattle.httpdate.proofs.Theorems.{unix_secs_injective}
use Rattle.httpdate.specs.Text.{imf_fixdate}
use Rattle.wb_http.specs.Response.{OneResponse, response_content, response_text}
use Rattle.wb_http.specs.WholeRequests.{OneJudgement, WholeStays}
use Rattle.wb_http.proofs.judgement.WholeRequests.{one_judgement, whole_stays}

-- Bytes are judged in one way.
pub law_of_one_judgement : OneJudgement
law_of_one_judgement = one_judgement

-- Once a request is whole, it is judged so with whatever follows.
pub law_of_whole_requests : WholeStays
law_of_whole_requests = whole_stays

-- An outcome at a moment has one response.
pub law_of_one_response : OneResponse
law_of_one_response moment outcome a b h k =
    let same = unix_secs_injective h.1.0 k.1.0 (h.1.1 ∙ sym k.1.1) in
    h.2 ∙ ap (response_text (response_content outcome)) (h.1.2 ∙ ap imf_fixdate same ∙ sym k.1.2) ∙ sym k.2
