use Rattle.std.proofs.Common.{◌≡◌, ℕ, List, Result, Ok, Err}
use Rattle.std.specs.Prelude.{OnOk}
use Rattle.wb_http.specs.Response.{IsDateOf, IsResponse, response_content, response_text}
use Rattle.wb_http.specs.declared.outcome.Outcome.{Outcome}
use Rattle.wb_http.proofs.response.response_bytes.Goals as goal

on_ok : {E : Type 0} (r : Result (Unit {0}) E) (moment : ℕ) (outcome : Outcome) (date bytes : List ℕ)
    → IsDateOf moment date → OnOk r (bytes ≡ response_text (response_content outcome) date) → OnOk r (IsResponse moment outcome bytes)
on_ok (Ok u) moment outcome date bytes d h = (date, d, h)
on_ok (Err e) moment outcome date bytes d h = h

pub returns-else-is_err-clause-value : goal.returns-else-is_err-clause-value
returns-else-is_err-clause-value c =
    let date = rw c.seconds.ensures.value at c.date_of-date.ensures in
    on_ok c.put_outcome-put.result c.args.moment c.args.outcome _ _ date c.put_outcome-put.ensures.items
