use Rattle.std.proofs.Common.{◌++◌, ap, ◌∙◌}
use Rattle.std.specs.Prelude.{codes}
use Rattle.wb_trace.proofs.request_line.put_post.Goals as goal

pub returns-clause-bytes : goal.returns-clause-bytes
returns-clause-bytes c =
    let target = c.args.target.now in
    let body = c.args.body.now in
    let posted = c.put-end.ensures.bytes in
    let headed = c.put-end-3.ensures.bytes ∙ ap (λ l. l ++ codes " HTTP/1.1\r\nContent-Length: ") (c.put-end-2.ensures.bytes ∙ ap (λ l. l ++ target) posted) in
    let sized = c.put-end-4.ensures.bytes ∙ ap (λ l. l ++ c.as_bytes.result.now) headed ∙ ap (λ l. ((codes "POST " ++ target) ++ codes " HTTP/1.1\r\nContent-Length: ") ++ l) (c.as_bytes.ensures.value ∙ c.format.ensures.text) in
    c.put.ensures.bytes ∙ ap (λ l. l ++ body) (c.put-end-5.ensures.bytes ∙ ap (λ l. l ++ codes "\r\n\r\n") sized)
