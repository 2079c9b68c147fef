use Rattle.std.proofs.Common.{◌++◌, ap, ◌∙◌}
use Rattle.std.specs.Prelude.{codes}
use Rattle.wb_trace.proofs.request_line.put_get.Goals as goal

pub returns-clause-bytes : goal.returns-clause-bytes
returns-clause-bytes c = c.put.ensures.bytes ∙ ap (λ l. l ++ codes " HTTP/1.1\r\n\r\n") (c.put-end-2.ensures.bytes ∙ ap (λ l. l ++ c.args.target.now) c.put-end.ensures.bytes)
