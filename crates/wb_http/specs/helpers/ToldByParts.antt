-- What a response tells, by its parts.
use Rattle.std.specs.Prelude.{ℕ, List}
use Rattle.wb_http.specs.declared.response_head.ResponseHead.{ResponseHead}
use Rattle.wb_http.specs.Response.{ResponseContent}

abbrev pub told_by : ResponseHead → List ℕ → ResponseContent
told_by head body = record { status = head.status; csv = head.csv; allow = head.allow; body = body }
