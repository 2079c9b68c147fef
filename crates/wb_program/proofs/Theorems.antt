-- What holds of the definitions themselves.
use Rattle.std.proofs.Common.{ap, ◌∙◌}
use Rattle.wb_program.specs.PrintedOutputs.{PrintsTold, printed_response}
use Rattle.wb_http.specs.Response.{response_content}
use Rattle.wb_program.proofs.HeadLines.{prints}
use Rattle.wb_program.proofs.OneLine.{one_line-date, one_line-phrase}

-- a response's printed form is its own status and the lines of its own body
pub printed-told : PrintsTold
printed-told moment outcome response (date, (of, at, text), same) = ap printed_response same ∙ prints (response_content outcome) date (one_line-phrase outcome) (rw text (one_line-date of))
