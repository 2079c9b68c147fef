use Rattle.std.proofs.Common.{sym, length-append}
use Rattle.wb_http.specs.Response.{response_text}
use Rattle.wb_http.proofs.AppendedTexts.{append-body}
use Rattle.wb_http.proofs.response_head.put_response.Goals as goal

pub returns-clause-items : goal.returns-clause-items
unfolding response_text
returns-clause-items c =
    let lines = rw (sym (length-append c.args.text.now c.args.end.now)) at c.in_ok-put_length_lines.ensures.items in
    append-body _ _ _ _ _ _ _ _ _ _ _ c.in_ok-put_status_line.ensures.items c.in_ok-put_type_lines.ensures.items lines
    c.in_ok-extend_from_slice.ensures.items c.in_ok-extend_from_slice-2.ensures.items
