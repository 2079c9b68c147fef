use Rattle.std.proofs.Common.{◌∙◌}
use Rattle.wb_http.specs.Response.{length_lines}
use Rattle.wb_http.proofs.AppendedTexts.{append-five}
use Rattle.wb_http.proofs.response_head.put_length_lines.Goals as goal

pub returns-clause-items : goal.returns-clause-items
unfolding length_lines
returns-clause-items c =
    let allow = rw (c.as_bytes.ensures.value ∙ c.allow_line.ensures.value) at c.in_ok-extend_from_slice-3.ensures.items in
    append-five _ _ _ _ _ _ _ _ _ _ _ c.in_ok-extend_from_slice.ensures.items c.in_ok-put_number.ensures.items
    c.in_ok-extend_from_slice-2.ensures.items allow c.in_ok-extend_from_slice-4.ensures.items
