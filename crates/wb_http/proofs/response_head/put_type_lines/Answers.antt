use Rattle.std.proofs.Common.{◌∙◌}
use Rattle.wb_http.specs.Response.{type_lines}
use Rattle.wb_http.proofs.AppendedTexts.{append-five}
use Rattle.wb_http.proofs.response_head.put_type_lines.Goals as goal

pub returns-clause-items : goal.returns-clause-items
unfolding type_lines
returns-clause-items c =
    let media = rw (c.as_bytes.ensures.value ∙ c.media_type.ensures.value) at c.in_ok-extend_from_slice-4.ensures.items in
    append-five _ _ _ _ _ _ _ _ _ _ _ c.in_ok-extend_from_slice.ensures.items c.in_ok-extend_from_slice-2.ensures.items
    c.in_ok-extend_from_slice-3.ensures.items media c.in_ok-extend_from_slice-5.ensures.items
