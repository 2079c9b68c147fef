use Rattle.std.proofs.Common.{◌∙◌}
use Rattle.wb_http.specs.Response.{status_line}
use Rattle.wb_http.proofs.AppendedTexts.{append-five}
use Rattle.wb_http.proofs.response_head.put_status_line.Goals as goal

pub returns-clause-items : goal.returns-clause-items
unfolding status_line
returns-clause-items c =
    let number = rw (c.from.ensures ∙ c.as_u16.ensures.value) at c.in_ok-put_number.ensures.items in
    let phrase = rw (c.as_bytes.ensures.value ∙ c.phrase.ensures) at c.in_ok-extend_from_slice-3.ensures.items in
    append-five _ _ _ _ _ _ _ _ _ _ _ c.in_ok-extend_from_slice.ensures.items number c.in_ok-extend_from_slice-2.ensures.items phrase
    c.in_ok-extend_from_slice-4.ensures.items
