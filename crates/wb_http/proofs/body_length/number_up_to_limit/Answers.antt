use Rattle.std.proofs.Common.{◌+◌, ◌*◌, ℕ, min, sym, ap, ◌∙◌}
use Rattle.std.proofs.lemmas.Int.Digits.{digits_value_more}
use Rattle.wb_http.proofs.judgement.Lengths.{cut, digit_at}
use Rattle.wb_http.proofs.body_length.number_up_to_limit.Goals as goal

pub loop-digit-preserved : goal.loop-digit-preserved
loop-digit-preserved c =
    let more = digits_value_more 10 c.args.digits.now c.loop-digit.digit-index c.loop-digit-test.true in
    let digit = digit_at c.args.digits.now c.loop-digit.digit-index c.requires c.loop-digit-test.true in
    c.min-number.ensures ∙ ap (λ (k : ℕ). min (c.loop-digit.number * 10 + k) 1025) (c.from.ensures ∙ c.saturating_sub.ensures)
    ∙ cut _ _ _ _ c.loop-digit.invariant digit ∙ ap (λ (w : ℕ). min w 1025) (sym more)
