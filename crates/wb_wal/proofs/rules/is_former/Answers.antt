use Rattle.std.proofs.Common.{◌∙◌, ap, sym}
use Rattle.std.proofs.lemmas.Bool.{false≢true}
use Rattle.sqlite_wal.specs.Format.{part, be32}
use Rattle.wb_wal.proofs.rules.is_former.Goals as goal

pub returns-then-number_at : goal.returns-then-number_at
unfolding part
returns-then-number_at c =
    let same = ap (λ f. be32 f 8) c.frame_at-frame.ensures.value in
    (λ no'. absurd (false≢true no'), λ former. absurd (former.first (sym same ∙ sym c.number_at.ensures ∙ c.if-number_at.true ∙ c.number_at-2.ensures)))

pub returns-then-number_at-2 : goal.returns-then-number_at-2
unfolding part
returns-then-number_at-2 c =
    let same = ap (λ f. be32 f 12) c.frame_at-frame.ensures.value in
    (λ no'. absurd (false≢true no'), λ former. absurd (former.second (sym same ∙ sym c.number_at-3.ensures ∙ c.if-number_at-2.true ∙ c.number_at-4.ensures)))

pub returns : goal.returns
unfolding part
returns c =
    let first = ap (λ f. be32 f 8) c.frame_at-frame.ensures.value in
    let second = ap (λ f. be32 f 12) c.frame_at-frame.ensures.value in (
      λ yes'. record {
        first = λ e. c.if-number_at.false (c.number_at.ensures ∙ first ∙ e ∙ sym c.number_at-2.ensures);
        second = λ e. c.if-number_at-2.false (c.number_at-3.ensures ∙ second ∙ e ∙ sym c.number_at-4.ensures);
        none = c.none_signed.ensures.0 yes';
      },
      λ former. c.none_signed.ensures.1 former.none,
    )
