use Rattle.std.proofs.Common.{sym, ◌∙◌, ap, refl}
use Rattle.sqlite_wal.proofs.FormatLemmas.{same_sums, part_front}
use Rattle.wb_wal.specs.Look.{sum_after}
use Rattle.wb_wal.proofs.frames.passes.Goals as goal

pub returns : goal.returns
returns c =
    let decides = same_sums _ _ _ c.eq.ensures in
    let ours = ap (λ b. sum_after c.args.head.now c.args.before b c.args.frame.now) (part_front c.args.frame.now 8) ∙ sym c.sum_after.ensures in (
      λ same. record {
        salt = c.if-not-has_salts.ensures.0 refl;
        page = λ none. c.if-number_at-eq0.false (c.number_at.ensures ∙ none);
        sum = ours ∙ decides.0 same ∙ c.sum_at.ensures;
      },
      λ passes. decides.1 (sym ours ∙ passes.sum ∙ sym c.sum_at.ensures),
    )
