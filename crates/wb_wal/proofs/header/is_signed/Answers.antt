use Rattle.std.proofs.Common.{sym, ◌∙◌, ap, rules}
use Rattle.sqlite_wal.specs.Format.{checksum, is_big}
use Rattle.sqlite_wal.proofs.FormatLemmas.{same_sums, part_front}
use Rattle.wb_wal.proofs.header.is_signed.Goals as goal

pub returns : goal.returns
returns c =
    let decides = same_sums _ _ _ c.eq.ensures in
    let ours = ap (checksum (is_big c.args.head.now) (0, 0)) (part_front c.args.head.now 24) ∙ sym c.checksum_of.ensures in (
      λ same. record {
        first = c.if-head-ne55.false;
        second = c.if-head-ne127.false;
        third = c.if-head-ne6.false;
        fourth = search rules;
        sum = ours ∙ decides.0 same ∙ c.sum_at.ensures;
      },
      λ signed. decides.1 (sym ours ∙ signed.sum ∙ sym c.sum_at.ensures),
    )
