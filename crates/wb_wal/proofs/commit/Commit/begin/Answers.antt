use Rattle.std.proofs.Common.{◌∙◌, ap, ap₂, drop}
use Rattle.std.proofs.lemmas.List.{take_rest}
use Rattle.sqlite_wal.specs.Format.{be64, zeros}
use Rattle.wb_wal.specs.helpers.Commit.{left_of}
use Rattle.wb_wal.proofs.commit.Commit.begin.Goals as goal

pub returns : goal.returns
returns c =
    let page = take_rest c.args.frame.now 24 in record {
      left = c.less.ensures ∙ ap₂ left_of (c.first_number.ensures ∙ ap (λ b. be64 b 0) page) (c.zeros_in.ensures.value ∙ ap zeros (take_rest _ 8 ∙ ap (drop 8) page));
      sum = c.sum_after-sum.ensures;
      right = c.is_sealed.ensures;
    }
