use Rattle.std.proofs.Common.{◌+◌, sym, ◌∙◌, ap, ap₂}
use Rattle.std.proofs.lemmas.Bool.{false≢true}
use Rattle.std.proofs.lemmas.List.{take_rest}
use Rattle.sqlite_wal.specs.Format.{zeros}
use Rattle.sqlite_wal.proofs.FormatLemmas.{part_front}
use Rattle.wb_wal.specs.Look.{lack, sum_after}
use Rattle.wb_wal.specs.helpers.Commit.{left_after}
use Rattle.wb_wal.proofs.commit.Commit.go_on.Goals as goal

pub returns-then-self : goal.returns-then-self
returns-then-self c =
    let more = ap₂ (λ a b. a + b) (c.zeros_in.ensures.value ∙ ap zeros (take_rest c.args.frame.now 24)) (c.lack.ensures ∙ ap lack c.number_at.ensures) in
    let sum = c.sum_after-sum.ensures ∙ ap (λ b. sum_after c.args.head.now c.args.self.sum b c.args.frame.now) (sym (part_front c.args.frame.now 8)) in record {
      left = c.less.ensures ∙ ap (left_after c.args.self.left) more;
      sum = sum;
      right = (λ yes'. (c.if-self.true, c.is_sealed.ensures.0 yes'), λ both. c.is_sealed.ensures.1 both.1);
    }

pub returns-else-self : goal.returns-else-self
returns-else-self c =
    let more = ap₂ (λ a b. a + b) (c.zeros_in.ensures.value ∙ ap zeros (take_rest c.args.frame.now 24)) (c.lack.ensures ∙ ap lack c.number_at.ensures) in
    let sum = c.sum_after-sum.ensures ∙ ap (λ b. sum_after c.args.head.now c.args.self.sum b c.args.frame.now) (sym (part_front c.args.frame.now 8)) in record {
      left = c.less.ensures ∙ ap (left_after c.args.self.left) more;
      sum = sum;
      right = (λ yes'. absurd (false≢true (sym c.if-self.false ∙ yes')), λ both. both.0);
    }
