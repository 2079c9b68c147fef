use Rattle.std.proofs.Common.{inl, inr, ◌∙◌, ap, refl, sym, subst, slice_index}
use Rattle.std.proofs.lemmas.Bool.{false≢true}
use Rattle.sqlite_wal.specs.Format.{part}
use Rattle.wb_wal.specs.Look.{IsOfLastCommit, MayHaveLost}
use Rattle.wb_wal.proofs.Refused.{same-first}
use Rattle.wb_wal.proofs.rules.is_torn.Goals.{else-gate-ne0-via-then-gate-ne0+else-gate-head, else-gate-ne0-via-else-gate-ne0}
use Rattle.wb_wal.proofs.rules.is_torn.Goals as goal

pub returns-then-gate-head : goal.returns-then-gate-head
unfolding part
returns-then-gate-head c =
    let gate = ap (λ f. slice_index f 8) c.frame_at.ensures.value in
    (λ no'. absurd (false≢true no'), λ torn. absurd (elim (torn.opened) [ inl opened ↦ c.if-gate-head.true (gate ∙ opened) | inr zero ↦ c.if-gate-ne0.true (gate ∙ zero) ]))

pub returns-then-is_of_last_commit : goal.returns-then-is_of_last_commit
unfolding part
returns-then-is_of_last_commit c =
    let s = c.requires.stop.stands in
    let gate = ap (λ f. slice_index f 8) c.frame_at.ensures.value in (
      λ yes'. record {
        opened = elim (c.else-gate-ne0.branch) [
          | else-gate-ne0-via-then-gate-ne0+else-gate-head w ↦ inl (sym gate ∙ w.if-gate-head.false)
          | else-gate-ne0-via-else-gate-ne0 w ↦ inr (sym gate ∙ w.if-gate-ne0.false)
        ];
        last = c.if-is_of_last_commit.ensures.0 refl;
        first = c.args.stop.now.first;
        begins = s.begins;
        lost = c.may_have_lost.ensures.0 yes';
      },
      λ torn. c.may_have_lost.ensures.1 (subst (MayHaveLost c.args.page c.args.log.now) (same-first _ _ _ _ _ torn.begins s.begins) torn.lost),
    )

pub returns-else-is_of_last_commit : goal.returns-else-is_of_last_commit
returns-else-is_of_last_commit c =
    let s = c.requires.stop.stands in
    let page = c.args.page in
    let log = c.args.log.now in (
      λ yes'. absurd (false≢true (sym c.if-is_of_last_commit.false ∙ yes')),
      λ torn. c.is_of_last_commit.ensures.1 (subst (λ first. IsOfLastCommit page log first c.args.stop.now.frame) (same-first page log _ _ _ torn.begins s.begins) torn.last),
    )
