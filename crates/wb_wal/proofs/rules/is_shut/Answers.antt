use Rattle.std.proofs.Common.{◌∙◌, ap, sym, subst, slice_index}
use Rattle.std.proofs.lemmas.Bool.{false≢true, eq-eqb, eqb-true}
use Rattle.sqlite_wal.specs.Format.{part}
use Rattle.wb_wal.specs.Look.{Begins}
use Rattle.wb_wal.proofs.Refused.{same-first}
use Rattle.wb_wal.proofs.rules.is_shut.Goals.{then-stop-via-then-stop, then-stop-via-else-stop+then-gate-head}
use Rattle.wb_wal.proofs.rules.is_shut.Goals as goal

pub returns-then-stop : goal.returns-then-stop
unfolding part
returns-then-stop c =
    let s = c.requires.stop.stands in
    let gate = ap (λ f. slice_index f 8) c.frame_at.ensures.value in (
      λ no'. absurd (false≢true no'),
      λ shut. absurd (elim (c.then-stop.branch) [
        | then-stop-via-then-stop w ↦ w.if-stop.true (same-first _ _ _ _ _ s.begins shut.0)
        | then-stop-via-else-stop+then-gate-head w ↦ shut.1 (sym gate ∙ w.if-gate-head.true)
      ]),
    )

pub returns : goal.returns
unfolding part
returns c =
    let gate = ap (λ f. slice_index f 8) c.frame_at.ensures.value in (
      λ yes'. (
        subst (λ first. Begins c.args.page c.args.log.now first c.args.stop.now.frame) c.if-stop.false c.requires.stop.stands.begins,
        λ opened. c.if-gate-head.false (gate ∙ opened),
        sym gate ∙ eqb-true _ _ yes',
      ),
      λ shut. eq-eqb _ _ (gate ∙ shut.2),
    )
