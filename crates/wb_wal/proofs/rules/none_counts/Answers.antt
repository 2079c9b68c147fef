use Rattle.std.proofs.Common.{◌≡◌, suc, ◌+◌, ◌∙◌, ap, refl, sym, subst, arith, length}
use Rattle.std.proofs.lemmas.Bool.{false≢true}
use Rattle.sqlite_wal.specs.Format.{part, be32, page_number, count_page}
use Rattle.sqlite_wal.specs.Recovery.{header, frame}
use Rattle.wb_wal.specs.Look.{Has, HasSalts}
use Rattle.wb_wal.specs.helpers.Behind.{IsCounting}
use Rattle.wb_wal.proofs.Behind.{HasPassed-none, HasPassed-more, HasPassed-all}
use Rattle.wb_wal.proofs.Walk.{at-next, whole}
use Rattle.wb_wal.proofs.rules.none_counts.Goals.{else-has_salts-via-then-has_salts+else-number_at, else-has_salts-via-else-has_salts}
use Rattle.wb_wal.proofs.rules.none_counts.Goals as goal

pub loop-frame-init : goal.loop-frame-init
loop-frame-init c =
    let page = c.args.page in
    let log = c.args.log.now in
    let stop = c.args.stop.now in
    let s = c.requires.stop in
    HasPassed-none (IsCounting page log) page log (suc stop.frame) _ (omega (arith, s.stands.place, at-next page stop.frame)) (omega (arith, s.stands.place, s.damaged.within))

pub has_salts-requires-clause-frame : goal.has_salts-requires-clause-frame
has_salts-requires-clause-frame c =
    let is = c.in-Some.ensures.some in
    omega (arith, whole _ _ _ _ is.0 is.1)

pub number_at-requires : goal.number_at-requires
number_at-requires c =
    let is = c.in-Some.ensures.some in
    omega (arith, whole _ _ _ _ is.0 is.1)

pub returns-then-number_at : goal.returns-then-number_at
unfolding part
returns-then-number_at c =
    let log = c.args.log.now in
    let page = c.args.page in
    let is = c.in-Some.ensures.some in
    let s = c.loop-frame.invariant in
    let same = is.1 ∙ ap (λ at. part log at (24 + page)) s.place in
    let salts : HasSalts page log s.j = subst (λ f. part f 8 8 ≡ part (header log) 16 8) same (c.if-has_salts.ensures.0 refl) in
    let number : page_number (frame page log s.j) ≡ count_page = sym (ap (λ f. be32 f 0) same) ∙ sym c.number_at.ensures ∙ c.if-number_at.true in
    (λ no'. absurd (false≢true no'), λ none. absurd (none s.j s.order (omega (arith, is.0, s.place)) salts number))

pub loop-frame-smaller : goal.loop-frame-smaller
loop-frame-smaller c =
    let is = c.in-Some.ensures.some in
    omega (arith, whole _ _ _ _ is.0 is.1, is.0)

pub loop-frame-preserved : goal.loop-frame-preserved
unfolding part
loop-frame-preserved c =
    let log = c.args.log.now in
    let page = c.args.page in
    let is = c.in-Some.ensures.some in
    let s = c.loop-frame.invariant in
    let has : Has page log s.j = omega (arith, is.0, s.place) in
    let next : c.loop-frame.at + length c.in-Some.frame.now ≡ c.loop-frame.at + (24 + page) = ap (λ n. c.loop-frame.at + n) (whole _ _ _ _ is.0 is.1) in
    let same = is.1 ∙ ap (λ at. part log at (24 + page)) s.place in
    HasPassed-more (IsCounting page log) page log (suc c.args.stop.now.frame) c.loop-frame.at _ s has next (elim (c.else-has_salts.branch) [
      | else-has_salts-via-then-has_salts+else-number_at w ↦ λ it. w.if-number_at.false (w.number_at.ensures ∙ ap (λ f. be32 f 0) same ∙ it.1)
      | else-has_salts-via-else-has_salts w ↦
          λ it. false≢true (sym w.if-has_salts.false ∙ c.has_salts.ensures.1 (subst (λ f. part f 8 8 ≡ part (header log) 16 8) (sym same) it.0))
    ])

pub returns : goal.returns
returns c =
    let page = c.args.page in
    let log = c.args.log.now in
    let all = HasPassed-all (IsCounting page log) page log _ _ c.loop-frame.invariant (c.in_default.ensures.none refl) in
    (λ _ j l has salts number. all j l has (salts, number), λ _. refl)
