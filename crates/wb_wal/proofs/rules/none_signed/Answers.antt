use Rattle.std.proofs.Common.{◌≡◌, ◌+◌, ◌∙◌, ap, refl, sym, subst, arith, length}
use Rattle.std.proofs.lemmas.Bool.{false≢true}
use Rattle.sqlite_wal.specs.Format.{part}
use Rattle.sqlite_wal.specs.Recovery.{header}
use Rattle.wb_wal.specs.Look.{Has, HasSalts}
use Rattle.wb_wal.proofs.Behind.{HasPassed-none, HasPassed-more, HasPassed-all}
use Rattle.wb_wal.proofs.Walk.{whole}
use Rattle.wb_wal.proofs.rules.none_signed.Goals as goal

pub loop-frame-init : goal.loop-frame-init
loop-frame-init c =
    let page = c.args.page in
    let log = c.args.log.now in
    let s = c.requires.stop.stands in
    HasPassed-none (HasSalts page log) page log c.args.stop.now.frame _ s.place s.within

pub has_salts-requires-clause-frame : goal.has_salts-requires-clause-frame
has_salts-requires-clause-frame c =
    let is = c.in-Some.ensures.some in
    omega (arith, whole _ _ _ _ is.0 is.1)

pub returns-then-has_salts : goal.returns-then-has_salts
unfolding part
returns-then-has_salts c =
    let log = c.args.log.now in
    let page = c.args.page in
    let is = c.in-Some.ensures.some in
    let s = c.loop-frame.invariant in
    let same = is.1 ∙ ap (λ at. part log at (24 + page)) s.place in
    let salts : HasSalts page log s.j = subst (λ f. part f 8 8 ≡ part (header log) 16 8) same (c.if-has_salts.ensures.0 refl) in
    (λ no'. absurd (false≢true no'), λ none. absurd (none s.j s.order (omega (arith, is.0, s.place)) salts))

pub loop-frame-smaller : goal.loop-frame-smaller
loop-frame-smaller c =
    let is = c.in-Some.ensures.some in
    omega (arith, whole _ _ _ _ is.0 is.1, is.0)

pub loop-frame-preserved : goal.loop-frame-preserved
unfolding part
loop-frame-preserved c =
    let log = c.args.log.now in
    let page = c.args.page in
    let is = c.in-Some.ensures.some in
    let s = c.loop-frame.invariant in
    let has : Has page log s.j = omega (arith, is.0, s.place) in
    let next : c.loop-frame.at + length c.in-Some.frame.now ≡ c.loop-frame.at + (24 + page) = ap (λ n. c.loop-frame.at + n) (whole _ _ _ _ is.0 is.1) in
    let same = is.1 ∙ ap (λ at. part log at (24 + page)) s.place in
    HasPassed-more (HasSalts page log) page log c.args.stop.now.frame c.loop-frame.at _ s has next
    (λ salts. false≢true (sym c.if-has_salts.false ∙ c.has_salts.ensures.1 (subst (λ f. part f 8 8 ≡ part (header log) 16 8) (sym same) salts)))

pub returns : goal.returns
returns c =
    (λ _. HasPassed-all _ _ _ _ _ c.loop-frame.invariant (c.in_default.ensures.none refl), λ _. refl)
