use Rattle.std.proofs.Common.{refl, sym, arith, subst, subst₂}
use Rattle.std.proofs.lemmas.Bool.{false≢true}
use Rattle.sqlite_wal.specs.Format.{IsFrame}
use Rattle.sqlite_wal.specs.Recovery.{header}
use Rattle.wb_wal.specs.helpers.Stop.{IsBehind}
use Rattle.wb_wal.proofs.Walk.{StandsAt-first, StandsAt-more, all-pass, here, whole, number-at}
use Rattle.wb_wal.proofs.frames.first_stop.Goals as goal

pub loop-frame-init : goal.loop-frame-init
unfolding Rattle.sqlite_wal.specs.Format.part
loop-frame-init c = StandsAt-first _ _ _ c.requires.head c.sum_at-sum.ensures

pub passes-requires-clause-frame : goal.passes-requires-clause-frame
passes-requires-clause-frame c =
    let is = c.in-Some.ensures.some in
    omega (arith, whole _ _ _ _ is.0 is.1)

pub returns-then-not-passes-clause-some : goal.returns-then-not-passes-clause-some
unfolding Rattle.sqlite_wal.specs.Format.part
returns-then-not-passes-clause-some c =
    let log = c.args.log.now in
    let s = c.loop-frame.invariant in
    let at = here c.args.page log c.in-Some.frame.now c.loop-frame.stop s c.in-Some.ensures.some in record {
      stands = s;
      damaged = record {
        before = s.before;
        within = at.0;
        fails = λ passes. false≢true (c.if-not-passes.ensures.1 (subst₂ (IsFrame (header log)) (sym s.sum) (sym at.1) passes));
      };
    }

pub behind-stop-requires-clause-frame : goal.behind-stop-requires-clause-frame
behind-stop-requires-clause-frame c =
    let is = c.in-Some.ensures.some in
    omega (arith, whole _ _ _ _ is.0 is.1)

pub behind-stop-requires-clause-number : goal.behind-stop-requires-clause-number
behind-stop-requires-clause-number c =
    omega (arith, c.loop-frame.invariant.place, number-at c.args.page c.loop-frame.stop.frame)

pub loop-frame-smaller : goal.loop-frame-smaller
loop-frame-smaller c =
    let is = c.in-Some.ensures.some in
    omega (arith, whole _ _ _ _ is.0 is.1, is.0, c.behind-stop.ensures.place)

pub loop-frame-preserved : goal.loop-frame-preserved
unfolding Rattle.sqlite_wal.specs.Format.part
loop-frame-preserved c =
    let log = c.args.log.now in
    let s = c.loop-frame.invariant in
    let at = here c.args.page log c.in-Some.frame.now c.loop-frame.stop s c.in-Some.ensures.some in
    StandsAt-more c.args.page log c.loop-frame.stop c.behind-stop.result s at.0
    (subst (IsFrame (header log) c.loop-frame.stop.sum) at.1 (c.if-not-passes.ensures.0 refl))
    (subst (λ f. IsBehind c.loop-frame.stop f c.behind-stop.result) at.1 c.behind-stop.ensures)

pub returns-clause-none : goal.returns-clause-none
returns-clause-none c none i has =
    all-pass c.args.page c.args.log.now c.loop-frame.stop c.loop-frame.invariant (c.in_default.ensures.none refl) i has
