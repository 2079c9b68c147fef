use Rattle.std.proofs.Common.{◌≡◌, inl, inr, ◌<◌, ◌≤◌, ◌∙◌, ap, refl, sym, subst, arith, length, length-take-le}
use Rattle.std.proofs.lemmas.Bool.{false≢true}
use Rattle.sqlite_wal.specs.Format.{part}
use Rattle.sqlite_wal.specs.Recovery.{frame_at}
use Rattle.wb_wal.specs.Look.{HasHeader, HoldsNothing, IsDamaged, MayStop, page_size}
use Rattle.wb_wal.proofs.Refused.{frames-taken, same-damaged}
use Rattle.wb_wal.proofs.rules.look.Goals as goal

pub slice_bounds-head-end : goal.slice_bounds-head-end
slice_bounds-head-end c =
    let long : 32 ≤ length c.args.log.now = omega (arith, c.if-log-lt-LEAST.false) in
    sym (length-take-le _ _ long)

pub is_signed-requires : goal.is_signed-requires
is_signed-requires c =
    let long : 32 ≤ length c.args.log.now = omega (arith, c.if-log-lt-LEAST.false) in
    omega (arith, length-take-le _ _ long)

pub returns-then-not-is_signed-clause-refused : goal.returns-then-not-is_signed-clause-refused
unfolding part
returns-then-not-is_signed-clause-refused c =
    let log = c.args.log.now in
    let some : 0 < c.args.file = omega (arith, c.if-file-eq0.false) in
    let holds : ¬ HoldsNothing log = λ none. elim none [ inl short ↦ omega (arith, short, c.if-log-lt-LEAST.false) | inr zero ↦ c.if-log-eq0.false zero ] in
    ((some, holds), λ head. false≢true (c.if-not-is_signed.ensures.1 head.0))

pub page_size-requires : goal.page_size-requires
page_size-requires c =
    let long : 32 ≤ length c.args.log.now = omega (arith, c.if-log-lt-LEAST.false) in
    omega (arith, length-take-le _ _ long)

pub returns-in_default-clause-refused : goal.returns-in_default-clause-refused
unfolding part
returns-in_default-clause-refused c =
    let log = c.args.log.now in
    let some : 0 < c.args.file = omega (arith, c.if-file-eq0.false) in
    let holds : ¬ HoldsNothing log = λ none. elim none [ inl short ↦ omega (arith, short, c.if-log-lt-LEAST.false) | inr zero ↦ c.if-log-eq0.false zero ] in
    ((some, holds), λ head. false≢true (c.in_default.ensures.valid.1 head.1))

pub returns-then-file-page-clause-refused : goal.returns-then-file-page-clause-refused
unfolding part
returns-then-file-page-clause-refused c =
    let log = c.args.log.now in
    let some : 0 < c.args.file = omega (arith, c.if-file-eq0.false) in
    let holds : ¬ HoldsNothing log = λ none. elim none [ inl short ↦ omega (arith, short, c.if-log-lt-LEAST.false) | inr zero ↦ c.if-log-eq0.false zero ] in
    let same : c.bytes-page.result ≡ page_size log = c.bytes-page.ensures.value ∙ c.in-Some.ensures.value in
    let head : HasHeader log = (c.if-not-is_signed.ensures.0 refl, c.in-Some.ensures.valid.0 refl) in
    inr ((some, holds), head, omega (arith, c.if-file-page.true, same))

pub returns-in-Some-first_stop-clause-refused : goal.returns-in-Some-first_stop-clause-refused
unfolding part
returns-in-Some-first_stop-clause-refused c =
    let log = c.args.log.now in
    let some : 0 < c.args.file = omega (arith, c.if-file-eq0.false) in
    let holds : ¬ HoldsNothing log = λ none. elim none [ inl short ↦ omega (arith, short, c.if-log-lt-LEAST.false) | inr zero ↦ c.if-log-eq0.false zero ] in
    let same : c.bytes-page.result ≡ page_size log = c.bytes-page.ensures.value ∙ c.in-Some.ensures.value in
    let head : HasHeader log = (c.if-not-is_signed.ensures.0 refl, c.in-Some.ensures.valid.0 refl) in
    let stop = c.in-Some-first_stop.stop in
    let stops = c.in-Some-first_stop.ensures.some in (
      (some, holds),
      head,
      omega (arith, c.if-file-page.false, same),
      (
        stop.frame,
        subst (λ page. IsDamaged page log stop.frame) same stops.damaged,
        λ may'. false≢true (c.if-not-may_stop.ensures.1 (subst (λ page. MayStop page log stop.frame) (sym same) may')),
        stops.stands.place ∙ ap (λ page. frame_at page stop.frame) same,
      ),
    )

pub returns-in_default-first_stop-clause-taken : goal.returns-in_default-first_stop-clause-taken
unfolding part
returns-in_default-first_stop-clause-taken c =
    let log = c.args.log.now in
    let some : 0 < c.args.file = omega (arith, c.if-file-eq0.false) in
    let same : c.bytes-page.result ≡ page_size log = c.bytes-page.ensures.value ∙ c.in-Some.ensures.value in
    let head : HasHeader log = (c.if-not-is_signed.ensures.0 refl, c.in-Some.ensures.valid.0 refl) in
    let stop = c.in-Some-first_stop.stop in
    let stops = c.in-Some-first_stop.ensures.some in
    let stands : MayStop (page_size log) log stop.frame = subst (λ page. MayStop page log stop.frame) same (c.if-not-may_stop.ensures.0 refl) in
    frames-taken c.args.file log some head (omega (arith, c.if-file-page.false, same))
    (λ k damaged. subst (MayStop (page_size log) log) (same-damaged (page_size log) log stop.frame k (subst (λ page. IsDamaged page log stop.frame) same stops.damaged) damaged) stands)

pub returns-in_default-first_stop-2-clause-taken : goal.returns-in_default-first_stop-2-clause-taken
unfolding part
returns-in_default-first_stop-2-clause-taken c =
    let log = c.args.log.now in
    let some : 0 < c.args.file = omega (arith, c.if-file-eq0.false) in
    let same : c.bytes-page.result ≡ page_size log = c.bytes-page.ensures.value ∙ c.in-Some.ensures.value in
    let head : HasHeader log = (c.if-not-is_signed.ensures.0 refl, c.in-Some.ensures.valid.0 refl) in
    frames-taken c.args.file log some head (omega (arith, c.if-file-page.false, same)) λ k damaged.
    let here : IsDamaged c.bytes-page.result log k = subst (λ page. IsDamaged page log k) (sym same) damaged in
    absurd (here.fails (c.first_stop.ensures.none c.in_default-first_stop.is k here.within).passes)
