use Rattle.std.proofs.Common.{◌≡◌, ◌≢◌, ◌↔◌, ◌+◌, ◌<◌, ◌∙◌, ap, refl, sym, subst, true, false, arith, length, IsTrue}
use Rattle.std.proofs.lemmas.Bool.{false≢true}
use Rattle.sqlite_wal.specs.Format.{part, commit_size}
use Rattle.sqlite_wal.specs.Recovery.{header, frame_at}
use Rattle.wb_wal.specs.Look.{Has, HasSalts, Commits, blank}
use Rattle.wb_wal.specs.helpers.Behind.{HasSeen}
use Rattle.wb_wal.proofs.Behind.{HasSeen-none, HasSeen-salted, HasSeen-other, HasSeen-behind, HasSeen-all, HasSeen-far}
use Rattle.wb_wal.proofs.Walk.{whole}
use Rattle.wb_wal.proofs.rules.is_of_last_commit.Goals.{then-has_salts+else-is_behind, else-has_salts}
use Rattle.wb_wal.proofs.rules.is_of_last_commit.Goals as goal

pub loop-frame-init : goal.loop-frame-init
loop-frame-init c = HasSeen-none _ _ _ _ c.requires.stop.stands.place c.requires.stop.stands.within

pub returns-then-at-end : goal.returns-then-at-end
returns-then-at-end c =
    (λ _. HasSeen-far _ _ _ _ _ _ c.loop-frame.invariant (omega (arith, c.if-at-end.true, c.requires.stop.stands.first_place)), λ _. refl)

pub has_salts-requires-clause-frame : goal.has_salts-requires-clause-frame
has_salts-requires-clause-frame c =
    let is = c.in-Some.ensures.some in
    omega (arith, whole _ _ _ _ is.0 is.1)

pub returns-then-is_behind : goal.returns-then-is_behind
unfolding part
returns-then-is_behind c =
    let log = c.args.log.now in
    let page = c.args.page in
    let is = c.in-Some.ensures.some in
    let s : HasSeen page log c.args.stop.now.frame c.loop-frame.at true = subst (HasSeen page log c.args.stop.now.frame c.loop-frame.at) c.if-is_behind.true c.loop-frame.invariant in
    let same = is.1 ∙ ap (λ at. part log at (24 + page)) s.place in
    let salts = subst (λ f. part f 8 8 ≡ part (header log) 16 8) same (c.if-has_salts.ensures.0 refl) in
    let near : c.loop-frame.at < frame_at page c.args.stop.now.first + blank = omega (arith, c.if-at-end.false, c.requires.stop.stands.first_place) in
    (λ no'. absurd (false≢true no'), λ last. absurd (HasSeen-behind page log c.args.stop.now.first _ _ s (omega (arith, is.0, s.place)) salts near last))

pub commits-is_behind-requires : goal.commits-is_behind-requires
commits-is_behind-requires c =
    let is = c.in-Some.ensures.some in
    omega (arith, whole _ _ _ _ is.0 is.1)

pub loop-frame-smaller : goal.loop-frame-smaller
loop-frame-smaller c =
    let is = c.in-Some.ensures.some in
    omega (arith, whole _ _ _ _ is.0 is.1, is.0)

pub loop-frame-preserved : goal.loop-frame-preserved
unfolding part
loop-frame-preserved c =
    let log = c.args.log.now in
    let page = c.args.page in
    let k = c.args.stop.now.frame in
    let is = c.in-Some.ensures.some in
    let s = c.loop-frame.invariant in
    let has : Has page log s.j = omega (arith, is.0, s.place) in
    let next : c.loop-frame.at + length c.in-Some.frame.now ≡ c.loop-frame.at + (24 + page) = ap (λ n. c.loop-frame.at + n) (whole _ _ _ _ is.0 is.1) in
    let same = is.1 ∙ ap (λ at. part log at (24 + page)) s.place in
    elim (c.if-has_salts.branch) [
      | then-has_salts+else-is_behind w ↦
          let none : HasSeen page log k c.loop-frame.at false = subst (HasSeen page log k c.loop-frame.at) w.if-is_behind.false s in
          let mine = is.1 ∙ ap (λ at. part log at (24 + page)) none.place in
          let salts : HasSalts page log none.j = subst (λ f. part f 8 8 ≡ part (header log) 16 8) mine (w.if-has_salts.ensures.0 refl) in
          let ends : IsTrue w.commits-is_behind.result ↔ Commits page log none.j = subst (λ f. IsTrue w.commits-is_behind.result ↔ (commit_size f ≢ 0)) mine w.commits-is_behind.ensures in
          subst (HasSeen page log k _) (sym w.is_behind-is) (HasSeen-salted page log k c.loop-frame.at _ _ none (omega (arith, is.0, none.place)) next salts ends)
      | else-has_salts w ↦
          subst (HasSeen page log k _) (sym w.is_behind-is)
          (HasSeen-other page log k c.loop-frame.at _ _ s has next (λ salts. false≢true (w.if-has_salts.ensures.1 (subst (λ f. part f 8 8 ≡ part (header log) 16 8) (sym same) salts))))
    ]

pub returns : goal.returns
returns c =
    (λ _. HasSeen-all _ _ _ _ _ _ c.loop-frame.invariant (c.in_default.ensures.none refl), λ _. refl)
