use Rattle.std.proofs.Common.{◌≡◌, inl, inr, ◌+◌, ◌∙◌, ap, refl, sym, arith, rules, length}
use Rattle.std.proofs.lemmas.Bool.{false≢true, cases_eq}
use Rattle.sqlite_wal.specs.Format.{part, be32, commit_size}
use Rattle.wb_wal.proofs.Commits.{Counts, StandsIn-first, StandsIn-more, ended, unended}
use Rattle.wb_wal.proofs.Walk.{Has-less, cut, whole}
use Rattle.wb_wal.proofs.rules.may_have_lost.Goals.{else-number-via-then-number+else-number-ne0, else-number-via-else-number}
use Rattle.wb_wal.proofs.rules.may_have_lost.Goals as goal

pub returns-then-number-ne0 : goal.returns-then-number-ne0
returns-then-number-ne0 c =
    let s = c.requires.stop.stands in
    let log = c.args.log.now in
    let page = c.args.page in
    let same = cut log c.args.stop.now.first_at (24 + page) ∙ ap (λ at. part log at (24 + page)) s.first_place in
    let number = c.number_at-number.ensures ∙ ap (λ f. be32 f 0) same in
    (λ no'. absurd (false≢true no'), λ may'. absurd (elim (may'.counts) [ inl e ↦ c.if-number.true (number ∙ e) | inr e ↦ c.if-number-ne0.true (number ∙ e) ]))

pub loop-head-init : goal.loop-head-init
unfolding part
loop-head-init c =
    let s = c.requires.stop.stands in
    let log = c.args.log.now in
    let page = c.args.page in
    let same = cut log c.args.stop.now.first_at (24 + page) ∙ ap (λ at. part log at (24 + page)) s.first_place in
    StandsIn-first page log c.args.stop.now.first c.args.stop.now.first_at _ c.args.stop.now.first_sum _ s.first_place
    (Has-less page log _ _ s.begins.order c.requires.stop.damaged.within) same s.first_sum c.begin-commit.ensures

pub commits-requires : goal.commits-requires
commits-requires c =
    let s = c.loop-head.invariant in
    omega (arith, whole _ _ _ _ s.has s.bytes_are)

pub overflow_add-at : goal.overflow_add-at
overflow_add-at c =
    let s = c.loop-head.invariant in
    let long = whole _ _ _ _ s.has s.bytes_are in
    let has = s.has in
    let place = s.place in
    search rules

pub returns-in_default : goal.returns-in_default
returns-in_default c =
    let s = c.requires.stop.stands in
    let log = c.args.log.now in
    let page = c.args.page in
    let same = cut log c.args.stop.now.first_at (24 + page) ∙ ap (λ at. part log at (24 + page)) s.first_place in
    let number = c.number_at-number.ensures ∙ ap (λ f. be32 f 0) same in
    let counts : Counts page log c.args.stop.now.first = elim (c.else-number.either) [ inl none ↦ inr (sym number ∙ none.1) | inr count ↦ inl (sym number ∙ count) ] in
    let walk = c.loop-head.invariant in
    let long = whole _ _ _ _ walk.has walk.bytes_are in
    let none : commit_size c.loop-head.frame.now ≡ 0 = elim (cases_eq (commit_size c.loop-head.frame.now) 0) [ inl e ↦ e | inr some ↦ absurd (false≢true (c.loop-head-test.ensures.1 some)) ] in
    (λ _. unended page log _ _ _ _ walk none (omega (arith, long, c.in_default.ensures.none refl)) counts, λ _. refl)

pub go_on-commit-requires-clause-frame : goal.go_on-commit-requires-clause-frame
go_on-commit-requires-clause-frame c =
    let is = c.in-Some.ensures.some in
    omega (arith, whole _ _ _ _ is.0 is.1)

pub go_on-commit-requires-clause-room : goal.go_on-commit-requires-clause-room
go_on-commit-requires-clause-room c =
    let is = c.in-Some.ensures.some in
    omega (arith, whole _ _ _ _ is.0 is.1, c.requires.page.1)

pub loop-head-smaller : goal.loop-head-smaller
loop-head-smaller c =
    let s = c.loop-head.invariant in
    omega (arith, whole _ _ _ _ s.has s.bytes_are, s.has, s.place)

pub loop-head-preserved : goal.loop-head-preserved
unfolding part
loop-head-preserved c =
    let log = c.args.log.now in
    let page = c.args.page in
    let walk = c.loop-head.invariant in
    let is = c.in-Some.ensures.some in
    let none : commit_size c.loop-head.frame.now ≡ 0 = elim (cases_eq (commit_size c.loop-head.frame.now) 0) [ inl e ↦ e | inr some ↦ absurd (false≢true (c.loop-head-test.ensures.1 some)) ] in
    let step : c.loop-head.at + length c.loop-head.frame.now ≡ c.loop-head.at + (24 + page) = ap (λ n. c.loop-head.at + n) (whole _ _ _ _ walk.has walk.bytes_are) in
    StandsIn-more page log _ _ _ _ _ _ _ walk none step is.0 is.1 c.go_on-commit.ensures

pub ends_lost-requires : goal.ends_lost-requires
ends_lost-requires c =
    let s = c.loop-head.invariant in
    omega (arith, whole _ _ _ _ s.has s.bytes_are)

pub returns : goal.returns
returns c =
    let s = c.requires.stop.stands in
    let log = c.args.log.now in
    let page = c.args.page in
    let same = cut log c.args.stop.now.first_at (24 + page) ∙ ap (λ at. part log at (24 + page)) s.first_place in
    let number = c.number_at-number.ensures ∙ ap (λ f. be32 f 0) same in
    let counts : Counts page log c.args.stop.now.first = elim (c.else-number.either) [ inl none ↦ inr (sym number ∙ none.1) | inr count ↦ inl (sym number ∙ count) ] in
    let walk = c.loop-head.invariant in
    let end = ended page log _ _ _ _ walk (c.loop-head-test.ensures.0 refl) counts in
    (λ yes'. end.0 (c.ends_lost.ensures.0 yes'), λ may'. c.ends_lost.ensures.1 (end.1 may'))
