use Rattle.std.proofs.Common.{◌≡◌, ◌+◌, length, take, arith, sym, ap, ◌∙◌, subst}
use Rattle.std.proofs.lemmas.Bool.Decides.{nat_tests}
use Rattle.wb_terminal_c.specs.Heard.{heard_after}
use Rattle.wb_terminal_c.specs.Keeps.{KeepsTerminal}
use Rattle.wb_terminal_c.proofs.Hearing.{heard-next, Taken, Taken-next, Taken-last, Taken-all}
use Rattle.wb_terminal_c.proofs.handle.hear_all.Goals as goal

pub returns-then-not-is_empty : goal.returns-then-not-is_empty
returns-then-not-is_empty c = λ s h k.
    let bs = c.args.bytes.now in let i = c.loop-i.i in
    let before = c.loop-i.invariant s h k in
    let kept : KeepsTerminal c.hear.new.handle s (heard_after (take (i + 1) bs) h) = rw (heard-next bs i h c.loop-i-test.true) (c.hear.ensures.keeps s (heard_after (take i bs) h) before.0) in
    let some : ¬ (length c.hear.new.handle.replies.items ≡ 0) = λ none. absurd (grind (arith, nat_tests, c.is_empty.ensures, c.if-not-is_empty.true, none)) in
    (kept, Taken-last s h bs i c.loop-i-test.true (λ none. some (ap length kept.replies ∙ none)) before.1)

pub loop-i-preserved : goal.loop-i-preserved
loop-i-preserved c = λ s h k.
    let bs = c.args.bytes.now in let i = c.loop-i.i in
    let before = c.loop-i.invariant s h k in
    let kept : KeepsTerminal c.hear.new.handle s (heard_after (take (i + 1) bs) h) = rw (heard-next bs i h c.loop-i-test.true) (c.hear.ensures.keeps s (heard_after (take i bs) h) before.0) in
    let empty : length c.hear.new.handle.replies.items ≡ 0 = grind (arith, nat_tests, c.is_empty.ensures, c.if-not-is_empty.false) in
    (kept, Taken-next s h bs i c.loop-i-test.true (sym (ap length kept.replies) ∙ empty) before.1)

pub returns : goal.returns
returns c = λ s h k.
    let bs = c.args.bytes.now in
    let end : c.loop-i.i ≡ length bs = omega (arith, c.loop-i-test.false, c.loop-i.auto.i-end) in
    let before = c.loop-i.invariant s h k in
    (subst (λ i. KeepsTerminal c.loop-i.handle s (heard_after (take i bs) h)) end before.0, Taken-all s h bs (subst (λ i. Taken s h bs i) end before.1))
