use Rattle.std.proofs.Common.{arith, refl, sym, ap, ◌∙◌, append_assoc, ◌≡◌, ◌==◌, ◌++◌, ◌∷◌, ℕ, [], None, Some, map, ◌+◌, ◌<◌, length, vec_len, false}
use Rattle.std.proofs.lemmas.Grind.{common_steps}
use Rattle.std.proofs.lemmas.List.{length-map, length-append}
use Rattle.std.proofs.lemmas.List.Elements.{All-append, All-nil}
use Rattle.std.specs.List.{position, position_or_len, before_first, after_first}
use Rattle.wb_converter.specs.Counts.{counts_in, counts_of_partial, counts_of_line}
use Rattle.wb_converter.proofs.LinesOfCounts.{some_counts, no_end_before, held_more, counts_of_held, counts_in-cut, all_before}
use Rattle.wb_converter.proofs.sampling.push_counts.Goals as goal

pub loop-left-init : goal.loop-left-init
loop-left-init c = λ begun after few endless held. (few, begun, endless, held, refl)

pub returns-in_default : goal.returns-in_default
returns-in_default c = λ begun after few endless held.
    let h = c.loop-left.invariant begun after few endless held in
    let left = c.loop-left.left.now in
    let none : position (λ b. b == 10) left ≡ None = grind (arith, common_steps, c.in_default.is, c.take.ensures.found) in
    let all = all_before left none in
    let more = no_end_before left in (
      omega (arith, h.0, length-map c.loop-left.counts.items Some),
      counts_in (h.1 ++ left ++ after),
      h.4,
      some_counts (h.1 ++ left ++ after),
      λ short. (
        h.1 ++ left,
        All-append (λ b. (b == 10) ≡ false) h.1 left h.2 (rw all at more),
        rw (c.take.ensures.taken, all) (held_more c.loop-left.line h.1 left h.3),
        refl,
      ),
    )

pub loop-left-smaller : goal.loop-left-smaller
loop-left-smaller c = grind (arith, common_steps, c.take.ensures.found, c.in-Some.ensures.after)

pub loop-left-preserved : goal.loop-left-preserved
loop-left-preserved c = λ begun after few endless held.
    let h = c.loop-left.invariant begun after few endless held in
    let left = c.loop-left.left.now in
    let p = λ (b : ℕ). b == 10 in
    let short : position_or_len p left < length left = grind (arith, common_steps, c.in-Some.is, c.take.ensures.found) in
    let line = held_more c.loop-left.line h.1 (before_first p left) h.3 in
    let same : counts_of_partial c.take.new.self ≡ counts_of_line (h.1 ++ before_first p left) = rw c.take.ensures.taken (counts_of_held _ (h.1 ++ before_first p left) line) in
    let cut = counts_in-cut h.1 left after h.2 short in
    let read : map Some c.push_line.new.counts.items ≡ map Some c.loop-left.counts.items ++ counts_of_partial c.take.new.self ∷ [] = c.in_ok-push_line.ensures in
    let one_more : vec_len c.push_line.new.counts ≡ vec_len c.loop-left.counts + 1 = grind (arith, common_steps, length-map, length-append, ap length read) in
    let rest = counts_in (after_first p left ++ after) in (
      omega (arith, c.loop-left-test.true, c.len.ensures, one_more),
      [],
      All-nil (λ b. (b == 10) ≡ false),
      grind (arith, common_steps, c.begin.ensures),
      rw (read, same, c.in-Some.ensures.after) (append_assoc (map Some c.loop-left.counts.items) (counts_of_line (h.1 ++ before_first p left) ∷ []) rest
          ∙ ap (λ more. map Some c.loop-left.counts.items ++ more) (sym cut) ∙ h.4),
    )

pub returns : goal.returns
returns c = λ begun after few endless held.
    let h = c.loop-left.invariant begun after few endless held in (
      omega (arith, h.0, length-map c.loop-left.counts.items Some),
      counts_in (h.1 ++ c.loop-left.left.now ++ after),
      h.4,
      some_counts (h.1 ++ c.loop-left.left.now ++ after),
      λ short. absurd (omega (arith, c.loop-left-test.false, short, length-map c.loop-left.counts.items Some)),
    )
