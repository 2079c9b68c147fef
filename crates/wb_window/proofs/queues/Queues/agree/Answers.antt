use Rattle.std.proofs.Common.{◌≡◌, pos, ◌-ℤ◌, Some, None, sym, ◌∙◌, ap, w64, to_z, of_z, arith}
use Rattle.std.proofs.lemmas.Int.{ints}
use Rattle.std.specs.List.{slice_get}
use Rattle.wb_window.proofs.Fronts.{Spread-fronts, agree-none, agree-any_lost}
use Rattle.wb_window.proofs.Spread.{spread_answer}
use Rattle.wb_window.specs.helpers.Candidates.{candidates}
use Rattle.wb_window.specs.helpers.Queues.{lost_of}
use Rattle.wb_window.specs.declared.candidates.Extreme.TheVariants.{Greatest, Least}
use Rattle.wb_window.proofs.queues.Queues.agree.Goals as goal

pub returns-then-self-gt0 : goal.returns-then-self-gt0
returns-then-self-gt0 c size readings e =
    let count : c.args.self.now.lost ≡ lost_of readings = ap (λ queues. queues.lost) e in
    sym (agree-any_lost c.args.band readings (omega arith))

pub returns-in_default : goal.returns-in_default
returns-in_default c size readings e =
    let count : c.args.self.now.lost ≡ lost_of readings = ap (λ queues. queues.lost) e in
    let none : slice_get (candidates Greatest readings) 0 ≡ None = sym (c.first.ensures ∙ ap (λ queues. slice_get queues.greatest.loads.items 0) e) ∙ c.in_default.is in
    sym (agree-none Greatest c.args.band readings (omega arith) none)

pub returns-in_default-first : goal.returns-in_default-first
returns-in_default-first c size readings e =
    let count : c.args.self.now.lost ≡ lost_of readings = ap (λ queues. queues.lost) e in
    let none : slice_get (candidates Least readings) 0 ≡ None = sym (c.first-2.ensures ∙ ap (λ queues. slice_get queues.least.loads.items 0) e) ∙ c.in_default-first.is in
    sym (agree-none Least c.args.band readings (omega arith) none)

pub returns : goal.returns
returns c size readings e =
    let count : c.args.self.now.lost ≡ lost_of readings = ap (λ queues. queues.lost) e in
    let high : slice_get (candidates Greatest readings) 0 ≡ Some c.in-Some.greatest = sym (c.first.ensures ∙ ap (λ queues. slice_get queues.greatest.loads.items 0) e) ∙ c.in-Some.is in
    let low : slice_get (candidates Least readings) 0 ≡ Some c.in-Some-first.least = sym (c.first-2.ensures ∙ ap (λ queues. slice_get queues.least.loads.items 0) e) ∙ c.in-Some-first.is in
    let spread = Spread-fronts c.in-Some-first.least c.in-Some.greatest readings (omega arith) low high in
    let d : to_z w64 (of_z w64 (to_z w64 (of_z w64 c.from.result) -ℤ to_z w64 (of_z w64 c.from-2.result))) ≡ c.in-Some.greatest -ℤ c.in-Some-first.least = omega (arith, ints) in
    let b : to_z w64 (of_z w64 c.from-3.result) ≡ pos c.args.band = omega (arith, ints) in
    spread_answer c.args.band c.in-Some-first.least c.in-Some.greatest readings _ _ spread d b
