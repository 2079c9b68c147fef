-- The next number, after every request.
use Rattle.std.proofs.Common.{◌≡◌, ◌∙◌, sym, ap, ℕ, ◌+◌, max, List, [], ◌∷◌, ◌++◌, refl, arith}
use Rattle.wb_office.proofs.Common.{clamps, EntryParts, greatest, greatest_spent, number_after, next_stays, Outcome, entries_after, outcome, spent_by_outcome, Asking, Situation, IsNumbered, NumbersRun, accepted, verdict}
use Rattle.wb_office.proofs.courses.AcceptedEntries.{Comes, adding, asking_for, comes, is_new, purging, stays}
use Rattle.wb_office.proofs.FoundEntries.{is_some_same, none_some}

greatest_more : (es : List EntryParts) (e : EntryParts) → greatest (es ++ e ∷ []) ≡ max (greatest es) e.number
greatest_more [] e = omega (arith, clamps)
greatest_more (x ∷ es) e = ap (max x.number) (greatest_more es e) ∙ omega (arith, clamps)

one_more : (most spent n : ℕ) → n ≡ max most spent + 1 → max (max most n) spent + 1 ≡ n + 1
one_more most spent n h = omega (arith, clamps, h)

-- one entry with the next number takes it
pub next_more : (w : Situation) (e : EntryParts) → e.number ≡ number_after w.entries w.spent → number_after (w.entries ++ e ∷ []) w.spent ≡ e.number + 1
next_more w e next = ap (λ n. max n (greatest_spent w.spent) + 1) (greatest_more w.entries e) ∙ one_more (greatest w.entries) (greatest_spent w.spent) e.number next

-- an accepted entry has the next number
pub number_is_next : (a : Asking) (e : EntryParts) → verdict a ≡ accepted e → e.number ≡ number_after a.now.entries a.now.spent
number_is_next a e is = ap (λ x. x.number) ((is_new a e is).made)

abbrev next_after : Situation → Outcome → ℕ
next_after w o = number_after (entries_after o w.entries) (spent_by_outcome o w.entries w.spent)

pub numbers_run : NumbersRun
numbers_run w b request = go (comes w b request) refl
  where
    go : {o : Outcome} → Comes w b request o → outcome w b request ≡ o → IsNumbered w b request
    go (stays none) is = record { one = λ e some. none_some (sym none ∙ some); none = λ n. ap (next_after w) is }
    go (purging ask count sound none) is = record { one = λ e some. none_some (sym none ∙ some); none = λ n. ap (next_after w) is ∙ next_stays b w.entries w.spent }
    go (adding asked e accepts one) is = record {
      one = λ f some.
          let next : e.number ≡ number_after w.entries w.spent = number_is_next (asking_for asked w) e accepts in
          rw (is_some_same (sym some ∙ one)) (next, ap (next_after w) is ∙ next_more w e next);
      none = λ n. none_some (sym n ∙ one);
    }
