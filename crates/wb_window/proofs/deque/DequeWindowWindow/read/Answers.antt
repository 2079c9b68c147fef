use Rattle.std.proofs.Common.{◌≡◌, ℕ, ◌+◌, ◌-◌, ◌<◌, ◌≤◌, List, [], ◌∷◌, ◌++◌, Some, None, ◌∙◌, sym, ap, suc, length, take, arith, length-take}
use Rattle.std.specs.List.{slice_get}
use Rattle.wb_window.proofs.Oldest.{oldest_last, none_goes, lost_of-last_lost, lost_of-le-length}
use Rattle.wb_window.specs.helpers.Queues.{queues_of, lost_of}
use Rattle.wb_window.specs.declared.queues.Queues.{Queues}
use Rattle.wb_window.specs.declared.reading.Reading.{Reading}
use Rattle.wb_window.proofs.deque.DequeWindowWindow.read.Goals as goal
use Rattle.wb_window.proofs.deque.DequeWindowWindow.read.Goals.{in-Some, in_default}

pub leave-requires : goal.leave-requires
leave-requires c is_lost =
    let ring = c.self.inside.ring in
    let some : 0 < ring.capacity = omega arith in
    let kept = take (ring.capacity - 1) ring.items in
    let last : ring.items ≡ kept ++ c.in-Some.oldest ∷ [] =
    oldest_last ring.items c.args.reading c.in-Some.oldest ring.capacity some (omega arith) (sym c.push_front.ensures.value ∙ c.in-Some.is) in
    let held : c.self.inside.queues.lost ≡ lost_of ring.items = ap (λ queues. queues.lost) c.self.invariant in
    let count : lost_of ring.items ≡ lost_of kept + 1 = ap lost_of last ∙ ap (λ oldest. lost_of (kept ++ oldest ∷ [])) is_lost ∙ lost_of-last_lost kept in
    omega arith

-- before a reading enters, the queues are those of the readings that stay
after_oldest : (queues left : Queues) (size : ℕ) (readings : List Reading) (new oldest : Reading) → 0 < size → length readings ≤ size → queues ≡ queues_of size readings → slice_get (new ∷ readings) size ≡ Some oldest
    → ((n : ℕ) (kept : List Reading) → queues ≡ queues_of n (kept ++ oldest ∷ []) → left ≡ queues_of n kept) → left ≡ queues_of size (take (size - 1) readings)
after_oldest queues left size readings new oldest some within held goes leaves =
    leaves size (take (size - 1) readings) (held ∙ ap (queues_of size) (oldest_last readings new oldest size some within goes))

after_none : (queues : Queues) (size : ℕ) (readings : List Reading) (new : Reading) → 0 < size → queues ≡ queues_of size readings → slice_get (new ∷ readings) size ≡ None → queues ≡ queues_of size (take (size - 1) readings)
after_none queues size readings new some held goes = held ∙ ap (queues_of size) (sym (none_goes readings new size some goes))

pub enter-requires : goal.enter-requires
enter-requires c =
    let ring = c.self.inside.ring in
    let some : 0 < ring.capacity = omega arith in
    let kept = take (ring.capacity - 1) ring.items in
    let before : c.match-push_front.self-inside.queues ≡ queues_of ring.capacity kept =
    elim c.match-push_front.branch [
      | in-Some w ↦
          ap (λ inside. inside.queues) w.self-inside-is
          ∙ after_oldest _ _ ring.capacity ring.items c.args.reading w.in-Some.oldest some (omega arith) c.self.invariant (sym c.push_front.ensures.value ∙ w.in-Some.is) w.leave.ensures
      | in_default w ↦
          ap (λ inside. inside.queues) w.self-inside-is
          ∙ after_none _ ring.capacity ring.items c.args.reading some c.self.invariant (sym c.push_front.ensures.value ∙ w.in_default.is)
    ] in
    let lost : c.match-push_front.self-inside.queues.lost ≡ lost_of kept = ap (λ queues. queues.lost) before in
    omega (arith, lost_of-le-length kept, length-take (ring.capacity - 1) ring.items)

pub invariant_of-self : goal.invariant_of-self
invariant_of-self c =
    let ring = c.self.inside.ring in
    let some : 0 < ring.capacity = omega arith in
    let kept = take (ring.capacity - 1) ring.items in
    let before : c.match-push_front.self-inside.queues ≡ queues_of ring.capacity kept =
    elim c.match-push_front.branch [
      | in-Some w ↦
          ap (λ inside. inside.queues) w.self-inside-is
          ∙ after_oldest _ _ ring.capacity ring.items c.args.reading w.in-Some.oldest some (omega arith) c.self.invariant (sym c.push_front.ensures.value ∙ w.in-Some.is) w.leave.ensures
      | in_default w ↦
          ap (λ inside. inside.queues) w.self-inside-is
          ∙ after_none _ ring.capacity ring.items c.args.reading some c.self.invariant (sym c.push_front.ensures.value ∙ w.in_default.is)
    ] in
    let pushed : c.match-push_front.self-inside.ring ≡ c.push_front.new.self =
    elim c.match-push_front.branch [
      | in-Some w ↦ ap (λ inside. inside.ring) w.self-inside-is
      | in_default w ↦ ap (λ inside. inside.ring) w.self-inside-is
    ] in
    let more : ring.capacity ≡ suc (ring.capacity - 1) = omega arith in
    let held : take ring.capacity (c.args.reading ∷ ring.items) ≡ c.args.reading ∷ kept = ap (λ n. take n (c.args.reading ∷ ring.items)) more in
    let short : length kept < ring.capacity = omega (arith, length-take (ring.capacity - 1) ring.items) in
    rw (pushed, c.push_front.ensures.items, held) (c.enter.ensures ring.capacity kept short before)
