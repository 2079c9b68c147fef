-- The pause of zero tracking counts the readings since the last step, as far as they matter.
use Rattle.std.proofs.Common.{◌≡◌, ℕ, suc, zero as nought, ◌+◌, ◌-◌, ◌≤◌, Bool, true, false, cond, List, [], ◌∷◌, take, Some, refl, sym, ◌∙◌, ap, ℤ, pos, arith}
use Rattle.std.specs.Prelude.{nat_le}
use Rattle.std.specs.List.{list_all}
use Rattle.std.specs.Ordering.{int_eq}
use Rattle.std.proofs.lemmas.Bool.Decides.{nat_tests}
use Rattle.wb_window.specs.declared.reading.Reading.{Reading}
use Rattle.wb_scale.specs.helpers.After.{pause_from}
use Rattle.wb_scale.specs.Moment.{Moment}
use Rattle.wb_scale.specs.Tracking.{is_quiet, steps}
use Rattle.wb_scale.proofs.Moments.{steps-taken}

-- after k more readings the pause is over exactly if none of the last readings that still count made a step
abbrev pub Pauses : ℕ → ℕ → List Moment → Type 0
Pauses gap pause ms = (k : ℕ) → nat_le pause k ≡ is_quiet (gap - k) ms

-- quiet for one reading fewer after a reading that made no step
quiet-still : (n : ℕ) (m : Moment) (ms : List Moment) (r : Reading) → m.reading ≡ Some r → int_eq m.step (pos 0) ≡ true → is_quiet (suc n) (m ∷ ms) ≡ is_quiet n ms
quiet-still n m ms r e s = rw (steps-taken m ms r e, s) refl

-- not quiet for any number of readings after one that made a step
quiet-moved : (n : ℕ) (m : Moment) (ms : List Moment) (r : Reading) → m.reading ≡ Some r → int_eq m.step (pos 0) ≡ false → is_quiet (suc n) (m ∷ ms) ≡ false
quiet-moved n m ms r e s = rw (steps-taken m ms r e, s) refl

fewer : (pause k : ℕ) → nat_le (pause - 1) k ≡ nat_le pause (k + 1)
fewer pause k = grind (arith, nat_tests)

still : (gap pause k n : ℕ) (m : Moment) (ms : List Moment) (r : Reading) → gap - k ≡ n → pause ≤ gap → m.reading ≡ Some r → int_eq m.step (pos 0) ≡ true → Pauses gap pause ms → nat_le (pause - 1) k ≡ is_quiet n (m ∷ ms)
still gap pause k nought m ms r g l e s q = grind (arith, nat_tests)
still gap pause k (suc n) m ms r g l e s q =
    let next : gap - (k + 1) ≡ n = omega arith in
    fewer pause k ∙ q (k + 1) ∙ ap (λ j. is_quiet j ms) next ∙ sym (quiet-still n m ms r e s)

moved : (gap k n : ℕ) (m : Moment) (ms : List Moment) (r : Reading) → gap - k ≡ n → m.reading ≡ Some r → int_eq m.step (pos 0) ≡ false → nat_le gap k ≡ is_quiet n (m ∷ ms)
moved gap k nought m ms r g e s = grind (arith, nat_tests)
moved gap k (suc n) m ms r g e s = let a : nat_le gap k ≡ false = grind (arith, nat_tests) in a ∙ sym (quiet-moved n m ms r e s)

-- the pause after a reading
pub Pauses-taken : (gap pause : ℕ) (m : Moment) (ms : List Moment) (r : Reading) → pause ≤ gap - 1 → m.reading ≡ Some r → Pauses (gap - 1) pause ms → Pauses (gap - 1) (pause_from m.step pause gap) (m ∷ ms)
Pauses-taken gap pause m ms r l e q k = go (int_eq m.step (pos 0)) refl
  where
    go : (b : Bool) → int_eq m.step (pos 0) ≡ b → nat_le (cond b (pause - 1) (gap - 1)) k ≡ is_quiet (gap - 1 - k) (m ∷ ms)
    go true s = still (gap - 1) pause k (gap - 1 - k) m ms r refl l e s q
    go false s = moved (gap - 1) k (gap - 1 - k) m ms r refl e s

pub pause_from-le : (step : ℤ) (pause gap : ℕ) → pause ≤ gap - 1 → pause_from step pause gap ≤ gap - 1
pause_from-le step pause gap l = go (int_eq step (pos 0))
  where
    go : (b : Bool) → cond b (pause - 1) (gap - 1) ≤ gap - 1
    go true = omega arith
    go false = omega arith

-- before any reading there is no pause
pub Pauses-fresh : (gap : ℕ) → Pauses gap 0 []
unfolding steps
Pauses-fresh gap k =
    let z : nat_le 0 k ≡ true = grind (arith, nat_tests) in
    z ∙ ap (list_all (λ step. int_eq step (pos 0))) (nothing (gap - k))
  where
    nothing : (n : ℕ) → [] ≡ take {A = ℤ} n []
    nothing nought = refl
    nothing (suc n) = refl
