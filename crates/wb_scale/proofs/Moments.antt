-- The words on moments, one moment later.
use Rattle.std.proofs.Common.{◌≡◌, ℕ, ◌+◌, Bool, true, false, cond, List, [], ◌∷◌, take, Some, None, refl, ap, ◌∙◌, ℤ, ◌+ℤ◌, arith, one-add}
use Rattle.std.specs.Prelude.{◌||◌, not, is_some}
use Rattle.std.specs.List.{before_first, list_any, prefix_len}
use Rattle.std.proofs.lemmas.Int.{ints}
use Rattle.wb_window.specs.declared.reading.Reading.{Reading}
use Rattle.wb_scale.specs.declared.answers.TareNow.{TareNow}
use Rattle.wb_scale.specs.helpers.After.{above}
use Rattle.wb_scale.specs.Cleared.{clears, has_below_min, is_cleared, moments_at_calls, stores}
use Rattle.wb_scale.specs.Indication.{gross}
use Rattle.wb_scale.specs.Moment.{Moment, readings}
use Rattle.wb_scale.specs.Tare.{tare_now}
use Rattle.wb_scale.specs.Tracking.{is_quiet, steps}
use Rattle.wb_scale.specs.Zero.{above_zero, load_of, zero_now}

before_first-cons : {X : Type 0} (p : X → Bool) (x : X) (xs : List X) → before_first p (x ∷ xs) ≡ cond (p x) [] (x ∷ before_first p xs)
before_first-cons p x xs =
    elim (p x) as (λ b. take (cond (not b) (1 + prefix_len (λ y. not (p y)) xs) 0) (x ∷ xs) ≡ cond b [] (x ∷ before_first p xs)) [
      | true ↦ refl
      | false ↦ rw one-add refl
    ]

-- a moment that doesn't set the zero adds its step
pub zero_now-step : (m : Moment) (ms : List Moment) → m.zeroed ≡ None → zero_now (m ∷ ms) ≡ zero_now ms +ℤ m.step
unfolding zero_now
zero_now-step m ms e = rw (before_first-cons (λ x. is_some x.zeroed) m ms, e) (omega (arith, ints))

-- a moment that sets it
pub zero_now-set : (m : Moment) (ms : List Moment) (v : ℤ) → m.zeroed ≡ Some v → zero_now (m ∷ ms) ≡ v
unfolding zero_now
zero_now-set m ms v e = rw (before_first-cons (λ x. is_some x.zeroed) m ms, e) (omega (arith, ints))

pub readings-taken : (m : Moment) (ms : List Moment) (r : Reading) → m.reading ≡ Some r → readings (m ∷ ms) ≡ r ∷ readings ms
unfolding readings
readings-taken m ms r e = rw e refl

pub readings-none : (m : Moment) (ms : List Moment) → m.reading ≡ None → readings (m ∷ ms) ≡ readings ms
unfolding readings
readings-none m ms e = rw e refl

pub steps-taken : (m : Moment) (ms : List Moment) (r : Reading) → m.reading ≡ Some r → steps (m ∷ ms) ≡ m.step ∷ steps ms
unfolding steps
steps-taken m ms r e = rw e refl

pub steps-none : (m : Moment) (ms : List Moment) → m.reading ≡ None → steps (m ∷ ms) ≡ steps ms
unfolding steps
steps-none m ms e = rw e refl

pub tare_now-same : (m : Moment) (ms : List Moment) → m.tare ≡ None → tare_now (m ∷ ms) ≡ tare_now ms
unfolding tare_now
tare_now-same m ms e = rw e refl

pub tare_now-new : (m : Moment) (ms : List Moment) (t : TareNow) → m.tare ≡ Some t → tare_now (m ∷ ms) ≡ t
unfolding tare_now
tare_now-new m ms t e = rw e refl

pub is_quiet-none : (n : ℕ) (m : Moment) (ms : List Moment) → m.reading ≡ None → is_quiet n (m ∷ ms) ≡ is_quiet n ms
is_quiet-none n m ms e = rw (steps-none m ms e) refl

-- the load above the zero, where a reading is taken
pub above_zero-taken : (m : Moment) (ms : List Moment) (r : Reading) → m.reading ≡ Some r → above_zero (m ∷ ms) ≡ above (load_of r) (zero_now (m ∷ ms))
unfolding above_zero
above_zero-taken m ms r e = rw (readings-taken m ms r e) refl

is_cleared-cons : (m : Moment) (ms : List Moment) → is_cleared (m ∷ ms) ≡ cond m.stored false (clears (m ∷ ms) || is_cleared ms)
unfolding is_cleared
is_cleared-cons m ms = ap (list_any clears) (before_first-cons stores (m ∷ ms) (moments_at_calls ms)) ∙ either m.stored
  where
    either : (b : Bool) → list_any clears (cond b [] ((m ∷ ms) ∷ before_first stores (moments_at_calls ms))) ≡ cond b false (clears (m ∷ ms) || list_any clears (before_first stores (moments_at_calls ms)))
    either true = refl
    either false = refl

pub is_cleared-stored : (m : Moment) (ms : List Moment) → m.stored ≡ true → is_cleared (m ∷ ms) ≡ false
is_cleared-stored m ms e = is_cleared-cons m ms ∙ rw e refl

pub is_cleared-none : (m : Moment) (ms : List Moment) → m.reading ≡ None → m.stored ≡ false → is_cleared (m ∷ ms) ≡ is_cleared ms
is_cleared-none m ms e f = is_cleared-cons m ms ∙ rw (e, f) refl

pub is_cleared-taken : (m : Moment) (ms : List Moment) (r : Reading) → m.reading ≡ Some r → m.stored ≡ false → is_cleared (m ∷ ms) ≡ (has_below_min (gross (m ∷ ms)) || is_cleared ms)
is_cleared-taken m ms r e f = is_cleared-cons m ms ∙ rw (e, f) refl
