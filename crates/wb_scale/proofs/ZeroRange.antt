-- The zero never leaves its range.
use Rattle.std.proofs.Common.{◌≡◌, Bool, true, false, ◌&&◌, cond, List, [], ◌∷◌, Option, Some, None, refl, ℤ, pos, ◌+ℤ◌, ◌-ℤ◌, ◌≤ℤ◌, neg_ℤ, arith, ◌-◌}
use Rattle.std.specs.Prelude.{int_lt}
use Rattle.std.specs.Ordering.{int_eq}
use Rattle.std.proofs.lemmas.Int.{ints}
use Rattle.wb_instrument.specs.Limits.{readings_a_step, farthest_zero}
use Rattle.wb_instrument.specs.Rounding.{round}
use Rattle.wb_instrument.specs.Setup.{Setup}
use Rattle.wb_window.specs.Stability.{is_stable}
use Rattle.wb_window.specs.declared.reading.Reading.{Reading}
use Rattle.wb_scale.specs.declared.answers.TareNow.TheVariants.{Empty}
use Rattle.wb_scale.specs.declared.answers.ZeroAnswer.TheVariants.{Above, Below, Done}
use Rattle.wb_scale.specs.Call.{read, read_for_zero, set_zero, tare, preset, clear_tare, stored}
use Rattle.wb_scale.specs.Drift.{ZeroInRange}
use Rattle.wb_scale.specs.History.{moment_of_call, moment_of_reading, moments}
use Rattle.wb_scale.specs.Moment.{Moment, nothing, readings}
use Rattle.wb_scale.specs.Tracking.{is_quiet, is_within_limit, step_at, step_to, towards}
use Rattle.wb_scale.specs.Zero.{is_done, last_load, load_of, zero_answer_at, zero_answer_of, zero_now}
use Rattle.wb_scale.proofs.Moments.{zero_now-set, zero_now-step}
use Rattle.wb_scale.proofs.Tracks.{within-true}

abbrev Within : ℤ → ℤ → Type 0
Within limit zero = (neg_ℤ limit ≤ℤ zero) × (zero ≤ℤ limit)

kept : (limit zero : ℤ) → Within limit zero → Within limit (zero +ℤ pos 0)
kept limit zero w = (omega (arith, ints, w.0), omega (arith, ints, w.1))

step_to-within : (limit zero : ℤ) (load : Option ℤ) → Within limit zero → Within limit (zero +ℤ step_to limit zero load)
step_to-within limit zero None w = kept limit zero w
step_to-within limit zero (Some load) w = go (int_eq (round (load -ℤ zero)) (pos 0)) (is_within_limit limit (zero +ℤ towards zero load)) refl
  where
    go : (a b : Bool) → is_within_limit limit (zero +ℤ towards zero load) ≡ b → Within limit (zero +ℤ cond (a && b) (towards zero load) (pos 0))
    go true true e = within-true limit (zero +ℤ towards zero load) e
    go true false e = kept limit zero w
    go false b e = kept limit zero w

step_at-within : (s : Setup) (r : Reading) (ms : List Moment) → Within (pos (farthest_zero s)) (zero_now ms) → Within (pos (farthest_zero s)) (zero_now ms +ℤ step_at s r ms)
step_at-within s r ms w = go (is_stable s.window s.band (r ∷ readings ms) && is_quiet (readings_a_step s - 1) ms)
  where
    go : (b : Bool) → Within (pos (farthest_zero s)) (zero_now ms +ℤ cond b (step_to (pos (farthest_zero s)) (zero_now ms) (load_of r)) (pos 0))
    go true = step_to-within (pos (farthest_zero s)) (zero_now ms) (load_of r) w
    go false = kept (pos (farthest_zero s)) (zero_now ms) w

-- a load that the zero was set to
record IsSet (limit : ℤ) (load : Option ℤ) : Type 0 where
  value : ℤ
  is : load ≡ Some value
  within : Within limit value

done-at : (limit : ℤ) (load : Option ℤ) → is_done (zero_answer_at limit load) ≡ true → IsSet limit load
done-at limit None e = absurd (cc)
done-at limit (Some v) e = go (int_lt limit v) (int_lt v (neg_ℤ limit)) refl refl e
  where
    go : (a b : Bool) → int_lt limit v ≡ a → int_lt v (neg_ℤ limit) ≡ b → is_done (cond a Above (cond b Below Done)) ≡ true → IsSet limit (Some v)
    go true b p q f = absurd (cc)
    go false true p q f = absurd (cc)
    go false false p q f = record { value = v; is = refl; within = (grind (arith, ints), grind (arith, ints)) }

done-within : (stable : Bool) (limit : ℤ) (load : Option ℤ) → is_done (zero_answer_of stable limit load) ≡ true → IsSet limit load
done-within true limit load e = done-at limit load e
done-within false limit load e = absurd (cc)

after-set : (limit : ℤ) (m : Moment) (ms : List Moment) → IsSet limit m.zeroed → Within limit (zero_now (m ∷ ms))
after-set limit m ms set = rw (zero_now-set m ms set.value set.is) set.within

after-step : (limit : ℤ) (m : Moment) (ms : List Moment) → m.zeroed ≡ None → Within limit (zero_now ms +ℤ m.step) → Within limit (zero_now (m ∷ ms))
after-step limit m ms e w = rw (zero_now-step m ms e) w

after-none : (limit : ℤ) (m : Moment) (ms : List Moment) → m.zeroed ≡ None → m.step ≡ pos 0 → Within limit (zero_now ms) → Within limit (zero_now (m ∷ ms))
after-none limit m ms e z w = after-step limit m ms e (rw z (kept limit (zero_now ms) w))

at_first : (s : Setup) → Within (pos (farthest_zero s)) (zero_now [])
unfolding zero_now
at_first s = (omega (arith, ints), omega (arith, ints))

after-read : (s : Setup) (r : Reading) (ms : List Moment) → Within (pos (farthest_zero s)) (zero_now ms) → Within (pos (farthest_zero s)) (zero_now (moment_of_reading s r ms ∷ ms))
after-read s r ms w = after-step (pos (farthest_zero s)) (moment_of_reading s r ms) ms refl (step_at-within s r ms w)

-- a moment that sets the zero where the answer is so, or another
after-either : (limit : ℤ) (stable : Bool) (m n : Moment) (ms : List Moment) → Within limit (zero_now (n ∷ ms)) → Within limit (zero_now (cond (is_done (zero_answer_of stable limit m.zeroed)) m n ∷ ms))
after-either limit stable m n ms w = go (is_done (zero_answer_of stable limit m.zeroed)) refl
  where
    go : (b : Bool) → is_done (zero_answer_of stable limit m.zeroed) ≡ b → Within limit (zero_now (cond b m n ∷ ms))
    go true e = after-set limit m ms (done-within stable limit m.zeroed e)
    go false e = w

pub zero_in_range : ZeroInRange
zero_in_range s [] = at_first s
zero_in_range s (read r ∷ h) = after-read s r (moments s h) (zero_in_range s h)
zero_in_range s (read_for_zero r ∷ h) =
    let ms = moments s h in
    after-either (pos (farthest_zero s)) (is_stable s.window s.band (r ∷ readings ms)) (record nothing { reading = Some r; zeroed = load_of r; tare = Some Empty }) (moment_of_reading s r ms) ms (after-read s r ms (zero_in_range s h))
zero_in_range s (set_zero ∷ h) =
    let ms = moments s h in
    after-either (pos (farthest_zero s)) (is_stable s.window s.band (readings ms)) (record nothing { zeroed = last_load (readings ms); tare = Some Empty }) nothing ms (after-none (pos (farthest_zero s)) nothing ms refl refl (zero_in_range s h))
zero_in_range s (tare ∷ h) = after-none (pos (farthest_zero s)) (moment_of_call s tare (moments s h)) (moments s h) refl refl (zero_in_range s h)
zero_in_range s (preset grams ∷ h) = after-none (pos (farthest_zero s)) (moment_of_call s (preset grams) (moments s h)) (moments s h) refl refl (zero_in_range s h)
zero_in_range s (clear_tare ∷ h) = after-none (pos (farthest_zero s)) (moment_of_call s clear_tare (moments s h)) (moments s h) refl refl (zero_in_range s h)
zero_in_range s (stored ∷ h) = after-none (pos (farthest_zero s)) (moment_of_call s stored (moments s h)) (moments s h) refl refl (zero_in_range s h)
