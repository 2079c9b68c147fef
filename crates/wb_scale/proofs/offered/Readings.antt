-- What each call leaves of the readings that were taken, for the crates above.
use Rattle.std.proofs.Common.{◌≡◌, ℕ, Bool, true, false, cond, List, ◌∷◌, Some, None, refl}
use Rattle.wb_instrument.specs.Setup.{Setup}
use Rattle.wb_window.specs.declared.reading.Reading.{Reading}
use Rattle.wb_scale.specs.declared.answers.TareNow.TheVariants.{Empty}
use Rattle.wb_scale.specs.Call.{Call, read, read_for_zero, set_zero, tare, preset, clear_tare, stored}
use Rattle.wb_scale.specs.History.{moment_of_call, moment_of_reading, moments}
use Rattle.wb_scale.specs.Moment.{Moment, nothing, readings}
use Rattle.wb_scale.specs.Zero.{is_done, last_load, load_of, zero_answer}
use Rattle.wb_scale.proofs.Moments.{readings-none, readings-taken}

-- either moment takes the reading
either-taken : (b : Bool) (m n : Moment) (ms : List Moment) (r : Reading) → m.reading ≡ Some r → n.reading ≡ Some r → readings (cond b m n ∷ ms) ≡ r ∷ readings ms
either-taken true m n ms r p q = readings-taken m ms r p
either-taken false m n ms r p q = readings-taken n ms r q

-- neither takes one
either-none : (b : Bool) (m n : Moment) (ms : List Moment) → m.reading ≡ None → n.reading ≡ None → readings (cond b m n ∷ ms) ≡ readings ms
either-none true m n ms p q = readings-none m ms p
either-none false m n ms p q = readings-none n ms q

pub readings-read : (s : Setup) (r : Reading) (h : List Call) → readings (moments s (read r ∷ h)) ≡ r ∷ readings (moments s h)
readings-read s r h = readings-taken (moment_of_reading s r (moments s h)) (moments s h) r refl

pub readings-read_for_zero : (s : Setup) (r : Reading) (h : List Call) → readings (moments s (read_for_zero r ∷ h)) ≡ r ∷ readings (moments s h)
readings-read_for_zero s r h =
    either-taken (is_done (zero_answer s (r ∷ readings (moments s h)))) (record nothing { reading = Some r; zeroed = load_of r; tare = Some Empty }) (moment_of_reading s r (moments s h)) (moments s h) r refl refl

pub readings-set_zero : (s : Setup) (h : List Call) → readings (moments s (set_zero ∷ h)) ≡ readings (moments s h)
readings-set_zero s h =
    either-none (is_done (zero_answer s (readings (moments s h)))) (record nothing { zeroed = last_load (readings (moments s h)); tare = Some Empty }) nothing (moments s h) refl refl

pub readings-tare : (s : Setup) (h : List Call) → readings (moments s (tare ∷ h)) ≡ readings (moments s h)
readings-tare s h = readings-none (moment_of_call s tare (moments s h)) (moments s h) refl

pub readings-preset : (s : Setup) (grams : ℕ) (h : List Call) → readings (moments s (preset grams ∷ h)) ≡ readings (moments s h)
readings-preset s grams h = readings-none (moment_of_call s (preset grams) (moments s h)) (moments s h) refl

pub readings-clear_tare : (s : Setup) (h : List Call) → readings (moments s (clear_tare ∷ h)) ≡ readings (moments s h)
readings-clear_tare s h = readings-none (moment_of_call s clear_tare (moments s h)) (moments s h) refl

pub readings-stored : (s : Setup) (h : List Call) → readings (moments s (stored ∷ h)) ≡ readings (moments s h)
readings-stored s h = readings-none (moment_of_call s stored (moments s h)) (moments s h) refl
