-- A scale that stands after a history, after one more call.
use Rattle.std.proofs.Common.{◌≡◌, ℕ, zero as nought, suc, ◌-◌, ◌≤◌, Bool, true, false, ◌&&◌, cond, List, [], ◌∷◌, take, Some, None, refl, sym, ◌∙◌, ap, subst, ℤ, pos, ◌+ℤ◌, ◌≤ℤ◌, neg_ℤ, arith}
use Rattle.std.specs.Prelude.{nat_le}
use Rattle.std.proofs.lemmas.Int.{ints}
use Rattle.wb_instrument.specs.Limits.{readings_a_step, farthest_zero}
use Rattle.wb_instrument.specs.Setup.{Setup}
use Rattle.wb_window.specs.Reading.{IsReading}
use Rattle.wb_window.specs.Stability.{is_stable}
use Rattle.wb_window.specs.declared.reading.Reading.{Reading}
use Rattle.wb_scale.specs.declared.answers.TareNow.{TareNow}
use Rattle.wb_scale.specs.declared.answers.TareNow.TheVariants.{Empty}
use Rattle.wb_scale.specs.helpers.After.{above, cleared_from, moved, pause_from, seen, step_of, tracked}
use Rattle.wb_scale.specs.Call.{Call, read, stored}
use Rattle.wb_scale.specs.Cleared.{is_cleared}
use Rattle.wb_scale.specs.History.{moment_of_call, moment_of_reading, moments}
use Rattle.wb_scale.specs.Moment.{Moment, nothing, readings}
use Rattle.wb_scale.specs.Stands.{ScaleStands, ScaleStandsAt, ScaleTakes}
use Rattle.wb_scale.specs.State.{IsScale, State}
use Rattle.wb_scale.specs.Tare.{tare_now}
use Rattle.wb_scale.specs.Tracking.{is_quiet, step_at, step_to}
use Rattle.wb_scale.specs.Zero.{above_zero, last_load, load_of, zero_now}
use Rattle.wb_scale.proofs.Moments.{above_zero-taken, is_cleared-none, is_cleared-stored, is_cleared-taken, is_quiet-none, tare_now-new, tare_now-same, zero_now-step, readings-none, readings-taken}
use Rattle.wb_scale.proofs.Pauses.{Pauses-fresh, Pauses-taken, pause_from-le}
use Rattle.wb_scale.proofs.Windows.{AreReadings-take, is_stable-take, last_load-take, take_kept}

-- a scale takes a call where the state behind what it shows does
pub Takes-behind : (s old new : State) (call : Call) → s ≡ old → new.setup ≡ s.setup → ((h : List Call) → ScaleStands s h → ScaleStands new (call ∷ h)) → ScaleTakes old new call
Takes-behind s old new call same setup stands = subst (λ t. ScaleTakes t new call) same (record { setup = setup; stands = stands })

-- a window holds a reading at least
pub one_reading : (s : State) → IsScale s → 1 ≤ s.setup.window
one_reading s is = let b = is.setup.window in omega arith

-- what the window and the zero show is what all the moments say
pub stable-held : (s : State) (h : List Call) → IsScale s → ScaleStands s h → is_stable s.held.size s.held.band s.held.readings ≡ is_stable s.setup.window s.setup.band (readings (moments s.setup h))
stable-held s h is from = rw (is.size, is.band, from.now.held) (is_stable-take s.setup.window s.setup.band (readings (moments s.setup h)))

pub load-held : (s : State) (h : List Call) → IsScale s → ScaleStands s h → last_load s.held.readings ≡ last_load (readings (moments s.setup h))
load-held s h is from = rw from.now.held (last_load-take s.setup.window (readings (moments s.setup h)) (one_reading s is))

pub above-held : (s : State) (h : List Call) → IsScale s → ScaleStands s h → above (last_load s.held.readings) s.zero ≡ above_zero (moments s.setup h)
unfolding above_zero
above-held s h is from = rw (load-held s h is from, from.now.zero) refl

-- and the same where the window has taken one more reading
pub stable-seen : (s : State) (r : Reading) (h : List Call) → IsScale s → ScaleStands s h → is_stable s.held.size s.held.band (seen s r).held.readings ≡ is_stable s.setup.window s.setup.band (r ∷ readings (moments s.setup h))
stable-seen s r h is from =
    let n = s.setup.window in
    let rs = readings (moments s.setup h) in
    rw (is.size, is.band, from.now.held, take_kept n r rs) (is_stable-take n s.setup.band (r ∷ rs))

pub load-seen : (s : State) (r : Reading) → IsScale s → last_load (seen s r).held.readings ≡ load_of r
load-seen s r is = rw is.size (last_load-take s.setup.window (r ∷ s.held.readings) (one_reading s is))

-- what holds of every scale holds after a reading
pub IsScale-seen : (s : State) (r : Reading) → IsScale s → IsReading r → IsScale (seen s r)
IsScale-seen s r is k = record {
  setup = is.setup;
  size = is.size;
  band = is.band;
  readings = AreReadings-take s.held.size (r ∷ s.held.readings) (k, is.readings);
  zero = is.zero;
  pause = is.pause;
  tare = is.tare;
}

pub IsScale-moved : (s : State) (d : ℤ) → IsScale s → (neg_ℤ (pos (farthest_zero s.setup)) ≤ℤ (s.zero +ℤ d)) × ((s.zero +ℤ d) ≤ℤ pos (farthest_zero s.setup)) → IsScale (moved s d)
IsScale-moved s d is b = record {
  setup = is.setup;
  size = is.size;
  band = is.band;
  readings = is.readings;
  zero = b;
  pause = pause_from-le d s.pause (readings_a_step s.setup) is.pause;
  tare = is.tare;
}

swap_tests : (a b : Bool) (x y : ℤ) → cond (a && b) x y ≡ cond (b && a) x y
swap_tests true true x y = refl
swap_tests true false x y = refl
swap_tests false true x y = refl
swap_tests false false x y = refl

-- the step that a scale makes is the one that all the moments say
pub step-seen : (s : State) (r : Reading) (h : List Call) → IsScale s → ScaleStands s h
    → step_of (is_stable s.held.size s.held.band (seen s r).held.readings) s.pause (pos (farthest_zero s.setup)) s.zero (last_load (seen s r).held.readings) ≡ step_at s.setup r (moments s.setup h)
step-seen s r h is from =
    let i = s.setup in
    let ms = moments i h in
    let gap = readings_a_step i - 1 in
    let whole : gap - 0 ≡ gap = omega arith in
    let quiet : nat_le s.pause 0 ≡ is_quiet gap ms = from.now.pause 0 ∙ ap (λ k. is_quiet k ms) whole in
    rw (stable-seen s r h is from, quiet, load-seen s r is, from.now.zero)
    (swap_tests (is_quiet gap ms) (is_stable i.window i.band (r ∷ readings ms)) (step_to (pos (farthest_zero i)) (zero_now ms) (load_of r)) (pos 0))

-- a moment that takes a reading and stores nothing: whether the bridge is cleared
pub cleared-taken : (m : Moment) (ms : List Moment) (r : Reading) (cleared : Bool) → m.reading ≡ Some r → m.stored ≡ false → cleared ≡ is_cleared ms → cleared_from cleared (above (load_of r) (zero_now (m ∷ ms))) ≡ is_cleared (m ∷ ms)
cleared-taken m ms r cleared e f c = rw (is_cleared-taken m ms r e f, above_zero-taken m ms r e, c) refl

-- after a reading the scale stands after one more call
pub Stands-read : (s : State) (r : Reading) (h : List Call) → IsScale s → ScaleStands s h → ScaleStands (tracked (seen s r)) (read r ∷ h)
Stands-read s r h is from =
    let i = s.setup in
    let ms = moments i h in
    let m = moment_of_reading i r ms in
    let st = from.now in
    let same = step-seen s r h is from in
    let zero : s.zero +ℤ step_at i r ms ≡ zero_now (m ∷ ms) = rw st.zero (sym (zero_now-step m ms refl)) in
    record {
      now = record {
        held = rw (is.size, st.held) (take_kept i.window r (readings ms)) ∙ ap (take i.window) (sym (readings-taken m ms r refl));
        zero = rw same zero;
        pause = rw same (Pauses-taken (readings_a_step i) s.pause m ms r is.pause refl st.pause);
        tare = st.tare ∙ sym (tare_now-same m ms refl);
        cleared = rw (same, load-seen s r is, zero) (cleared-taken m ms r s.cleared refl refl st.cleared);
      };
    }

-- a call that takes no reading and leaves the zero
StandsAt-other : (i : Setup) (s : State) (m : Moment) (ms : List Moment) (tare : TareNow) (cleared : Bool) → m.reading ≡ None → m.zeroed ≡ None → m.step ≡ pos 0
    → tare ≡ tare_now (m ∷ ms) → cleared ≡ is_cleared (m ∷ ms) → ScaleStandsAt i s ms → ScaleStandsAt i (record s { tare = tare; cleared = cleared }) (m ∷ ms)
StandsAt-other i s m ms tare cleared r z d t c st = record {
  held = st.held ∙ ap (take i.window) (sym (readings-none m ms r));
  zero = st.zero ∙ (let e = zero_now-step m ms z in omega (arith, ints));
  pause = λ k. st.pause k ∙ sym (is_quiet-none (readings_a_step i - 1 - k) m ms r);
  tare = t;
  cleared = c;
}

-- a call of which nothing comes
pub Stands-kept : (s : State) (c : Call) (h : List Call) → moment_of_call s.setup c (moments s.setup h) ≡ nothing → ScaleStands s h → ScaleStands s (c ∷ h)
Stands-kept s c h e from =
    let ms = moments s.setup h in
    record {
      now = subst (λ (m : Moment). ScaleStandsAt s.setup s (m ∷ ms)) (sym e)
          (StandsAt-other s.setup s nothing ms s.tare s.cleared refl refl refl (from.now.tare ∙ sym (tare_now-same nothing ms refl)) (from.now.cleared ∙ sym (is_cleared-none nothing ms refl refl)) from.now);
    }

-- a call by which the tare becomes another
pub Stands-tare : (s : State) (c : Call) (h : List Call) (t : TareNow) → moment_of_call s.setup c (moments s.setup h) ≡ record nothing { tare = Some t } → ScaleStands s h → ScaleStands (record s { tare = t }) (c ∷ h)
Stands-tare s c h t e from =
    let ms = moments s.setup h in
    let m : Moment = record nothing { tare = Some t } in
    record {
      now = subst (λ (m : Moment). ScaleStandsAt s.setup (record s { tare = t }) (m ∷ ms)) (sym e)
          (StandsAt-other s.setup s m ms t s.cleared refl refl refl (sym (tare_now-new m ms t refl)) (from.now.cleared ∙ sym (is_cleared-none m ms refl refl)) from.now);
    }

-- a weighing is stored
pub Stands-stored : (s : State) (h : List Call) → ScaleStands s h → ScaleStands (record s { cleared = false }) (stored ∷ h)
Stands-stored s h from =
    let ms = moments s.setup h in
    let m : Moment = record nothing { stored = true } in
    record { now = StandsAt-other s.setup s m ms s.tare false refl refl refl (from.now.tare ∙ sym (tare_now-same m ms refl)) (sym (is_cleared-stored m ms refl)) from.now }

-- a fresh scale stands after no call
pub Stands-fresh : (s : State) → s.held.readings ≡ [] → s.zero ≡ pos 0 → s.pause ≡ 0 → s.tare ≡ Empty → s.cleared ≡ false → ScaleStands s []
unfolding readings zero_now tare_now is_cleared
Stands-fresh s r z p t c = record { now = record { held = r ∙ none s.setup.window; zero = z; pause = λ k. rw p (Pauses-fresh (readings_a_step s.setup - 1) k); tare = t; cleared = c } }
  where
    none : (n : ℕ) → [] ≡ take {A = Reading} n []
    none nought = refl
    none (suc n) = refl

-- what the code makes of its numbers is what zero tracking leaves
pub tracked-parts : (s : State) (zero : ℤ) (pause : ℕ) (cleared : Bool) (d : ℤ)
    → d ≡ step_of (is_stable s.held.size s.held.band s.held.readings) s.pause (pos (farthest_zero s.setup)) s.zero (last_load s.held.readings)
    → zero ≡ s.zero +ℤ d → pause ≡ pause_from d s.pause (readings_a_step s.setup) → cleared ≡ cleared_from s.cleared (above (last_load s.held.readings) zero)
    → record s { zero = zero; pause = pause; cleared = cleared } ≡ tracked s
tracked-parts s zero pause cleared d e z p c = rw (c, z, p, e) refl
