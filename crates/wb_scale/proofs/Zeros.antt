-- Zero setting.
use Rattle.std.proofs.Common.{◌≡◌, ◌-◌, Bool, true, false, cond, List, ◌∷◌, take, Some, refl, sym, ◌∙◌, ap, subst, ℤ, pos, ◌-ℤ◌, arith}
use Rattle.std.specs.Prelude.{◌||◌, int_lt}
use Rattle.std.proofs.lemmas.Int.{ints}
use Rattle.wb_instrument.specs.Limits.{readings_a_step}
use Rattle.wb_instrument.specs.Rounding.{round}
use Rattle.wb_window.specs.declared.reading.Reading.{Reading}
use Rattle.wb_scale.specs.declared.answers.TareNow.TheVariants.{Empty}
use Rattle.wb_scale.specs.declared.answers.ZeroAnswer.{ZeroAnswer}
use Rattle.wb_scale.specs.helpers.After.{IsRefused, IsTarget, pause_from, seen, target_answer, tracked}
use Rattle.wb_scale.specs.Call.{Call, read, read_for_zero, set_zero}
use Rattle.wb_scale.specs.Cleared.{is_cleared}
use Rattle.wb_scale.specs.History.{moment_of_reading, moments}
use Rattle.wb_scale.specs.Moment.{Moment, nothing, readings}
use Rattle.wb_scale.specs.Stands.{ScaleStands, ScaleStandsAt}
use Rattle.wb_scale.specs.State.{IsScale, State}
use Rattle.wb_scale.specs.Zero.{is_done, last_load, load_of, zero_answer}
use Rattle.wb_scale.proofs.Moments.{is_cleared-none, is_cleared-taken, is_quiet-none, above_zero-taken, tare_now-new, zero_now-set, readings-none, readings-taken}
use Rattle.wb_scale.proofs.Pauses.{Pauses-taken, pause_from-le}
use Rattle.wb_scale.proofs.Standing.{Stands-kept, load-held, load-seen, stable-held, stable-seen}
use Rattle.wb_scale.proofs.Windows.{take_kept}

-- the answer of a scale is that of all its readings
pub target_answer-held : (s : State) (h : List Call) → IsScale s → ScaleStands s h → target_answer s ≡ zero_answer s.setup (readings (moments s.setup h))
target_answer-held s h is from = rw (stable-held s h is from, load-held s h is from) refl

pub target_answer-seen : (s : State) (r : Reading) (h : List Call) → IsScale s → ScaleStands s h → target_answer (seen s r) ≡ zero_answer s.setup (r ∷ readings (moments s.setup h))
target_answer-seen s r h is from = rw (stable-seen s r h is from, load-seen s r is) refl

-- at the zero the gross is 0
cleared-at : (load : ℤ) (b : Bool) → (int_lt (round (load -ℤ load)) (pos 20) || b) ≡ true
unfolding round
cleared-at load b = let e : load -ℤ load ≡ pos 0 = omega (arith, ints) in rw e refl

-- the zero is set to the last load
pub Stands-zeroed : (s : State) (load : ℤ) (h : List Call) → IsScale s → IsTarget s load → ScaleStands s h → ScaleStands (record s { zero = load; tare = Empty }) (set_zero ∷ h)
Stands-zeroed s load h is target from =
    let i = s.setup in
    let ms = moments i h in
    let st = from.now in
    let m : Moment = record nothing { zeroed = last_load (readings ms); tare = Some Empty } in
    let done : is_done (zero_answer i (readings ms)) ≡ true = ap is_done (sym (target_answer-held s h is from) ∙ target.done) in
    let last : last_load (readings ms) ≡ Some load = sym (load-held s h is from) ∙ target.last in
    record {
      now = subst (λ (b : Bool). ScaleStandsAt i (record s { zero = load; tare = Empty }) (cond b m nothing ∷ ms)) (sym done)
          (record {
            held = st.held ∙ ap (take i.window) (sym (readings-none m ms refl));
            zero = sym (zero_now-set m ms load last);
            pause = λ k. st.pause k ∙ sym (is_quiet-none (readings_a_step i - 1 - k) m ms refl);
            tare = sym (tare_now-new m ms Empty refl);
            cleared = st.cleared ∙ sym (is_cleared-none m ms refl refl);
          });
    }

-- it may not be
pub Stands-not_zeroed : (s : State) (answer : ZeroAnswer) (h : List Call) → IsScale s → IsRefused s answer → ScaleStands s h → ScaleStands s (set_zero ∷ h)
Stands-not_zeroed s answer h is refused from =
    let i = s.setup in
    let ms = moments i h in
    let m : Moment = record nothing { zeroed = last_load (readings ms); tare = Some Empty } in
    let not : is_done (zero_answer i (readings ms)) ≡ false = ap is_done (sym (target_answer-held s h is from) ∙ refused.is) ∙ refused.not_done in
    Stands-kept s set_zero h (ap (λ b. cond b m nothing) not) from

-- where the zero isn't set, a reading is as any other
pub Stands-read_only : (s : State) (r : Reading) (answer : ZeroAnswer) (h : List Call) → IsScale s → IsRefused (seen s r) answer → ScaleStands s h → ScaleStands (tracked (seen s r)) (read r ∷ h) → ScaleStands (tracked (seen s r)) (read_for_zero r ∷ h)
Stands-read_only s r answer h is refused from to =
    let i = s.setup in
    let ms = moments i h in
    let m : Moment = record nothing { reading = Some r; zeroed = load_of r; tare = Some Empty } in
    let not : is_done (zero_answer i (r ∷ readings ms)) ≡ false = ap is_done (sym (target_answer-seen s r h is from) ∙ refused.is) ∙ refused.not_done in
    record { now = subst (λ (b : Bool). ScaleStandsAt i (tracked (seen s r)) (cond b m (moment_of_reading i r ms) ∷ ms)) (sym not) to.now }

-- where it is set, zero tracking makes no step, and the bridge is cleared
pub Stands-read_zeroed : (s : State) (r : Reading) (load : ℤ) (h : List Call) → IsScale s → IsTarget (seen s r) load → ScaleStands s h
    → ScaleStands (record (seen s r) { zero = load; pause = pause_from (pos 0) s.pause (readings_a_step s.setup); tare = Empty; cleared = true }) (read_for_zero r ∷ h)
Stands-read_zeroed s r load h is target from =
    let i = s.setup in
    let ms = moments i h in
    let st = from.now in
    let m : Moment = record nothing { reading = Some r; zeroed = load_of r; tare = Some Empty } in
    let done : is_done (zero_answer i (r ∷ readings ms)) ≡ true = ap is_done (sym (target_answer-seen s r h is from) ∙ target.done) in
    let last : load_of r ≡ Some load = sym (load-seen s r is) ∙ target.last in
    let new : State = record (seen s r) { zero = load; pause = pause_from (pos 0) s.pause (readings_a_step i); tare = Empty; cleared = true } in
    record {
      now = subst (λ (b : Bool). ScaleStandsAt i new (cond b m (moment_of_reading i r ms) ∷ ms)) (sym done)
          (record {
            held = rw (is.size, st.held) (take_kept i.window r (readings ms)) ∙ ap (take i.window) (sym (readings-taken m ms r refl));
            zero = sym (zero_now-set m ms load last);
            pause = Pauses-taken (readings_a_step i) s.pause m ms r is.pause refl st.pause;
            tare = sym (tare_now-new m ms Empty refl);
            cleared = sym (is_cleared-taken m ms r refl refl ∙ rw (above_zero-taken m ms r refl, zero_now-set m ms load last, last) (cleared-at load (is_cleared ms)));
          });
    }

-- what holds of every scale holds where the zero is set
pub IsScale-zeroed : (s : State) (load : ℤ) (cleared : Bool) → IsScale s → IsTarget s load → IsScale (record s { zero = load; pause = pause_from (pos 0) s.pause (readings_a_step s.setup); tare = Empty; cleared = cleared })
IsScale-zeroed s load cleared is target = record {
  setup = is.setup;
  size = is.size;
  band = is.band;
  readings = is.readings;
  zero = target.within;
  pause = pause_from-le (pos 0) s.pause (readings_a_step s.setup) is.pause;
  tare = tt;
}
