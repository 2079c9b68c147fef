-- Stored weighings change nothing that a scale answers, but whether the bridge is cleared.
use Rattle.std.proofs.Common.{◌≡◌, true, List, [], ◌∷◌, Option, Some, None, refl, sym, ◌∙◌, ap, subst, ℤ, ◌+ℤ◌, arith}
use Rattle.std.proofs.lemmas.Int.{ints}
use Rattle.wb_instrument.specs.Setup.{Setup}
use Rattle.wb_window.specs.declared.reading.Reading.{Reading}
use Rattle.wb_scale.specs.declared.answers.TareNow.{TareNow}
use Rattle.wb_scale.specs.Call.{Call, read, read_for_zero, set_zero, tare, preset, clear_tare, stored}
use Rattle.wb_scale.specs.History.{moment_of_call, moments}
use Rattle.wb_scale.specs.Indication.{indicated}
use Rattle.wb_scale.specs.Moment.{Moment, nothing, readings}
use Rattle.wb_scale.specs.Tare.{tare_answer, tare_now}
use Rattle.wb_scale.specs.Tracking.{steps}
use Rattle.wb_scale.specs.Unmarked.{AllSameUnmarked, unmarked_calls}
use Rattle.wb_scale.specs.Zero.{above_zero, zero_now}
use Rattle.wb_scale.proofs.Moments.{steps-none, steps-taken, tare_now-new, tare_now-same, zero_now-set, zero_now-step, readings-none, readings-taken}

-- two lists of moments with the same readings, zero, tare and steps
record Alike (ms ns : List Moment) : Type 0 where
  readings : readings ms ≡ readings ns
  zero : zero_now ms ≡ zero_now ns
  tare : tare_now ms ≡ tare_now ns
  steps : steps ms ≡ steps ns

-- they stay so with the same moment on both
readings-both : (o : Option Reading) (m : Moment) (ms ns : List Moment) → m.reading ≡ o → readings ms ≡ readings ns → readings (m ∷ ms) ≡ readings (m ∷ ns)
readings-both None m ms ns p e = readings-none m ms p ∙ e ∙ sym (readings-none m ns p)
readings-both (Some r) m ms ns p e = readings-taken m ms r p ∙ ap (λ rs. r ∷ rs) e ∙ sym (readings-taken m ns r p)

steps-both : (o : Option Reading) (m : Moment) (ms ns : List Moment) → m.reading ≡ o → steps ms ≡ steps ns → steps (m ∷ ms) ≡ steps (m ∷ ns)
steps-both None m ms ns p e = steps-none m ms p ∙ e ∙ sym (steps-none m ns p)
steps-both (Some r) m ms ns p e = steps-taken m ms r p ∙ ap (λ ss. m.step ∷ ss) e ∙ sym (steps-taken m ns r p)

zero-both : (o : Option ℤ) (m : Moment) (ms ns : List Moment) → m.zeroed ≡ o → zero_now ms ≡ zero_now ns → zero_now (m ∷ ms) ≡ zero_now (m ∷ ns)
zero-both None m ms ns p e = zero_now-step m ms p ∙ ap (λ z. z +ℤ m.step) e ∙ sym (zero_now-step m ns p)
zero-both (Some v) m ms ns p e = zero_now-set m ms v p ∙ sym (zero_now-set m ns v p)

tare-both : (o : Option TareNow) (m : Moment) (ms ns : List Moment) → m.tare ≡ o → tare_now ms ≡ tare_now ns → tare_now (m ∷ ms) ≡ tare_now (m ∷ ns)
tare-both None m ms ns p e = tare_now-same m ms p ∙ e ∙ sym (tare_now-same m ns p)
tare-both (Some t) m ms ns p e = tare_now-new m ms t p ∙ sym (tare_now-new m ns t p)

Alike-both : (m : Moment) (ms ns : List Moment) → Alike ms ns → Alike (m ∷ ms) (m ∷ ns)
Alike-both m ms ns a = record {
  readings = readings-both m.reading m ms ns refl a.readings;
  zero = zero-both m.zeroed m ms ns refl a.zero;
  tare = tare-both m.tare m ms ns refl a.tare;
  steps = steps-both m.reading m ms ns refl a.steps;
}

-- and with a stored weighing on one
Alike-stored : (ms ns : List Moment) → Alike ms ns → Alike (record nothing { stored = true } ∷ ms) ns
Alike-stored ms ns a =
    let m : Moment = record nothing { stored = true } in
    let zero : zero_now (m ∷ ms) ≡ zero_now ms = zero_now-step m ms refl ∙ omega (arith, ints) in
    record {
      readings = readings-none m ms refl ∙ a.readings;
      zero = zero ∙ a.zero;
      tare = tare_now-same m ms refl ∙ a.tare;
      steps = steps-none m ms refl ∙ a.steps;
    }

-- the same comes of a call after both
moment-alike : (s : Setup) (c : Call) (ms ns : List Moment) → Alike ms ns → moment_of_call s c ms ≡ moment_of_call s c ns
unfolding above_zero
moment-alike s (read r) ms ns a = rw (a.readings, a.zero, a.steps) refl
moment-alike s (read_for_zero r) ms ns a = rw (a.readings, a.zero, a.steps) refl
moment-alike s set_zero ms ns a = rw a.readings refl
moment-alike s tare ms ns a = rw (a.readings, a.zero, a.tare) refl
moment-alike s (preset grams) ms ns a = rw a.tare refl
moment-alike s clear_tare ms ns a = refl
moment-alike s stored ms ns a = refl

Alike-call : (s : Setup) (c : Call) (ms ns : List Moment) → Alike ms ns → Alike (moment_of_call s c ms ∷ ms) (moment_of_call s c ns ∷ ns)
Alike-call s c ms ns a = subst (λ m. Alike (moment_of_call s c ms ∷ ms) (m ∷ ns)) (moment-alike s c ms ns a) (Alike-both (moment_of_call s c ms) ms ns a)

alike : (s : Setup) (h : List Call) → Alike (moments s h) (moments s (unmarked_calls h))
alike s [] = record { readings = refl; zero = refl; tare = refl; steps = refl }
alike s (read r ∷ h) = Alike-call s (read r) _ _ (alike s h)
alike s (read_for_zero r ∷ h) = Alike-call s (read_for_zero r) _ _ (alike s h)
alike s (set_zero ∷ h) = Alike-call s set_zero _ _ (alike s h)
alike s (tare ∷ h) = Alike-call s tare _ _ (alike s h)
alike s (preset grams ∷ h) = Alike-call s (preset grams) _ _ (alike s h)
alike s (clear_tare ∷ h) = Alike-call s clear_tare _ _ (alike s h)
alike s (stored ∷ h) = Alike-stored _ _ (alike s h)

indicated-alike : (s : Setup) (ms ns : List Moment) → Alike ms ns → indicated s ns ≡ indicated s ms
unfolding indicated above_zero
indicated-alike s ms ns a = rw (a.readings, a.zero, a.tare) refl

tare_answer-alike : (s : Setup) (ms ns : List Moment) → Alike ms ns → tare_answer s ns ≡ tare_answer s ms
unfolding above_zero
tare_answer-alike s ms ns a = rw (a.readings, a.zero, a.tare) refl

pub all_same : AllSameUnmarked
all_same s h =
    let a = alike s h in
    let ms = moments s h in
    let ns = moments s (unmarked_calls h) in
    record {
      readings = sym a.readings;
      indicated = indicated-alike s ms ns a;
      tare_now = sym a.tare;
      tare = tare_answer-alike s ms ns a;
      preset = λ grams. rw a.tare refl;
    }
