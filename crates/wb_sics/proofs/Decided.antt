-- The replies that the scale decides at a reading and at the end of a line, and when it does.
use Rattle.std.proofs.Common.{◌≡◌, ℕ, suc, zero as nought, ◌≤◌, Bool, true, false, cond, ◌&&◌, List, [], ◌∷◌, length, refl, sym, ◌∙◌, ap, arith, Option, Some, ℤ, pos, neg_ℤ, ◌-ℤ◌, ◌*ℤ◌, ◌*◌}
use Rattle.std.specs.Prelude.{nat_le, is_some, int_lt, int_le}
use Rattle.std.proofs.lemmas.Bool.Decides.{nat_tests}
use Rattle.wb_instrument.specs.Limits.{farthest_zero}
use Rattle.wb_instrument.specs.Setup.{Setup, intervals_in_max}
use Rattle.wb_window.specs.declared.reading.Reading.{Reading}
use Rattle.wb_window.specs.declared.reading.Reading.TheVariants.{Load, Lost}
use Rattle.wb_window.specs.Stability.{is_stable}
use Rattle.wb_instrument.specs.Rounding.{round}
use Rattle.wb_scale.specs.declared.answers.TareAnswer.TheVariants.{Done as TareDone, PresetInUse, Above as TareAboveMax, Below as TareBelowZero}
use Rattle.wb_scale.specs.declared.answers.ZeroAnswer.TheVariants.{Done, Above, Below}
use Rattle.wb_scale.specs.Call.{Call, read}
use Rattle.wb_scale.specs.History.{moments}
use Rattle.wb_scale.specs.Moment.{Moment, readings}
use Rattle.wb_scale.specs.Tare.{is_preset, tare_answer, tare_answer_at, tare_now}
use Rattle.wb_scale.specs.Zero.{above_zero, last_load, zero_answer, zero_answer_at, zero_now}
use Rattle.wb_scale.proofs.offered.Readings.{readings-read}
use Rattle.wb_sics.specs.Answers.{reply_to_tare, reply_to_zero, reply_to_weight}
use Rattle.wb_sics.specs.Calls.{calls}
use Rattle.wb_sics.specs.Event.{TerminalEvent, reading, readings_of}
use Rattle.wb_sics.specs.Waiting.{stable_at}
use Rattle.wb_scale.specs.declared.answers.Indicated.{Indicated}
use Rattle.wb_scale.specs.declared.answers.TareAnswer.{TareAnswer}
use Rattle.wb_scale.specs.Indication.{indicated}
use Rattle.wb_sics.specs.declared.reply.Reply.{Reply}
use Rattle.wb_sics.specs.declared.waiting.Awaited.TheVariants.{Weight, Zero, Tare}
use Rattle.wb_sics.specs.Replies.{decided}
use Rattle.wb_scale.specs.declared.answers.ZeroAnswer.{ZeroAnswer}
use Rattle.wb_sics.proofs.CallReadings.{readings-calls}

-- the replies that the code's calls decide
pub weight-decided : (i j inst : Setup) (k : List Call) (r : Reading) (x : Indicated) (answer : Option Reply) → answer ≡ reply_to_weight inst x → inst ≡ j → j ≡ i
    → x ≡ indicated j (moments j (read r ∷ k)) → answer ≡ decided i (moments i (read r ∷ k)) Weight
weight-decided i j inst k r x answer a e f g =
    a ∙ ap (λ s. reply_to_weight s x) (e ∙ f) ∙ ap (reply_to_weight i) (g ∙ ap (λ s. indicated s (moments s (read r ∷ k))) f)

pub zero-decided : (i : Setup) (k : List Call) (r : Reading) (x : ZeroAnswer) (answer : Option Reply) → answer ≡ reply_to_zero x
    → x ≡ zero_answer i (r ∷ readings (moments i k)) → answer ≡ decided i (moments i (read r ∷ k)) Zero
zero-decided i k r x answer a g = a ∙ ap reply_to_zero (g ∙ ap (zero_answer i) (sym (readings-read i r k)))

pub tare-decided : (i j : Setup) (k : List Call) (r : Reading) (x : TareAnswer) (answer : Option Reply) → answer ≡ reply_to_tare x → j ≡ i
    → x ≡ tare_answer j (moments j (read r ∷ k)) → answer ≡ decided i (moments i (read r ∷ k)) Tare
tare-decided i j k r x answer a f g = a ∙ ap reply_to_tare (g ∙ ap (λ s. tare_answer s (moments s (read r ∷ k))) f)

and_false : (b : Bool) → (b && false) ≡ false
and_false true = refl
and_false false = refl

-- what is stable ends with a load
stable-load : (n band : ℕ) (rs : List Reading) → 1 ≤ n → is_stable n band rs ≡ true → (load : ℤ) × (last_load rs ≡ Some load)
stable-load nought band rs l e = absurd (omega arith)
stable-load (suc n) band [] l e = let f : nat_le (suc n) 0 ≡ false = grind (arith, nat_tests) in absurd (cc (rw f at e))
stable-load (suc n) band (Load v ∷ rs) l e = (v, refl)
stable-load (suc n) band (Lost ∷ rs) l e = let f = and_false (nat_le (suc n) (length (Lost ∷ rs))) in absurd (cc)

zero_decided : (limit load : ℤ) → is_some (reply_to_zero (zero_answer_at limit (Some load))) ≡ true
zero_decided limit load = go (int_lt limit load) (int_lt load (neg_ℤ limit))
  where
    go : (a b : Bool) → is_some (reply_to_zero (cond a Above (cond b Below Done))) ≡ true
    go true b = refl
    go false true = refl
    go false false = refl

-- zero setting is decided exactly where the scale is stable
zero_reply-stable : (i : Setup) (rs : List Reading) → 1 ≤ i.window → is_some (reply_to_zero (zero_answer i rs)) ≡ is_stable i.window i.band rs
zero_reply-stable i rs l = go (is_stable i.window i.band rs) refl
  where
    go : (t : Bool) → is_stable i.window i.band rs ≡ t → is_some (reply_to_zero (zero_answer i rs)) ≡ t
    go true e = let load = stable-load i.window i.band rs l e in rw (e, load.1) (zero_decided (pos (farthest_zero i)) load.0)
    go false e = rw e refl

tare_decided : (i : Setup) (tenths : ℤ) → is_some (reply_to_tare (tare_answer_at i (Some tenths))) ≡ true
tare_decided i tenths = go (int_lt (pos (10 * intervals_in_max i)) tenths) (int_le (round tenths) (pos 0)) (pos i.interval_kg *ℤ round tenths)
  where
    go : (a b : Bool) (kg : ℤ) → is_some (reply_to_tare (cond a TareAboveMax (cond b TareBelowZero (TareDone kg)))) ≡ true
    go true b kg = refl
    go false true kg = refl
    go false false kg = refl

tare_decided-preset : (i : Setup) (p : Bool) (tenths : Option ℤ) (x : ℤ) → tenths ≡ Some x → is_some (reply_to_tare (cond p PresetInUse (tare_answer_at i tenths))) ≡ true
tare_decided-preset i true tenths x e = refl
tare_decided-preset i false tenths x e = rw e (tare_decided i x)

above_zero-some : (ms : List Moment) (load : ℤ) → last_load (readings ms) ≡ Some load → (x : ℤ) × (above_zero ms ≡ Some x)
unfolding above_zero
above_zero-some ms load e = (load -ℤ zero_now ms, rw e refl)

-- tare balancing is decided exactly where the scale is stable
tare_reply-stable : (i : Setup) (ms : List Moment) → 1 ≤ i.window → is_some (reply_to_tare (tare_answer i ms)) ≡ is_stable i.window i.band (readings ms)
tare_reply-stable i ms l = go (is_stable i.window i.band (readings ms)) refl
  where
    go : (t : Bool) → is_stable i.window i.band (readings ms) ≡ t → is_some (reply_to_tare (tare_answer i ms)) ≡ t
    go true e =
        let load = stable-load i.window i.band (readings ms) l e in
        let above = above_zero-some ms load.0 load.1 in
        rw e (tare_decided-preset i (is_preset (tare_now ms)) (above_zero ms) above.0 above.1)
    go false e = rw e refl

-- at a reading, and at the end of a line
readings-here : (i : Setup) (r : Reading) (h : List TerminalEvent) → readings (moments i (read r ∷ calls i h)) ≡ readings_of (reading r ∷ h)
readings-here i r h = readings-read i r (calls i h) ∙ ap (λ rs. r ∷ rs) (readings-calls i h)

pub zero-read : (i : Setup) (r : Reading) (h : List TerminalEvent) → 1 ≤ i.window → is_some (decided i (moments i (read r ∷ calls i h)) Zero) ≡ stable_at i (reading r ∷ h)
zero-read i r h l = zero_reply-stable i (readings (moments i (read r ∷ calls i h))) l ∙ ap (is_stable i.window i.band) (readings-here i r h)

pub tare-read : (i : Setup) (r : Reading) (h : List TerminalEvent) → 1 ≤ i.window → is_some (decided i (moments i (read r ∷ calls i h)) Tare) ≡ stable_at i (reading r ∷ h)
tare-read i r h l = tare_reply-stable i (moments i (read r ∷ calls i h)) l ∙ ap (is_stable i.window i.band) (readings-here i r h)

pub zero-line : (i : Setup) (h : List TerminalEvent) → 1 ≤ i.window → is_some (decided i (moments i (calls i h)) Zero) ≡ stable_at i h
zero-line i h l = zero_reply-stable i (readings (moments i (calls i h))) l ∙ ap (is_stable i.window i.band) (readings-calls i h)

pub tare-line : (i : Setup) (h : List TerminalEvent) → 1 ≤ i.window → is_some (decided i (moments i (calls i h)) Tare) ≡ stable_at i h
tare-line i h l = tare_reply-stable i (moments i (calls i h)) l ∙ ap (is_stable i.window i.band) (readings-calls i h)
