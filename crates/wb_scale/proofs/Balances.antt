-- Taring, presets and what is indicated.
use Rattle.std.proofs.Common.{◌≡◌, ℕ, ◌+◌, ◌*◌, Bool, true, false, cond, List, Option, Some, None, option_map, ◌↔◌, refl, sym, ◌∙◌, ap, ℤ, pos, ◌-ℤ◌, ◌≤ℤ◌, neg_ℤ, arith}
use Rattle.std.specs.Prelude.{int_lt}
use Rattle.std.proofs.lemmas.Int.{ints}
use Rattle.wb_instrument.proofs.offered.Rounding.{IsRounded-round}
use Rattle.wb_instrument.specs.Preset.{IsPreset, preset}
use Rattle.wb_instrument.specs.Rounding.{round}
use Rattle.wb_instrument.specs.Setup.{Setup, intervals_in_max}
use Rattle.wb_window.specs.Stability.{is_stable}
use Rattle.wb_scale.specs.declared.answers.Indicated.TheVariants.{Over, Shown, Under}
use Rattle.wb_scale.specs.declared.answers.TareAnswer.{TareAnswer}
use Rattle.wb_scale.specs.declared.answers.TareAnswer.TheVariants.{Done}
use Rattle.wb_scale.specs.declared.answers.TareNow.{TareNow}
use Rattle.wb_scale.specs.declared.answers.TareNow.TheVariants.{Empty, Weighed, Preset}
use Rattle.wb_scale.specs.helpers.After.{above, balance_answer}
use Rattle.wb_scale.specs.Call.{Call}
use Rattle.wb_scale.specs.History.{moments}
use Rattle.wb_scale.specs.Indication.{IsIndicationInRange, indicated, indicated_at, weights_unless_outside}
use Rattle.wb_scale.specs.Stands.{ScaleStands}
use Rattle.wb_scale.specs.State.{IsScale, State}
use Rattle.wb_scale.specs.Tare.{IsTare, given, is_tared, is_weighed, tare_answer, tare_now, tare_tenths, weighed}
use Rattle.wb_scale.specs.Zero.{last_load}
use Rattle.wb_scale.proofs.Standing.{above-held, stable-held}

-- the answer of a scale is that of all its moments
pub balance_answer-held : (s : State) (h : List Call) → IsScale s → ScaleStands s h → balance_answer s ≡ tare_answer s.setup (moments s.setup h)
balance_answer-held s h is from = rw (stable-held s h is from, above-held s h is from, from.now.tare) refl

-- what the tare becomes
pub weighed-held : (s : State) (h : List Call) (tenths kg : ℤ) → IsScale s → ScaleStands s h → above (last_load s.held.readings) s.zero ≡ Some tenths → balance_answer s ≡ Done kg → weighed s.setup (moments s.setup h) ≡ Some (Weighed tenths)
weighed-held s h tenths kg is from a b = rw (sym (balance_answer-held s h is from) ∙ b, sym (above-held s h is from) ∙ a) refl

pub weighed-refused : (s : State) (h : List Call) (answer : TareAnswer) → IsScale s → ScaleStands s h → balance_answer s ≡ answer → is_tared answer ≡ false → weighed s.setup (moments s.setup h) ≡ None
weighed-refused s h answer is from b n = rw (sym (balance_answer-held s h is from) ∙ b, n) refl

-- a preset tare is 1 to n intervals
pub preset-range : (s : Setup) (grams : ℕ) (o : Option ℤ) (whole : ℤ) → o ≡ option_map pos (preset s grams) → ((m : ℕ) → (o ≡ Some (pos m)) ↔ IsPreset s grams m) → o ≡ Some whole → (pos 1 ≤ℤ whole) × (whole ≤ℤ pos (intervals_in_max s))
preset-range s grams o whole e is w = go (preset s grams) refl
  where
    go : (p : Option ℕ) → preset s grams ≡ p → (pos 1 ≤ℤ whole) × (whole ≤ℤ pos (intervals_in_max s))
    go None q = absurd (cc (rw q at e))
    go (Some m) q =
        let some : o ≡ Some (pos m) = rw q at e in
        let same : whole ≡ pos m = cc in
        let range = (is m).0 some in
        let low = range.positive in
        let high = range.within_max in
        (omega (arith, ints), omega (arith, ints))

-- what the tare becomes by it
pub given-held : (s : State) (h : List Call) (grams : ℕ) (o : Option ℤ) (whole : ℤ) → ScaleStands s h → o ≡ option_map pos (preset s.setup grams) → o ≡ Some whole → is_weighed s.tare ≡ false → given s.setup (moments s.setup h) grams ≡ Some (Preset whole)
given-held s h grams o whole from e w n =
    let not : is_weighed (tare_now (moments s.setup h)) ≡ false = ap is_weighed (sym from.now.tare) ∙ n in
    rw not (go (preset s.setup grams) refl)
  where
    go : (p : Option ℕ) → preset s.setup grams ≡ p → option_map (λ m. Preset (pos m)) p ≡ Some (Preset whole)
    go None q = absurd (cc (rw q at e))
    go (Some m) q =
        let some : o ≡ Some (pos m) = rw q at e in
        let same : pos m ≡ whole = cc in
        ap (λ x. Some (Preset x)) same

pub given-refused : (s : State) (h : List Call) (grams : ℕ) (o : Option ℤ) → ScaleStands s h → o ≡ option_map pos (preset s.setup grams) → cond (is_weighed s.tare) None o ≡ None → given s.setup (moments s.setup h) grams ≡ None
given-refused s h grams o from e n = rw (← from.now.tare) (go (is_weighed s.tare) (preset s.setup grams) (rw e at n))
  where
    go : (b : Bool) (p : Option ℕ) → cond b None (option_map pos p) ≡ None → cond b None (option_map (λ m. Preset (pos m)) p) ≡ None
    go true p e = refl
    go false None e = refl
    go false (Some m) e = absurd (cc)

-- what the window, the zero and the tare show is what is indicated after the history
pub indicated-held : (s : State) (h : List Call) → IsScale s → ScaleStands s h → indicated_at s.setup (is_stable s.held.size s.held.band s.held.readings) s.tare (above (last_load s.held.readings) s.zero) ≡ indicated s.setup (moments s.setup h)
unfolding indicated
indicated-held s h is from = rw (stable-held s h is from, above-held s h is from, from.now.tare) refl

not_above : (a b : ℤ) → int_lt a b ≡ false → b ≤ℤ a
not_above a b e = grind (arith, ints)

tare_range : (s : Setup) (tare : TareNow) → IsTare s tare → (pos 0 ≤ℤ tare_tenths tare) × (tare_tenths tare ≤ℤ pos (10 * intervals_in_max s))
tare_range s Empty is = (omega (arith, ints), omega (arith, ints))
tare_range s (Weighed tenths) is = (omega (arith, ints, is.0), omega (arith, ints, is.1))
tare_range s (Preset whole) is = (omega (arith, ints, is.0), omega (arith, ints, is.1))

shown_range : (s : Setup) (stable : Bool) (gross net : ℤ) → neg_ℤ (pos (intervals_in_max s)) ≤ℤ (net -ℤ gross) → net ≤ℤ gross → IsIndicationInRange s (weights_unless_outside s stable gross net)
shown_range s stable gross net low high = go (int_lt (pos (intervals_in_max s + 9)) gross) (int_lt gross (neg_ℤ (pos 20))) refl refl
  where
    go : (a b : Bool) → int_lt (pos (intervals_in_max s + 9)) gross ≡ a → int_lt gross (neg_ℤ (pos 20)) ≡ b
        → IsIndicationInRange s (cond a Over (cond b Under (Shown gross net stable)))
    go true b p q = tt
    go false true p q = tt
    go false false p q =
        let most : gross ≤ℤ pos (intervals_in_max s + 9) = not_above (pos (intervals_in_max s + 9)) gross p in
        let least : neg_ℤ (pos 20) ≤ℤ gross = not_above gross (neg_ℤ (pos 20)) q in
        (least, most, omega (arith, ints), omega (arith, ints))

-- what is shown is in range
pub IsInRange-indicated_at : (s : Setup) (stable : Bool) (tare : TareNow) (tenths : Option ℤ) → IsTare s tare → IsIndicationInRange s (indicated_at s stable tare tenths)
IsInRange-indicated_at s stable tare None is = tt
IsInRange-indicated_at s stable tare (Some tenths) is =
    let t = tare_range s tare is in
    let gross = IsRounded-round tenths in
    let net = IsRounded-round (tenths -ℤ tare_tenths tare) in
    shown_range s stable (round tenths) (round (tenths -ℤ tare_tenths tare)) (omega (arith, ints)) (omega (arith, ints))
