-- A law: a scale's answers are those of its history without the stored weighings.
use Rattle.std.specs.Prelude.{◌≡◌, ℕ, List, [], ◌∷◌}
use Rattle.wb_instrument.specs.Setup.{Setup}
use Rattle.wb_scale.specs.Call.{Call, read, read_for_zero, set_zero, tare, preset, clear_tare, stored}
use Rattle.wb_scale.specs.History.{moments}
use Rattle.wb_scale.specs.Indication.{indicated}
use Rattle.wb_scale.specs.Moment.{readings}
use Rattle.wb_scale.specs.Tare.{preset_answer, tare_answer, tare_now}

-- the calls of a history but its stored weighings
abbrev pub unmarked_calls : List Call → List Call
unmarked_calls [] = []
unmarked_calls (read r ∷ h) = read r ∷ unmarked_calls h
unmarked_calls (read_for_zero r ∷ h) = read_for_zero r ∷ unmarked_calls h
unmarked_calls (set_zero ∷ h) = set_zero ∷ unmarked_calls h
unmarked_calls (tare ∷ h) = tare ∷ unmarked_calls h
unmarked_calls (preset grams ∷ h) = preset grams ∷ unmarked_calls h
unmarked_calls (clear_tare ∷ h) = clear_tare ∷ unmarked_calls h
unmarked_calls (stored ∷ h) = unmarked_calls h

-- the readings, what is indicated, the tare in force, and the answers to taring and to a preset tare are the same without
-- the stored weighings
pub record SameUnmarked (s : Setup) (h : List Call) : Type 0 where
  pub readings : readings (moments s (unmarked_calls h)) ≡ readings (moments s h)
  pub indicated : indicated s (moments s (unmarked_calls h)) ≡ indicated s (moments s h)
  pub tare_now : tare_now (moments s (unmarked_calls h)) ≡ tare_now (moments s h)
  pub tare : tare_answer s (moments s (unmarked_calls h)) ≡ tare_answer s (moments s h)
  pub preset : (grams : ℕ) → preset_answer s (moments s (unmarked_calls h)) grams ≡ preset_answer s (moments s h) grams

-- in every history
abbrev pub AllSameUnmarked : Type 0
AllSameUnmarked = (s : Setup) (h : List Call) → SameUnmarked s h
