-- What a reading and zero setting leave of what a scale keeps.
use Rattle.std.specs.Prelude.{◌≡◌, ◌∷◌, ℕ, ◌-◌, Bool, false, ◌&&◌, ◌||◌, if◌then◌else◌, nat_le, Option, Some, option_map, take, ℤ, pos, neg_ℤ, ◌+ℤ◌, ◌-ℤ◌, ◌≤ℤ◌}
use Rattle.std.specs.Ordering.{int_eq}
use Rattle.wb_instrument.specs.Limits.{readings_a_step, farthest_zero}
use Rattle.wb_instrument.specs.Rounding.{round}
use Rattle.wb_window.specs.declared.reading.Reading.{Reading}
use Rattle.wb_window.specs.Stability.{is_stable}
use Rattle.wb_scale.specs.declared.answers.TareAnswer.{TareAnswer}
use Rattle.wb_scale.specs.declared.answers.ZeroAnswer.{ZeroAnswer}
use Rattle.wb_scale.specs.declared.answers.ZeroAnswer.TheVariants.{Done}
use Rattle.wb_scale.specs.Cleared.{has_below_min}
use Rattle.wb_scale.specs.State.{State}
use Rattle.wb_scale.specs.Tare.{tare_answer_of}
use Rattle.wb_scale.specs.Tracking.{step_to}
use Rattle.wb_scale.specs.Zero.{is_done, last_load, zero_answer_of}

-- the window has taken the reading
abbrev pub seen : State → Reading → State
seen s r = record s { held = record s.held { readings = take s.held.size (r ∷ s.held.readings) } }

-- a load above a zero, in tenths of e
abbrev pub above : Option ℤ → ℤ → Option ℤ
above load zero = option_map (λ tenths. tenths -ℤ zero) load

-- the pause after a reading that made this step
abbrev pub pause_from : ℤ → ℕ → ℕ → ℕ
pause_from step pause gap = if int_eq step (pos 0) then pause - 1 else gap - 1

-- the step of zero tracking, unless in a pause or not stable
abbrev pub step_of : Bool → ℕ → ℤ → ℤ → Option ℤ → ℤ
step_of stable pause limit zero load = if nat_le pause 0 && stable then step_to limit zero load else pos 0

-- the bridge is cleared by a gross below Min, or was before
abbrev pub cleared_from : Bool → Option ℤ → Bool
cleared_from cleared tenths = has_below_min (option_map round tenths) || cleared

-- zero tracking has made this step at the load that the window has taken
abbrev pub moved : State → ℤ → State
moved s step = record s {
  zero = s.zero +ℤ step;
  pause = pause_from step s.pause (readings_a_step s.setup);
  cleared = cleared_from s.cleared (above (last_load s.held.readings) (s.zero +ℤ step));
}

-- and this step is the one that it makes
abbrev pub tracked : State → State
tracked s = moved s (step_of (is_stable s.held.size s.held.band s.held.readings) s.pause (pos (farthest_zero s.setup)) s.zero (last_load s.held.readings))

-- the answer to setting the zero
abbrev pub target_answer : State → ZeroAnswer
target_answer s = zero_answer_of (is_stable s.held.size s.held.band s.held.readings) (pos (farthest_zero s.setup)) (last_load s.held.readings)

-- the zero may be set to the last load
pub record IsTarget (s : State) (load : ℤ) : Type 0 where
  pub last : last_load s.held.readings ≡ Some load
  pub done : target_answer s ≡ Done
  pub within : (neg_ℤ (pos (farthest_zero s.setup)) ≤ℤ load) × (load ≤ℤ pos (farthest_zero s.setup))

-- it may not
pub record IsRefused (s : State) (answer : ZeroAnswer) : Type 0 where
  pub is : target_answer s ≡ answer
  pub not_done : is_done answer ≡ false

-- the answer to taring
abbrev pub balance_answer : State → TareAnswer
balance_answer s = tare_answer_of s.setup (is_stable s.held.size s.held.band s.held.readings) s.tare (above (last_load s.held.readings) s.zero)
