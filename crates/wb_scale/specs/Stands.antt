-- A scale stands after a history.
use Rattle.std.specs.Prelude.{◌≡◌, ℕ, ◌-◌, nat_le, List, [], ◌∷◌, ◌++◌, take}
use Rattle.wb_instrument.specs.Limits.{readings_a_step}
use Rattle.wb_instrument.specs.Setup.{Setup}
use Rattle.wb_scale.specs.Call.{Call}
use Rattle.wb_scale.specs.Cleared.{is_cleared}
use Rattle.wb_scale.specs.History.{moments}
use Rattle.wb_scale.specs.Moment.{Moment, readings}
use Rattle.wb_scale.specs.State.{State}
use Rattle.wb_scale.specs.Tare.{tare_now}
use Rattle.wb_scale.specs.Tracking.{is_quiet}
use Rattle.wb_scale.specs.Zero.{zero_now}

-- what a scale keeps is what the definitions say of these moments
pub record ScaleStandsAt (i : Setup) (s : State) (ms : List Moment) : Type 0 where
  pub held : s.held.readings ≡ take i.window (readings ms)
  pub zero : s.zero ≡ zero_now ms
  -- after k more readings the pause is over exactly if none of the readings so far that still count by then made a step
  pub pause : (k : ℕ) → nat_le s.pause k ≡ is_quiet (readings_a_step i - 1 - k) ms
  pub tare : s.tare ≡ tare_now ms
  pub cleared : s.cleared ≡ is_cleared ms

-- the scale stands after the history
pub record ScaleStands (s : State) (h : List Call) : Type 0 where
  pub now : ScaleStandsAt s.setup s (moments s.setup h)

-- the scale takes calls, the newest first: after whatever history it stood, it stands after that history with the calls
pub record ScaleTakesAll (old new : State) (calls : List Call) : Type 0 where
  pub setup : new.setup ≡ old.setup
  pub stands : (h : List Call) → ScaleStands old h → ScaleStands new (calls ++ h)

-- the scale takes a call
abbrev pub ScaleTakes : State → State → Call → Type 0
ScaleTakes old new call = ScaleTakesAll old new (call ∷ [])
