-- What a scale keeps, and what holds of every scale.
use Rattle.std.specs.Prelude.{◌≡◌, ℕ, ◌-◌, ◌≤◌, Bool, List, [], ◌∷◌, ℤ, pos, neg_ℤ, ◌≤ℤ◌}
use Rattle.wb_instrument.specs.Limits.{readings_a_step, farthest_zero}
use Rattle.wb_instrument.specs.Setup.{Setup, IsSetup}
use Rattle.wb_window.specs.Held.{Held}
use Rattle.wb_window.specs.Reading.{IsReading}
use Rattle.wb_window.specs.declared.reading.Reading.{Reading}
use Rattle.wb_scale.specs.declared.answers.TareNow.{TareNow}
use Rattle.wb_scale.specs.Tare.{IsTare}

pub record State : Type 0 where
  pub setup : Setup
  -- what its window of readings shows
  pub held : Held
  -- in tenths of e
  pub zero : ℤ
  -- the readings to come that make no step of zero tracking
  pub pause : ℕ
  pub tare : TareNow
  -- whether the bridge is cleared
  pub cleared : Bool

abbrev pub AreReadings : List Reading → Type 0
AreReadings [] = Unit {0}
AreReadings (r ∷ rs) = IsReading r × AreReadings rs

-- what holds of every scale
pub record IsScale (s : State) : Type 0 where
  pub setup : IsSetup s.setup
  pub size : s.held.size ≡ s.setup.window
  pub band : s.held.band ≡ s.setup.band
  pub readings : AreReadings s.held.readings
  -- the zero is within 2 % of Max on either side of the calibration zero
  pub zero : (neg_ℤ (pos (farthest_zero s.setup)) ≤ℤ s.zero) × (s.zero ≤ℤ pos (farthest_zero s.setup))
  pub pause : s.pause ≤ readings_a_step s.setup - 1
  pub tare : IsTare s.setup s.tare
