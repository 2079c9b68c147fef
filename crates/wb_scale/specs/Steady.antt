-- A law of stable equilibrium: what a stable indication says of the readings behind it.
use Rattle.std.specs.Prelude.{◌≡◌, true, All, List, length, take, ℤ, pos, ◌+ℤ◌, ◌-ℤ◌, ◌≤ℤ◌}
use Rattle.wb_instrument.specs.Rounding.{round}
use Rattle.wb_instrument.specs.Setup.{Setup, IsSetup}
use Rattle.wb_window.specs.declared.reading.Reading.{Reading}
use Rattle.wb_window.specs.declared.reading.Reading.TheVariants.{Load, Lost}
use Rattle.wb_scale.specs.declared.answers.Indicated.TheVariants.{Shown}
use Rattle.wb_scale.specs.Call.{Call}
use Rattle.wb_scale.specs.History.{moments}
use Rattle.wb_scale.specs.Indication.{indicated}
use Rattle.wb_scale.specs.Moment.{readings}
use Rattle.wb_scale.specs.Zero.{zero_now}

-- a reading is a load whose gross at this zero is at most 1 e from that gross
abbrev pub IsNear : ℤ → ℤ → Reading → Type 0
IsNear zero gross (Load load) = ((gross -ℤ pos 1) ≤ℤ round (load -ℤ zero)) × (round (load -ℤ zero) ≤ℤ (gross +ℤ pos 1))
IsNear zero gross Lost = ⊥

-- in every history, the readings behind a stable indication are N, and each of them would indicate, at the zero in force,
-- a gross at most 1 e from the indicated one
abbrev pub NearAll : Type 0
NearAll = (s : Setup) → IsSetup s → (h : List Call) (gross net : ℤ) → indicated s (moments s h) ≡ Shown gross net true
    → let behind = take s.window (readings (moments s h)) in
    (length behind ≡ s.window) × All (IsNear (zero_now (moments s h)) gross) behind
