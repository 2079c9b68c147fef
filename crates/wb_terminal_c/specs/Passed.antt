-- The setup that C passed.
use Rattle.std.specs.List.{before_first}
use Rattle.std.specs.Prelude.{◌≡◌, ◌≤◌, ℕ, ◌==◌, List, [], if◌then◌else◌}
use Rattle.wb_instrument.specs.Serial.{is_serial_text}
use Rattle.wb_instrument.specs.Setup.{IsFirstFault, IsSetup, Setup}
use Rattle.wb_instrument.specs.declared.setup.PartFault.{PartFault}
use Rattle.wb_instrument.specs.declared.setup.PartFault.TheVariants.{Interval, Max, Window, Band, Pace, Wait, Serial, Retention, Capacity}
use Rattle.wb_terminal_c.specs.declared.setup.Setup.{Setup as Passed}

-- the characters before the first 0, if they are a serial; else none, which is no serial either
abbrev pub serial_passed : List ℕ → List ℕ
serial_passed text = let characters = before_first (λ b. b == 0) text in if is_serial_text characters then characters else []

-- the setup that was passed; the days and the places of a journal are not the terminal's
abbrev pub setup_passed : Passed → Setup
setup_passed p = record {
  interval_kg = p.interval_kg;
  max_kg = p.max_kg;
  window = p.window;
  band = p.band;
  pace = p.pace;
  wait = p.wait;
  serial = serial_passed p.serial;
  retention_days = 90;
  capacity = 1000;
}

-- the number of a part: its place in the order in which the parts are judged, from 1
abbrev pub part_number : PartFault → ℕ
part_number Interval = 1
part_number Max = 2
part_number Window = 3
part_number Band = 4
part_number Pace = 5
part_number Wait = 6
part_number Serial = 7
part_number Retention = 8
part_number Capacity = 9

-- the number of the first part of a setup that is outside its limits
pub record IsFault (s : Setup) (number : ℕ) : Type 0 where
  pub part : PartFault
  pub first : IsFirstFault s part
  pub numbered : number ≡ part_number part

-- the answer to a setup: 0 to one whose parts are all within their limits, else the number of the first that isn't
pub record Opens (s : Setup) (answer : ℕ) : Type 0 where
  pub accepted : answer ≡ 0 → IsSetup s
  pub refused : 1 ≤ answer → IsFault s answer
