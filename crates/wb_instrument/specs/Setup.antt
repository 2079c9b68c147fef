-- The setup of an instrument (class III, OIML R 76-1:2006, 3.2; the last seven parts are this project's own).
use Rattle.std.specs.Prelude.{◌≡◌, ℕ, ◌≤◌, ◌/◌, ◌%◌, true, List, [], ◌∷◌, All, Some, slice_get, take}
use Rattle.wb_instrument.specs.declared.setup.Parts.{Parts}
use Rattle.wb_instrument.specs.declared.setup.PartFault.{PartFault}
use Rattle.wb_instrument.specs.declared.setup.PartFault.TheVariants.{Interval, Max, Window, Band, Pace, Wait, Serial, Retention, Capacity}
use Rattle.wb_instrument.specs.Interval.{is_allowed_interval}
use Rattle.wb_instrument.specs.Serial.{is_serial_text}

-- what is stated of an instrument at its setup
pub record Setup : Type 0 where
  -- the verification scale interval e, in kilograms
  pub interval_kg : ℕ
  -- the greatest load Max, in kilograms
  pub max_kg : ℕ
  -- the readings that stability looks at
  pub window : ℕ
  -- the tenths of e by which two of them may differ
  pub band : ℕ
  -- the readings a second
  pub pace : ℕ
  -- the readings that a waiting command waits
  pub wait : ℕ
  pub serial : List ℕ
  -- the days that an entry is kept
  pub retention_days : ℕ
  -- the places of the journal
  pub capacity : ℕ

abbrev pub setup_of : Parts → Setup
setup_of parts = record {
  interval_kg = parts.interval_kg;
  max_kg = parts.max_kg;
  window = parts.window;
  band = parts.band;
  pace = parts.pace;
  wait = parts.wait;
  serial = parts.serial.now;
  retention_days = parts.retention_days;
  capacity = parts.capacity;
}

-- n, the intervals of e in Max
abbrev pub intervals_in_max : Setup → ℕ
intervals_in_max s = s.max_kg / s.interval_kg

-- Max is 500 to 10,000 whole intervals
abbrev pub IsMax : ℕ → ℕ → Type 0
IsMax interval_kg max_kg = (max_kg % interval_kg ≡ 0) × (500 ≤ max_kg / interval_kg) × (max_kg / interval_kg ≤ 10000)

-- a part is within its limits
abbrev pub IsWithinLimits : PartFault → Setup → Type 0
IsWithinLimits Interval s = is_allowed_interval s.interval_kg ≡ true
IsWithinLimits Max s = IsMax s.interval_kg s.max_kg
IsWithinLimits Window s = (4 ≤ s.window) × (s.window ≤ 64)
IsWithinLimits Band s = (1 ≤ s.band) × (s.band ≤ 2)
IsWithinLimits Pace s = (2 ≤ s.pace) × (s.pace ≤ 50)
IsWithinLimits Wait s = (1 ≤ s.wait) × (s.wait ≤ 600)
IsWithinLimits Serial s = is_serial_text s.serial ≡ true
IsWithinLimits Retention s = (1 ≤ s.retention_days) × (s.retention_days ≤ 3650)
IsWithinLimits Capacity s = (2 ≤ s.capacity) × (s.capacity ≤ 100000)

-- each part is
pub record IsSetup (s : Setup) : Type 0 where
  pub interval : IsWithinLimits Interval s
  pub max : IsWithinLimits Max s
  pub window : IsWithinLimits Window s
  pub band : IsWithinLimits Band s
  pub pace : IsWithinLimits Pace s
  pub wait : IsWithinLimits Wait s
  pub serial : IsWithinLimits Serial s
  pub retention : IsWithinLimits Retention s
  pub capacity : IsWithinLimits Capacity s

-- the parts, in the order in which they are judged
abbrev pub parts_in_order : List PartFault
parts_in_order = Interval ∷ Max ∷ Window ∷ Band ∷ Pace ∷ Wait ∷ Serial ∷ Retention ∷ Capacity ∷ []

-- the part at this place is outside its limits, and each part before it is within them
pub record FirstFaultAt (s : Setup) (fault : PartFault) (place : ℕ) : Type 0 where
  pub is : slice_get parts_in_order place ≡ Some fault
  pub outside : ¬ IsWithinLimits fault s
  pub before : All (λ part. IsWithinLimits part s) (take place parts_in_order)

-- the first part that is outside its limits
abbrev pub IsFirstFault : Setup → PartFault → Type 0
IsFirstFault s fault = (place : ℕ) × FirstFaultAt s fault place
