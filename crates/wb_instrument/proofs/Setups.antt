-- A setup is one if each part is within its limits.
use Rattle.std.proofs.Common.{◌≡◌, ℕ, suc, zero as nought, ◌≤◌, true, arith}
use Rattle.std.specs.Prelude.{All}
use Rattle.wb_instrument.specs.Interval.{is_allowed_interval}
use Rattle.wb_instrument.specs.declared.setup.PartFault.TheVariants.{Interval, Max, Window, Band, Pace, Wait, Serial, Retention, Capacity}
use Rattle.wb_instrument.specs.Setup.{Setup, IsSetup, IsWithinLimits, parts_in_order}

-- every part is within its limits where each judged one is
pub IsSetup-judged : (s : Setup) → All (λ part. IsWithinLimits part s) parts_in_order → IsSetup s
IsSetup-judged s each = record {
  interval = each 0 Interval (omega arith);
  max = each 1 Max (omega arith);
  window = each 2 Window (omega arith);
  band = each 3 Band (omega arith);
  pace = each 4 Pace (omega arith);
  wait = each 5 Wait (omega arith);
  serial = each 6 Serial (omega arith);
  retention = each 7 Retention (omega arith);
  capacity = each 8 Capacity (omega arith);
}

-- an interval is a kilogram at least
pub one_kilogram : (s : Setup) → IsSetup s → 1 ≤ s.interval_kg
one_kilogram s is = least s.interval_kg is.interval
  where
    least : (kg : ℕ) → is_allowed_interval kg ≡ true → 1 ≤ kg
    least nought e = absurd (cc)
    least (suc k) e = omega arith
