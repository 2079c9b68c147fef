-- Test weights in tenths of the verification scale interval.
use Rattle.std.specs.Prelude.{◌≡◌, ℕ, ◌*◌, ◌<◌, ℤ, pos, ◌*ℤ◌, ◌≤ℤ◌}

-- weights of so many kilograms are so many tenths of an interval in kilograms, and a point can have that load
pub record IsTenthsOf (kilograms interval : ℕ) (tenths : ℤ) : Type 0 where
  pub positive : 0 < interval
  pub whole : (tenths *ℤ pos interval) ≡ pos (kilograms * 10)
  pub most : tenths ≤ℤ pos 2000000
