-- Where a walk over the frames of a log stands.
use Rattle.std.specs.Prelude.{◌≡◌, ◌≢◌, ℕ, ◌+◌, ◌<◌, ◌≤◌, List, length}
use Rattle.sqlite_wal.specs.Format.{commit_size, stored_sum}
use Rattle.sqlite_wal.specs.Recovery.{frame_at, sum_before, Passes}
use Rattle.wb_wal.specs.Look.{IsDamaged, Begins}
use Rattle.wb_wal.specs.declared.frames.Stop.{Stop}

-- each frame before it passes
pub record StandsAt (page : ℕ) (log : List ℕ) (stop : Stop) : Type 0 where
  pub before : (i : ℕ) → i < stop.frame → Passes page log i
  pub place : stop.at ≡ frame_at page stop.frame
  pub within : stop.at ≤ length log
  pub sum : stop.sum ≡ sum_before page log stop.frame
  pub begins : Begins page log stop.first stop.frame
  pub first_place : stop.first_at ≡ frame_at page stop.first
  pub first_sum : stop.first_sum ≡ sum_before page log stop.first

-- and it doesn't pass
pub record StopsAt (page : ℕ) (log : List ℕ) (stop : Stop) : Type 0 where
  pub stands : StandsAt page log stop
  pub damaged : IsDamaged page log stop.frame

-- the place behind a frame
pub record IsBehind (stop : Stop) (frame : List ℕ) (next : Stop) : Type 0 where
  pub number : next.frame ≡ stop.frame + 1
  pub place : next.at ≡ stop.at + length frame
  pub sum : next.sum ≡ stored_sum frame 16
  pub stays : commit_size frame ≡ 0 → (next.first ≡ stop.first) × (next.first_at ≡ stop.first_at) × (next.first_sum ≡ stop.first_sum)
  pub begins : commit_size frame ≢ 0 → (next.first ≡ next.frame) × (next.first_at ≡ next.at) × (next.first_sum ≡ next.sum)
