-- How old what was sent may be.
use Rattle.std.specs.Prelude.{ℕ, ◌*◌, ◌-◌, Bool, false, not, nat_le, List, [], ◌∷◌, Option, Some, None, unwrap_or}
use Rattle.std.specs.Time.{instant_nanos}
use Rattle.std.specs.declared.time.Instant.{Instant}
use Rattle.wb_connections.specs.declared.ready.Ready.{Ready}
use Rattle.wb_connections.specs.declared.ready.Ready.TheVariants.{Bytes, Nothing, End, Fault}

-- a look at what waits to be read, which stays where it is
pub record Look : Type 0 where
  pub found : Ready
  pub at : Instant

-- `now` for a poll that found nothing, and else `before`
abbrev pub if_nothing : Ready → Option Instant → Option Instant → Option Instant
if_nothing Nothing now before = now
if_nothing (Bytes count) now before = before
if_nothing End now before = before
if_nothing Fault now before = before

-- when a poll last found nothing, of polls with the newest first; what is read later was sent after it. None where every poll found something: then
-- nothing is known of how old what is read is, since another program may have kept it
abbrev pub last_silence : List Look → Option Instant
last_silence [] = None
last_silence (look ∷ looks) = if_nothing look.found (Some look.at) (last_silence looks)

-- what a connection sent came after the last poll that found nothing, or after `start`, when it had not been made yet
abbrev pub came_after : Instant → List Look → Instant
came_after start looks = unwrap_or (last_silence looks) start

-- so many seconds have passed since then
abbrev pub has_passed : ℕ → Instant → Instant → Bool
has_passed seconds since now = nat_le (seconds * 1000000000) (instant_nanos now - instant_nanos since)

-- less than `seconds` have passed, and both moments are known
abbrev pub is_fresh : ℕ → Option Instant → Option Instant → Bool
is_fresh seconds None now = false
is_fresh seconds (Some since) None = false
is_fresh seconds (Some since) (Some now) = not (has_passed seconds since now)
