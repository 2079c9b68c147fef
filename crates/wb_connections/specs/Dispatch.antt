-- Which connection of the office a request is passed on for, and which gets the response.
use Rattle.std.specs.List.{position_or_len}
use Rattle.std.specs.Prelude.{◌≡◌, ℕ, ◌<◌, Bool, true, false, List, length, find, get_or, set, Option, Some, None, option_map, IfSome, EachIndex}
use Rattle.std.specs.declared.net.SocketAddr.{SocketAddr}
use Rattle.std.specs.declared.time.Instant.{Instant}
use Rattle.wb_connections.specs.Age.{has_passed}
use Rattle.wb_connections.specs.declared.connection.Connection.{Connection}
use Rattle.wb_connections.specs.declared.connection.Stage.{Stage}
use Rattle.wb_connections.specs.declared.connection.Stage.TheVariants.{Asks, Waits, Asked, Takes, Leaves, Closed}
use Rattle.wb_connections.specs.declared.limits.TheConstants.{REQUEST_SECONDS}

-- its request was passed on, and isn't answered yet
abbrev pub is_asked : {J : Type 0} → Stage J → Bool
is_asked Asks = false
is_asked (Waits place request) = false
is_asked Asked = true
is_asked (Takes rest) = false
is_asked Leaves = false
is_asked (Closed why) = false

-- the request that waits to be passed on
abbrev pub waiting_request : {J : Type 0} → Stage J → Option J
waiting_request Asks = None
waiting_request (Waits place request) = Some request
waiting_request Asked = None
waiting_request (Takes rest) = None
waiting_request Leaves = None
waiting_request (Closed why) = None

-- the request waited at this connection, is passed on at `now`, and came less than five seconds before
pub record PassesOn {S J : Type 0} (now : Instant) (before after : Connection S J) (request : J) : Type 0 where
  pub waited : waiting_request before.stage ≡ Some request
  pub fresh : has_passed REQUEST_SECONDS before.looked now ≡ false
  pub asked : is_asked after.stage ≡ true
  pub peer : after.peer ≡ before.peer

-- what a connection keeps when late requests are closed: its client, the last look that found nothing, and no request but its own
pub record KeepsOwn {S J : Type 0} (before after : Connection S J) : Type 0 where
  pub request : IfSome (waiting_request after.stage) (λ request. waiting_request before.stage ≡ Some request)
  pub looked : after.looked ≡ before.looked
  pub peer : after.peer ≡ before.peer

-- some connection's request is passed on
pub record PassesOneOn {S J : Type 0} (now : Instant) (before after : List (Connection S J)) (request : J) : Type 0 where
  pub place : ℕ
  pub is_there : place < length before
  pub passes : (c : Connection S J) → PassesOn now (get_or before place c) (get_or after place c) request

-- the client of the first connection whose request was passed on
abbrev pub client_asked : {S J : Type 0} → List (Connection S J) → Option SocketAddr
client_asked connections = option_map (λ c. c.peer) (find (λ c. is_asked c.stage) connections)

-- the place of the first connection whose request was passed on; the number of connections if there is none
abbrev pub asked_place : {S J : Type 0} → List (Connection S J) → ℕ
asked_place connections = position_or_len (λ c. is_asked c.stage) connections

-- no connection but the first whose request was passed on has changed
abbrev pub ChangesOnlyAsked : {S J : Type 0} → List (Connection S J) → List (Connection S J) → Type 0
ChangesOnlyAsked {S} {J} before after = (c : Connection S J) → after ≡ set before (asked_place before) (get_or after (asked_place before) c)

-- its request isn't waiting for its answer any more
abbrev pub IsAnswered : {S J : Type 0} → List (Connection S J) → List (Connection S J) → Type 0
IsAnswered {S} {J} before after = (c : Connection S J) → is_asked (get_or after (asked_place before) c).stage ≡ false

-- the place is the same terminal's as before, or nobody's: a reply goes to no terminal that came in between
abbrev pub KeepsPlace : Option SocketAddr → Option SocketAddr → Type 0
KeepsPlace before after = IfSome after (λ peer. before ≡ Some peer)
