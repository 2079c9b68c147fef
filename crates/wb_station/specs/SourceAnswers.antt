-- What sources of events answer, and what they are handed.
use Rattle.std.specs.Prelude.{◌≡◌, ◌≤◌, ◌⊎◌, ℕ, Bool, List, [], ◌∷◌, ◌++◌, take, Option, Some, None, option_map}
use Rattle.wb_input.specs.declared.sources.Converter.{Converter}
use Rattle.wb_input.specs.declared.sources.TheConstants.{REQUEST_ROOM}
use Rattle.wb_messages.specs.declared.notice.Notice.{Notice}
use Rattle.wb_station.specs.declared.sources.Incoming.{Incoming}
use Rattle.wb_station.specs.declared.sources.Incoming.TheVariants.{Bytes, Judged}
use Rattle.wb_station.specs.declared.sources.Exchange.{Exchange}

-- the answer of a call
pub data Answer : Type 0 where
  -- of the converter: its line, its end or its fault
  converted : Converter → Answer
  -- of the terminal's connection: the bytes that it has ready, and whether it ended after them
  took : List ℕ → Bool → Answer
  -- of the office's connections: a request, if there is one
  asked : Option (List ℕ) → Answer
  -- of the clock: the moment, if it is one of the moments
  timed : Option ℕ → Answer

-- what the sources got: bytes, and what an event settled
pub data Handed : Type 0 where
  to_terminal : List ℕ → Handed
  to_office : List ℕ → Handed
  noticed : Notice → Handed

-- what the calls answered, and what the sources got, both the newest first
pub record Told : Type 0 where
  pub answers : List Answer
  pub handed : List Handed

abbrev pub tells_more : List Answer → List Handed → Told → Told
tells_more answers handed told = record { answers = answers ++ told.answers; handed = handed ++ told.handed }

-- it answered and was handed these too; or it doesn't tell, or kept a fault
abbrev pub SourceTells : List Answer → List Handed → Option Told → Option Told → Type 0
SourceTells answers handed old new = (new ≡ None) ⊎ (new ≡ option_map (tells_more answers handed) old)

-- it got a notice, which it reports or drops
abbrev pub MayNotice : Notice → Option Told → Option Told → Type 0
MayNotice notice old new = SourceTells [] [] old new ⊎ SourceTells [] (noticed notice ∷ []) old new

-- ---- a request with its moment

-- the bytes of a request, of which some are in a room
abbrev pub bytes_asked : Incoming → List ℕ → List ℕ
bytes_asked (Bytes count) room = take count room
bytes_asked (Judged request) room = request

-- there are no more of them than there is room for
abbrev pub IsInRoom : Incoming → Type 0
IsInRoom (Bytes count) = count ≤ REQUEST_ROOM
IsInRoom (Judged request) = Unit {0}

-- that there is a request, and then its moment
abbrev pub exchanged : Option Exchange → List ℕ → List Answer
exchanged None room = asked None ∷ []
exchanged (Some e) room = timed e.moment ∷ asked (Some (bytes_asked e.asked room)) ∷ []
