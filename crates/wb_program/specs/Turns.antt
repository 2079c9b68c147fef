-- What comes in a turn of the service.
use Rattle.std.specs.Prelude.{ℕ, Bool, true, false, List, [], ◌∷◌, ◌++◌, map, reverse, Option, Some, None}
use Rattle.wb_input.specs.declared.sources.Converter.TheVariants.{Line}
use Rattle.wb_station.specs.SourceAnswers.{Answer, Handed, asked, converted, timed, to_office, to_terminal, took}
use Rattle.wb_station.specs.Account.{Out, bytes_of_replies, nothing, replied, responded}
use Rattle.wb_messages.specs.Happening.{Happening, byte, hang_up, office, reading}
use Rattle.wb_window.specs.declared.reading.Reading.{Reading}

-- a request to the office, and the moment at which it came
pub record Request : Type 0 where
  pub bytes : List ℕ
  pub moment : ℕ

-- a reading; then the bytes that the terminal's connection had ready, and whether it ended after them
pub record Begun : Type 0 where
  pub reading : Reading
  pub bytes : List ℕ
  pub hung_up : Bool

-- then at most one request
pub record Turn : Type 0 where
  pub begun : Begun
  pub request : Option Request

-- ---- what the calls of a turn answered, the newest first

abbrev pub answers_begun : Begun → List Answer
answers_begun b = took b.bytes b.hung_up ∷ converted (Line b.reading) ∷ []

abbrev pub answers_of_request : Option Request → List Answer
answers_of_request None = asked None ∷ []
answers_of_request (Some r) = timed (Some r.moment) ∷ asked (Some r.bytes) ∷ []

abbrev pub answers_of_turn : Turn → List Answer
answers_of_turn t = answers_of_request t.request ++ answers_begun t.begun

abbrev pub answers_of : List Turn → List Answer
answers_of [] = []
answers_of (t ∷ earlier) = answers_of_turn t ++ answers_of earlier

-- ---- what happens in a turn, the newest first

abbrev pub hang_up_after : Bool → List Happening → List Happening
hang_up_after true h = hang_up ∷ h
hang_up_after false h = h

-- the bytes one by one, and the hang-up after them
abbrev pub stretch : List ℕ → Bool → List Happening
stretch bytes hung_up = hang_up_after hung_up (reverse (map byte bytes))

abbrev pub happenings_begun : Begun → List Happening
happenings_begun b = stretch b.bytes b.hung_up ++ reading b.reading ∷ []

abbrev pub happenings_of_request : Option Request → List Happening
happenings_of_request None = []
happenings_of_request (Some r) = office r.moment r.bytes false ∷ []

abbrev pub happenings_of_turn : Turn → List Happening
happenings_of_turn t = happenings_of_request t.request ++ happenings_begun t.begun

abbrev pub happenings_of : List Turn → List Happening
happenings_of [] = []
happenings_of (t ∷ earlier) = happenings_of_turn t ++ happenings_of earlier

-- ---- what is put out goes to where the event came from

-- replies to the terminal, unless there are none; a response to the office
abbrev pub handed_on : Out → List Handed
handed_on (replied []) = []
handed_on (replied (reply ∷ more)) = to_terminal (bytes_of_replies (reply ∷ more)) ∷ []
handed_on (responded bytes) = to_office bytes ∷ []
handed_on nothing = []

-- all that was put out, the newest first
abbrev pub all_handed_on : List Out → List Handed
all_handed_on [] = []
all_handed_on (out ∷ outs) = handed_on out ++ all_handed_on outs
