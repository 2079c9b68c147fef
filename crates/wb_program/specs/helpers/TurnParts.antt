-- A turn of the service, and its parts.
use Rattle.std.specs.Prelude.{◌≡◌, ⊤, ℕ, Bool, List, [], ◌∷◌, Option, Some, None, Ok, Err}
use Rattle.std.specs.declared.result.Result.{Result}
use Rattle.sqlite.specs.Store.{Ghosts}
use Rattle.wb_program.specs.declared.serving.ServeEnd.{ServeEnd}
use Rattle.wb_program.specs.declared.serving.ServeEnd.TheVariants as end
use Rattle.wb_program.specs.declared.serving.Stop.{Stop}
use Rattle.wb_program.specs.declared.serving.Stop.TheVariants as stop
use Rattle.wb_program.specs.Served.{Handled}
use Rattle.wb_station.specs.SourceAnswers.{Answer, Told, asked, timed, took, converted}
use Rattle.wb_program.specs.Turns.{Request, answers_of_request, happenings_of_request, stretch, Begun, Turn, answers_begun, answers_of_turn, happenings_begun, happenings_of_turn}
use Rattle.wb_sics.specs.Stands.{TerminalState}
use Rattle.wb_messages.specs.Happening.{Happening}
use Rattle.wb_store.specs.Journal.{StoreView}
use Rattle.wb_input.specs.declared.sources.Converter.TheVariants.{End, Fault}

-- the end of a service that a turn stops after so many whole ones
abbrev pub end_of : Stop → ℕ → ServeEnd
end_of stop.ConverterEnd turns = end.Turns turns
end_of stop.ConverterFault turns = end.ConverterFault
end_of stop.ClockFault turns = end.ClockFault

-- what a turn answers and what happens in it; it is whole or stops
abbrev pub TurnEnds : Result ⊤ Stop → List Answer → List Happening → Type 0
TurnEnds (Ok _) answers happened = (turn : Turn) × (answers ≡ answers_of_turn turn) × (happened ≡ happenings_of_turn turn)
TurnEnds (Err stop.ConverterEnd) answers happened = (answers ≡ converted End ∷ []) × (happened ≡ [])
TurnEnds (Err stop.ConverterFault) answers happened = (answers ≡ converted Fault ∷ []) × (happened ≡ [])
TurnEnds (Err stop.ClockFault) answers happened =
    (begun : Begun) × (happened ≡ happenings_begun begun)
    × (bytes : List ℕ) × (answers ≡ timed None ∷ asked (Some bytes) ∷ answers_begun begun)

-- what the office's part of a turn answers, and what happens in it
abbrev pub ExchangeEnds : Result ⊤ Stop → List Answer → List Happening → Type 0
ExchangeEnds (Ok _) answers happened = (request : Option Request) × (answers ≡ answers_of_request request) × (happened ≡ happenings_of_request request)
ExchangeEnds (Err stop.ConverterEnd) answers happened = ⊥
ExchangeEnds (Err stop.ConverterFault) answers happened = ⊥
ExchangeEnds (Err stop.ClockFault) answers happened = (bytes : List ℕ) × (answers ≡ timed None ∷ asked (Some bytes) ∷ []) × (happened ≡ [])

module _ {D : Type 0} (g : Ghosts D) (t : TerminalState) (j : StoreView D) (t' : TerminalState) (j' : StoreView D) (old new : Option Told) where
  -- the office's part was served
  pub record ExchangeServed (result : Result ⊤ Stop) : Type 0 where
    pub answers : List Answer
    pub happened : List Happening
    pub handled : Handled g t j t' j' old new answers happened
    pub ends : ExchangeEnds result answers happened

  -- the terminal's part was served
  pub record StretchServed : Type 0 where
    pub bytes : List ℕ
    pub hung_up : Bool
    pub handled : Handled g t j t' j' old new (took bytes hung_up ∷ []) (stretch bytes hung_up)

  -- a turn was served
  pub record TurnServed (result : Result ⊤ Stop) : Type 0 where
    pub answers : List Answer
    pub happened : List Happening
    pub handled : Handled g t j t' j' old new answers happened
    pub ends : TurnEnds result answers happened
