-- What serving did.
use Rattle.std.specs.Prelude.{◌≡◌, ◌<◌, ◌⊎◌, ℕ, List, ◌∷◌, ◌++◌, length, map, Option, Some, None}
use Rattle.sqlite.specs.Store.{Ghosts}
use Rattle.wb_program.specs.declared.serving.ServeEnd.{ServeEnd}
use Rattle.wb_program.specs.declared.serving.ServeEnd.TheVariants as end
use Rattle.wb_input.specs.declared.sources.Converter.TheVariants.{End, Fault}
use Rattle.wb_program.specs.HandedOn.{RanHandingOn, without_notices}
use Rattle.wb_station.specs.SourceAnswers.{Answer, Handed, SourceTells, Told, asked, converted, timed}
use Rattle.wb_program.specs.Turns.{Begun, Turn, all_handed_on, answers_begun, answers_of, happenings_begun, happenings_of}
use Rattle.wb_sics.specs.Stands.{TerminalState}
use Rattle.wb_station.specs.Account.{Out}
use Rattle.wb_messages.specs.Happening.{Happening, unmarked}
use Rattle.wb_station.specs.RunOfEvents.{Ran}
use Rattle.wb_store.specs.Journal.{StoreView}

-- how serving for at most so many turns ends, after these whole turns, the newest first, with these answers and happenings
abbrev pub EndsAfter : List Turn → ℕ → ServeEnd → List Answer → List Happening → Type 0
EndsAfter turns limit (end.Turns count) answers happened =
    (count ≡ length turns) × (happened ≡ happenings_of turns)
    × (((count ≡ limit) × (answers ≡ answers_of turns)) ⊎ ((count < limit) × (answers ≡ converted End ∷ answers_of turns)))
EndsAfter turns limit end.ConverterFault answers happened =
    (length turns < limit) × (happened ≡ happenings_of turns) × (answers ≡ converted Fault ∷ answers_of turns)
EndsAfter turns limit end.ClockFault answers happened =
    (length turns < limit)
    × (begun : Begun) × (happened ≡ happenings_begun begun ++ happenings_of turns)
    × (bytes : List ℕ) × (answers ≡ timed None ∷ asked (Some bytes) ∷ answers_begun begun ++ answers_of turns)

module _ {D : Type 0} (g : Ghosts D) (t : TerminalState) (j : StoreView D) (t' : TerminalState) (j' : StoreView D) (old new : Option Told) where
  -- what happened, the newest first, led from one station to the other, but for the marks, and the sources got each output, after its notice unless they drop notices
  pub record Handled (answers : List Answer) (happened : List Happening) : Type 0 where
    pub happenings : List Happening
    pub outs : List Out
    pub handed : List Handed
    pub as_happened : map unmarked happenings ≡ happened
    pub ran : Ran g happenings t j t' j' outs
    pub handing : RanHandingOn g happenings t j t' j' outs handed
    -- `reply` and `respond` got the outputs
    pub put_out : without_notices handed ≡ all_handed_on outs
    pub told : SourceTells answers handed old new

  -- serving for at most so many turns ended so
  pub record Served (limit : ℕ) (end : ServeEnd) : Type 0 where
    pub answers : List Answer
    pub happened : List Happening
    pub turns : List Turn
    pub handled : Handled answers happened
    pub ends : EndsAfter turns limit end answers happened
