-- A queue of a DequeWindow: candidates for the greatest, or the least, of the loads held.
use Rattle.circular_buffer.specs.Buffer.{buffer}
use Rattle.std.specs.List.{filter}
use Rattle.std.specs.Prelude.{ℕ, ℤ, Bool, false, not, int_lt, List, [], ◌∷◌, ◌++◌, Option, Some, None}
use Rattle.wb_window.specs.declared.candidates.Candidates.{Candidates}
use Rattle.wb_window.specs.declared.candidates.Extreme.{Extreme}
use Rattle.wb_window.specs.declared.candidates.Extreme.TheVariants.{Greatest, Least}
use Rattle.wb_window.specs.declared.reading.Reading.{Reading}
use Rattle.wb_window.specs.declared.reading.Reading.TheVariants.{Load, Lost}

-- a load lies strictly beyond another one
abbrev pub beyond : Extreme → ℤ → ℤ → Bool
beyond Greatest load other = int_lt other load
beyond Least load other = int_lt load other

-- a load stays a candidate beside a newer one that doesn't lie beyond it
abbrev pub stays : Extreme → ℤ → ℤ → Bool
stays extreme newer load = not (beyond extreme newer load)

-- of readings, the newest first: the loads that no newer load lies beyond, the oldest first
abbrev pub candidates : Extreme → List Reading → List ℤ
candidates extreme [] = []
candidates extreme (Load load ∷ older) = filter (stays extreme load) (candidates extreme older) ++ load ∷ []
candidates extreme (Lost ∷ older) = candidates extreme older

-- a queue of these, with room for as many as the readings
abbrev pub queue_of : Extreme → ℕ → List Reading → Candidates
queue_of extreme size readings = record { extreme = extreme; loads = buffer (candidates extreme readings) size }

-- a load lies beyond the last one, where there is a last one
abbrev pub beyond_last : Extreme → ℤ → Option ℤ → Bool
beyond_last extreme load (Some last) = beyond extreme load last
beyond_last extreme load None = false
