-- What a DequeWindow keeps beside its readings, to tell whether they agree.
use Rattle.std.specs.Prelude.{ℕ, ◌+◌, List, [], ◌∷◌}
use Rattle.wb_window.specs.helpers.Candidates.{queue_of}
use Rattle.wb_window.specs.declared.candidates.Extreme.TheVariants.{Greatest, Least}
use Rattle.wb_window.specs.declared.queues.Queues.{Queues}
use Rattle.wb_window.specs.declared.reading.Reading.{Reading}
use Rattle.wb_window.specs.declared.reading.Reading.TheVariants.{Load, Lost}

-- how many readings are lost
abbrev pub lost_of : List Reading → ℕ
lost_of [] = 0
lost_of (Load load ∷ older) = lost_of older
lost_of (Lost ∷ older) = lost_of older + 1

-- the candidates for the greatest and the least of the loads, and how many readings are lost
abbrev pub queues_of : ℕ → List Reading → Queues
queues_of size readings = record { greatest = queue_of Greatest size readings; least = queue_of Least size readings; lost = lost_of readings }
