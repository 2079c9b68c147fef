-- The record that sources in memory keep.
use Rattle.std.specs.Prelude.{ℕ, ◌<◌, ◌≤◌, ◌≡◌, ◌⊎◌, Bool, true, false, List, map, reverse, Option, Some, None}
use Rattle.wb_station.specs.declared.list_sources.Answered.{Answered}
use Rattle.wb_station.specs.declared.list_sources.Answered.TheVariants as kept
use Rattle.wb_station.specs.declared.list_sources.HandedIn.{HandedIn}
use Rattle.wb_station.specs.declared.list_sources.HandedIn.TheVariants.{Noticed, Reply, Response}
use Rattle.wb_station.specs.SourceAnswers.{Answer, Handed, Told, asked, converted, noticed, timed, to_office, to_terminal, took}

abbrev pub answer_of : Answered → Answer
answer_of (kept.Converter converter) = converted converter
answer_of (kept.Terminal bytes hung_up) = took bytes.items hung_up
answer_of (kept.Office None) = asked None
answer_of (kept.Office (Some request)) = asked (Some request.items)
answer_of (kept.Moment moment) = timed moment

abbrev pub handed_of : HandedIn → Handed
handed_of (Reply bytes) = to_terminal bytes.items
handed_of (Response bytes) = to_office bytes.items
handed_of (Noticed notice) = noticed notice

-- what was kept, the newest first; nothing once a fault was kept
abbrev pub told_of : Bool → List Answered → List HandedIn → Option Told
told_of true answered handed = None
told_of false answered handed = Some (record { answers = reverse (map answer_of answered); handed = reverse (map handed_of handed) })

-- the sources keep a fault only after a request for memory: for a copy of at least one byte, or for a place in a full list
abbrev pub AsksForMemory : Bool → Bool → ℕ → ℕ → ℕ → Type 0
AsksForMemory before after bytes length capacity = before ≡ false → after ≡ true → (0 < bytes) ⊎ (capacity ≤ length)
