-- The cleared bridge.
use Rattle.std.specs.Prelude.{Bool, false, ◌&&◌, List, [], ◌∷◌, Option, Some, None, is_some, ℤ}
use Rattle.std.specs.List.{list_any, before_first}
use Rattle.wb_instrument.specs.Limits.{is_below_min}
use Rattle.wb_scale.specs.Moment.{Moment}
use Rattle.wb_scale.specs.Indication.{gross}

-- there is a gross, below Min
abbrev pub has_below_min : Option ℤ → Bool
has_below_min None = false
has_below_min (Some gross) = is_below_min gross

-- the moments up to each call, the newest call first
abbrev pub moments_at_calls : List Moment → List (List Moment)
moments_at_calls [] = []
moments_at_calls (m ∷ ms) = (m ∷ ms) ∷ moments_at_calls ms

-- the newest call took a reading, whose gross is below Min; the gross is that after the reading's effect on the zero
abbrev pub clears : List Moment → Bool
clears [] = false
clears (m ∷ ms) = is_some m.reading && has_below_min (gross (m ∷ ms))

-- the newest call stored a weighing
abbrev pub stores : List Moment → Bool
stores [] = false
stores (m ∷ ms) = m.stored

-- the bridge is cleared: since the last stored weighing, or the opening, some reading's gross was below Min
unfoldable pub is_cleared : List Moment → Bool
is_cleared ms = list_any clears (before_first stores (moments_at_calls ms))
