-- What came of a call.
use Rattle.std.specs.Prelude.{Bool, false, List, [], ◌∷◌, Option, None, slice_get, ℤ, pos, ◌+ℤ◌}
use Rattle.std.specs.List.{filter_map}
use Rattle.wb_window.specs.declared.reading.Reading.{Reading}
use Rattle.wb_scale.specs.declared.answers.TareNow.{TareNow}

-- what came of one call; loads, zeros and steps are in tenths of e
pub record Moment : Type 0 where
  -- the reading taken
  pub reading : Option Reading
  -- the load that the zero was set to
  pub zeroed : Option ℤ
  -- by how much zero tracking moved the zero
  pub step : ℤ
  -- what the tare became
  pub tare : Option TareNow
  -- whether a weighing was stored
  pub stored : Bool

abbrev pub nothing : Moment
nothing = record { reading = None; zeroed = None; step = pos 0; tare = None; stored = false }

-- Lists of moments have the newest first.

-- the readings taken
unfoldable pub readings : List Moment → List Reading
readings ms = filter_map (λ m. m.reading) ms

-- what the newest moment that has such a thing has
abbrev pub newest_having : {X : Type 0} → (Moment → Option X) → List Moment → Option X
newest_having thing ms = slice_get (filter_map thing ms) 0

abbrev pub total : List ℤ → ℤ
total [] = pos 0
total (x ∷ xs) = total xs +ℤ x
