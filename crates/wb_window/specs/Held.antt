-- What a window holds.
use Rattle.std.specs.Prelude.{ℕ, List}
use Rattle.wb_window.specs.declared.reading.Reading.{Reading}

-- what a window shows
pub record Held : Type 0 where
  -- N, the readings that it keeps
  pub size : ℕ
  -- the stability band, in tenths of the verification scale interval
  pub band : ℕ
  -- its readings, the newest first
  pub readings : List Reading
