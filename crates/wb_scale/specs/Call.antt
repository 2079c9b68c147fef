-- What a scale is asked to do.
use Rattle.std.specs.Prelude.{ℕ}
use Rattle.wb_window.specs.declared.reading.Reading.{Reading}

-- a call; a history of a scale is the list of its calls, the newest first
pub data Call : Type 0 where
  -- a reading of the load converter is taken
  read : Reading → Call
  -- a reading is taken, and the zero is to be set to it before zero tracking looks at it
  read_for_zero : Reading → Call
  -- the zero is to be set to the last load
  set_zero : Call
  -- the last load is to be tared
  tare : Call
  -- so many grams are to be the preset tare
  preset : ℕ → Call
  -- the tare is cleared
  clear_tare : Call
  -- a weighing was stored
  stored : Call
