-- The exit status of handing lines on: 0 at the input's end, 1 after a fault.
use Rattle.std.specs.Prelude.{ℕ}
use Rattle.wb_converter.specs.declared.running.RunEnd.{RunEnd}
use Rattle.wb_converter.specs.declared.running.RunEnd.TheVariants.{Clock, Input, Lines}

abbrev pub status_of_run : RunEnd → ℕ
status_of_run (Lines n) = 0
status_of_run Input = 1
status_of_run Clock = 1
