-- The exit status of the program: 0 once all was done, 1 after a fault.
use Rattle.std.specs.Prelude.{ℕ}
use Rattle.wb_program.specs.declared.replaying.ReplayEnd.{ReplayEnd}
use Rattle.wb_program.specs.declared.replaying.ReplayEnd.TheVariants as replay
use Rattle.wb_program.specs.declared.serving.ServeEnd.{ServeEnd}
use Rattle.wb_program.specs.declared.serving.ServeEnd.TheVariants as serve

abbrev pub status_of_replay : ReplayEnd → ℕ
status_of_replay replay.Done = 0
status_of_replay (replay.BadLine n) = 1
status_of_replay replay.TooLong = 1
status_of_replay replay.ReadFault = 1
status_of_replay replay.WriteFault = 1
status_of_replay replay.Memory = 1

abbrev pub status_of_serve : ServeEnd → ℕ
status_of_serve (serve.Turns n) = 0
status_of_serve serve.ConverterFault = 1
status_of_serve serve.ClockFault = 1
