-- Ends at which the lines of a trace were run.
use Rattle.wb_program.specs.declared.replaying.ReplayEnd.{ReplayEnd}
use Rattle.wb_program.specs.declared.replaying.ReplayEnd.TheVariants.{Done, BadLine, TooLong, ReadFault, WriteFault, Memory}

-- the lines of a trace were run
abbrev pub WasRun : ReplayEnd → Type 0
WasRun Done = Unit {0}
WasRun (BadLine n) = Unit {0}
WasRun TooLong = ⊥
WasRun ReadFault = ⊥
WasRun WriteFault = Unit {0}
WasRun Memory = ⊥
