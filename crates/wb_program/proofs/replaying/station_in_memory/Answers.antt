use Rattle.std.proofs.Common.{[]}
use Rattle.wb_program.proofs.replaying.station_in_memory.Goals as goal

pub returns-in-Ok-clause-stands : goal.returns-in-Ok-clause-stands
returns-in-Ok-clause-stands c = c.in-Ok.ensures.stands [] [] c.in_ok-store.ensures
