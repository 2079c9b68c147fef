use Rattle.std.proofs.Common.{refl}
use Rattle.sqlite.specs.View.{doubt}
use Rattle.wb_tables.proofs.offered.EmptyDatabases.{lacks_all}
use Rattle.wb_program.proofs.replaying.store_in_memory.Goals as goal

pub returns-in-Ok-open : goal.returns-in-Ok-open
unfolding doubt
returns-in-Ok-open c = ((c.in-Ok-open.ensures.empty (lacks_all _ c.in-Ok.ensures.empty.2)).stands refl).0
