use Rattle.std.proofs.Common.{refl}
use Rattle.sqlite.specs.View.{doubt}
use Rattle.wb_tables.proofs.offered.EmptyDatabases.{lacks_all}
use Rattle.wb_store_uses.proofs.open_in_memory.Goals as goal

pub returns-in-Ok-open-clause-stands : goal.returns-in-Ok-open-clause-stands
unfolding doubt
returns-in-Ok-open-clause-stands c = ((c.in-Ok-open.ensures.empty (lacks_all _ c.in-Ok.ensures.empty.2)).stands refl).0

pub returns-in-Ok-open-clause-honest : goal.returns-in-Ok-open-clause-honest
unfolding doubt
returns-in-Ok-open-clause-honest c = refl
