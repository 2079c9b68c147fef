use Rattle.std.proofs.Common.{length}
use Rattle.wb_tables.proofs.lemmas.open_weighings.Collected.{AreParted}
use Rattle.wb_tables.proofs.open_weighings.open_weighings_of.Given as goal

abbrev pub invariant-loop-entry : goal.invariant-loop-entry
invariant-loop-entry l = AreParted l.fn.entries.items l.rest.items l.pass.open_weighings.items l.pass.plates

abbrev pub decreases-loop-entry : goal.decreases-loop-entry
decreases-loop-entry l = length l.rest.items
