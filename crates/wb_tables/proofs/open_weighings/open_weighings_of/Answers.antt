use Rattle.std.proofs.Common.{arith}
use Rattle.wb_tables.proofs.lemmas.open_weighings.Collected.{parted_all, parted_next}
use Rattle.wb_tables.proofs.open_weighings.open_weighings_of.Goals as goal

pub loop-entry-preserved : goal.loop-entry-preserved
loop-entry-preserved c = parted_next _ _ _ _ _ _ _ (rw c.in-Some.ensures.items at c.loop-entry.invariant) c.in_ok-pass_entry.ensures.passed

pub returns-clause-collected : goal.returns-clause-collected
returns-clause-collected c = parted_all _ _ _ _ (omega (arith, c.in_default.ensures.cases.0)) c.loop-entry.invariant
