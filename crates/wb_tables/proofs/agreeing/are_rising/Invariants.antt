use Rattle.std.proofs.Common.{length}
use Rattle.wb_tables.proofs.lemmas.open_weighings.Agreed.{AreReadKeys}
use Rattle.wb_tables.proofs.agreeing.are_rising.Given as goal

abbrev pub invariant-loop-rest : goal.invariant-loop-rest
invariant-loop-rest l = AreReadKeys l.rows l.rest l.above

abbrev pub decreases-loop-rest : goal.decreases-loop-rest
decreases-loop-rest l = length l.rest
