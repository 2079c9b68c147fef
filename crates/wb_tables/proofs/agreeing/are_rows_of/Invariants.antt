use Rattle.std.proofs.Common.{◌≤◌, length}
use Rattle.wb_tables.proofs.lemmas.open_weighings.Agreed.{IsLeft}
use Rattle.wb_tables.proofs.agreeing.are_rows_of.Given as goal

abbrev pub invariant-loop-rest : goal.invariant-loop-rest
invariant-loop-rest l = (length l.rest ≤ length l.rows) × IsLeft l.fn.open_weighings l.rows l.left l.rest

abbrev pub decreases-loop-rest : goal.decreases-loop-rest
decreases-loop-rest l = length l.rest
