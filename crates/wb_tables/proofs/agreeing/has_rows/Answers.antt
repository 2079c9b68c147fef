use Rattle.std.proofs.Common.{map, subst}
use Rattle.wb_tables.proofs.Common.{IsPermutation-sym, IsPermutation-trans, IsPermutation, open_row}
use Rattle.wb_tables.proofs.lemmas.open_weighings.Agreed.{same_rows}
use Rattle.wb_tables.proofs.agreeing.has_rows.Goals as goal

pub returns-clause-rows : goal.returns-clause-rows
returns-clause-rows g c beside clean are =
    IsPermutation-trans _ _ _ (subst (IsPermutation (map open_row c.args.open_weighings.now)) c.as_slice.ensures.value (same_rows _ _ (c.are_rows_of.ensures.0 are)))
    (IsPermutation-sym _ _ ((c.in_ok-rows.ensures.shows beside).shows clean))
