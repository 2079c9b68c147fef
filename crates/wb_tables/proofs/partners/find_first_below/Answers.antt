use Rattle.std.proofs.Common.{ap, option_and_then, refl, ◌≡◌}
use Rattle.wb_tables.proofs.Common.{first_alone, nearest_below}
use Rattle.wb_tables.proofs.lemmas.queries.Entries.{seeks_below}
use Rattle.wb_tables.proofs.lemmas.queries.LookUps.{look_up, looks_up_made}
use Rattle.wb_tables.proofs.partners.find_first_below.Goals as goal

pub returns-clause-finds : goal.returns-clause-finds
returns-clause-finds g c has =
    looks_up_made g.S.Store c.args.conn.now c.select-rows.new.conn (option_and_then first_alone) c.entry_found-nearest.result c.where_first.result
    (λ entries spent found. found ≡ nearest_below c.args.plate.now c.args.number entries) _
    (look_up g.S.Store c.args.conn.now c.select-rows.new.conn (λ found. found) c.select-rows.result c.entry_found-nearest.result _ (seeks_below c.args.plate.now c.args.number) has
    (rw (c.params-to_sql.ensures, c.params-to_sql-2.ensures, c.as_str.ensures.value) at c.select-rows.ensures.selects) c.entry_found-nearest.ensures (λ _ _ _. refl))
    c.where_first.ensures (λ entries spent found lists is. ap (option_and_then first_alone) is)
