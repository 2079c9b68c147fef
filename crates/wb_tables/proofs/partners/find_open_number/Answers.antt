use Rattle.wb_tables.proofs.Common.{state}
use Rattle.wb_tables.proofs.lemmas.open_weighings.LookUps.{looks_up_open_number}
use Rattle.wb_tables.proofs.lemmas.open_weighings.Shown.{finds_open}
use Rattle.wb_tables.proofs.lemmas.open_weighings.Texts.{open_means}
use Rattle.wb_tables.proofs.lemmas.queries.Selects.{selects_weaker}
use Rattle.wb_tables.proofs.partners.find_open_number.Goals as goal

pub returns-clause-finds : goal.returns-clause-finds
returns-clause-finds g c beside =
    let old = state g.S.Store c.args.conn.now in
    let new = state g.S.Store c.select-rows.new.conn in
    let selected = rw (c.params-to_sql.ensures, c.as_str.ensures.value) at (c.select-rows.ensures.selects (open_means _ _ beside.table).plain) in
    looks_up_open_number g.S.Store c.args.conn.now c.select-rows.new.conn c.select-rows.result c.open_number.result c.args.plate.now
    (selects_weaker g.S.Store c.args.conn.now c.select-rows.new.conn c.select-rows.result _ _ (λ rows sound shown entries rises open_rows. finds_open old new c.args.plate.now rows beside shown entries rises open_rows) selected)
    c.open_number.ensures
