use Rattle.wb_tables.proofs.Common.{state}
use Rattle.wb_tables.proofs.lemmas.meaning.OnlyAsks.{open_all_asks}
use Rattle.wb_tables.proofs.lemmas.open_weighings.Shown.{finds_all_open}
use Rattle.wb_tables.proofs.lemmas.open_weighings.Texts.{open_all_means}
use Rattle.wb_tables.proofs.lemmas.queries.Selects.{selects_weaker}
use Rattle.wb_tables.proofs.agreeing.rows_of_open.Goals as goal

pub returns-clause-reads : goal.returns-clause-reads
returns-clause-reads g c = c.select.ensures.reads (open_all_asks c.args.conn.now.schema)

pub returns-clause-shows : goal.returns-clause-shows
returns-clause-shows g c beside =
    selects_weaker g.S.Store c.args.conn.now c.select.new.conn c.select.result _ _ (λ rows sound shown. finds_all_open (state g.S.Store c.args.conn.now) (state g.S.Store c.select.new.conn) rows beside sound shown)
    (c.select.ensures.selects (open_all_means _ _ beside.table).plain)
