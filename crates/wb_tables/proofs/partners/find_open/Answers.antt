use Rattle.std.proofs.Common.{sym, ◌∙◌}
use Rattle.wb_tables.proofs.lemmas.queries.LookUps.{looks_up_then}
use Rattle.wb_tables.proofs.lemmas.open_weighings.LookUps.{open_listed}
use Rattle.wb_tables.proofs.partners.find_open.Goals as goal

pub returns-in-Some-clause-finds : goal.returns-in-Some-clause-finds
returns-in-Some-clause-finds g c have beside =
    looks_up_then g.S.Store c.args.conn.now c.find_open_number.new.conn c.find_listed.new.conn c.in_ok-number.field-0 c.find_listed.result _ _ _ have
    (c.in_ok-number.ensures.finds beside) c.find_listed.ensures.clean c.find_listed.ensures.finds
    (λ entries spent found lists number is open_rows. open_listed entries c.args.plate.now c.in-Some.number found lists.rising (sym c.in-Some.is ∙ number open_rows) is)
