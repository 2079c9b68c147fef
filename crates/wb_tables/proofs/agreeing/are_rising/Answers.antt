use Rattle.wb_tables.proofs.lemmas.open_weighings.Agreed.{all_read_keys, one_more_key}
use Rattle.wb_tables.proofs.agreeing.are_rising.Goals as goal

pub loop-rest-preserved : goal.loop-rest-preserved
loop-rest-preserved c =
    one_more_key c.args.rows.now c.loop-rest.rest.now c.row-item.result c.loop-rest.above c.in-Some.key
    c.in-len1-up.len_at_least c.row-item.is c.loop-rest.invariant c.in-Some.ensures

pub returns : goal.returns
returns c = λ _. all_read_keys c.args.rows.now c.loop-rest.rest.now c.loop-rest.above c.in_default.len_below c.loop-rest.invariant
