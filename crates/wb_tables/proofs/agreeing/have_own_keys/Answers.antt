use Rattle.std.proofs.Common.{subst}
use Rattle.wb_tables.proofs.Common.{state, open_in, AreOwnKeys}
use Rattle.wb_tables.proofs.lemmas.open_weighings.Agreed.{own_keys}
use Rattle.wb_tables.proofs.agreeing.have_own_keys.Goals as goal

pub returns-clause-own : goal.returns-clause-own
returns-clause-own g c beside clean are =
    own_keys (open_in (state g.S.Store c.args.conn.now).now) c.in_ok-rows.rows.items ((c.in_ok-rows.ensures.shows beside).shows clean) (subst AreOwnKeys c.as_slice.ensures.value (c.are_rising.ensures are))
