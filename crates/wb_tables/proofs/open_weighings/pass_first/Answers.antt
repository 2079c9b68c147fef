use Rattle.std.proofs.Common.{sym, ◌∙◌}
use Rattle.wb_tables.proofs.lemmas.open_weighings.Collected.{past_open}
use Rattle.wb_tables.proofs.open_weighings.pass_first.Goals as goal

pub returns-in-Ok-clause-passed : goal.returns-in-Ok-clause-passed
returns-in-Ok-clause-passed c es first held =
    rw c.in-Ok.ensures.items
    (past_open c.args.entry es _ _ held first (rw (← c.plate.ensures.value, ← c.as_str.ensures.value) (sym c.contains.ensures ∙ c.if-contains.false)) c.put_text.new.texts
    (rw (c.as_str-2.ensures.value, c.plate-2.ensures.value) at c.in_ok-put_text.ensures.put))
