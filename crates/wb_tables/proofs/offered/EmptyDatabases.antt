-- Lemmas for the crates above: a database with nothing in it.
use Rattle.std.proofs.Common.{◌≡◌, [], refl, sym, subst}
use Rattle.wb_tables.proofs.Common.{Schema, LacksAll}

-- the four tables can be made there
pub lacks_all : (schema : Schema) → schema ≡ record { tables = []; indexes = []; views = [] } → LacksAll schema
lacks_all schema is = subst LacksAll (sym is) (record {
  about = record { no_table = refl; no_index = refl; no_view = refl; unnamed = refl };
  journal = record { no_table = refl; no_index = refl; no_view = refl; unnamed = refl };
  spent = record { no_table = refl; no_index = refl; no_view = refl; unnamed = refl };
  open_weighing = record { no_table = refl; no_index = refl; no_view = refl; unnamed = refl };
  counted = refl;
})
