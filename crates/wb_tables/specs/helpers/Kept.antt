-- A change of the rows of one table alone.
use Rattle.std.specs.Prelude.{◌≡◌, ◌≢◌, ℕ, List}
use Rattle.sqlite.specs.Effect.{Database, IsDatabase}
use Rattle.sqlite.specs.Order.{Row}
use Rattle.sqlite.specs.Schema.{Schema}
use Rattle.sqlite.specs.Table.{Table}
use Rattle.wb_tables.specs.HasTables.{HasTable}

-- the rows in this tree
abbrev pub rows_in : (Schema → ℕ) → Database → List Row
rows_in tree db = db.trees (tree db.schema)

-- the schema is as it was, and so are the rows of each table but the one in this tree
pub record ChangesOnly (tree : Schema → ℕ) (db after : Database) : Type 0 where
  pub schema : after.schema ≡ db.schema
  pub sound : IsDatabase db → IsDatabase after
  pub others : (table : Table) → HasTable db.schema table → table.tree ≢ tree db.schema → after.trees table.tree ≡ db.trees table.tree
