-- Keys of rows, as a query shows them.
use Rattle.std.specs.Prelude.{◌≡◌, ℕ, ◌<◌, pos, List, [], ◌∷◌, map, Option, IfSome}
use Rattle.sqlite.specs.Order.{Row}
use Rattle.sqlite.specs.declared.types.Value.TheVariants.{Int}
pub use Rattle.wb_statements.specs.Rowids.{AreDistinct}

-- the key of a row, as a query shows it
abbrev pub key_row : ℕ → Row
key_row n = Int (pos n) ∷ []

-- the row shows this key, which is below this number, if there is one
abbrev pub ShowsKey : Row → Option ℕ → ℕ → Type 0
ShowsKey row above key = (row ≡ key_row key) × IfSome above (λ n. key < n)

-- the rows show keys, of which none stands a second time
abbrev pub AreOwnKeys : List Row → Type 0
AreOwnKeys rows = (keys : List ℕ) × (map key_row keys ≡ rows) × AreDistinct (map pos keys)
