-- The tables of a store, in version 2, and the former version 1 (this project's own).
use Rattle.std.specs.Prelude.{ℕ, true, false, Bool, List, [], ◌∷◌, Some, None, codes}
use Rattle.sqlite.specs.Collation.TheVariants.{Binary}
use Rattle.sqlite.specs.declared.types.Value.TheVariants.{Null}
use Rattle.sqlite.specs.Kind.{Kind}
use Rattle.sqlite.specs.Kind.TheVariants.{Integer, Text}
use Rattle.sqlite.specs.Table.{Table}
use Rattle.sqlite_schema.specs.declared.schema.Column.{Column}
use Rattle.sqlite_value.specs.Keys.{plain}
use Rattle.wb_tables.specs.declared.tables.Version.{Version}
use Rattle.wb_tables.specs.declared.tables.Version.TheVariants.{One, Two}

-- a column of a STRICT table
abbrev pub column_of : List ℕ → Kind → Bool → Column
column_of name kind not_null = record { name = name; kind = kind; is_strict = true; not_null = not_null; default = Null; collation = Binary }

-- the version of the tables; each table has its rows in a tree, which the database chooses
abbrev pub about_table : ℕ → Table
about_table tree = record {
  name = codes "about";
  tree = tree;
  columns = column_of (codes "name") Text true ∷ column_of (codes "value") Integer true ∷ [];
  key = None;
  primary = 1 ∷ [];
  uniques = (1 ∷ []) ∷ [];
  orders = plain ∷ [];
  checks = [];
  references = [];
  computed = [];
  stamps = record { places = []; terms = []; formats = [] };
  is_counted = false;
}

-- the column that version 2 has more: the digest of the entry one number below
abbrev pub link_columns : Version → List Column
link_columns One = []
link_columns Two = column_of (codes "previous") Text true ∷ []

-- the entries that stand
abbrev pub journal_of : Version → ℕ → Table
journal_of version tree = record {
  name = codes "journal";
  tree = tree;
  columns = column_of (codes "number") Integer false
      ∷ column_of (codes "request_key") Text true
      ∷ column_of (codes "kind") Integer true
      ∷ column_of (codes "plate") Text true
      ∷ column_of (codes "moment") Integer true
      ∷ column_of (codes "gross_kg") Integer false
      ∷ column_of (codes "preset_kg") Integer false
      ∷ column_of (codes "interval_kg") Integer true
      ∷ column_of (codes "max_kg") Integer true
      ∷ column_of (codes "serial") Text true
      ∷ column_of (codes "digest") Text true ∷ link_columns version;
  key = Some 0;
  primary = 0 ∷ [];
  uniques = (2 ∷ []) ∷ [];
  orders = plain ∷ [];
  checks = [];
  references = [];
  computed = [];
  stamps = record { places = []; terms = []; formats = [] };
  is_counted = false;
}

abbrev pub journal_table : ℕ → Table
journal_table = journal_of Two

-- the keys of the entries that were purged
abbrev pub spent_table : ℕ → Table
spent_table tree = record {
  name = codes "spent";
  tree = tree;
  columns = column_of (codes "request_key") Text true ∷ column_of (codes "number") Integer true ∷ [];
  key = None;
  primary = 1 ∷ [];
  uniques = (1 ∷ []) ∷ (2 ∷ []) ∷ [];
  orders = plain ∷ plain ∷ [];
  checks = [];
  references = [];
  computed = [];
  stamps = record { places = []; terms = []; formats = [] };
  is_counted = false;
}

-- the open weighing of each plate that has one
abbrev pub open_weighing_table : ℕ → Table
open_weighing_table tree = record {
  name = codes "open_weighing";
  tree = tree;
  columns = column_of (codes "plate") Text true ∷ column_of (codes "number") Integer true ∷ [];
  key = None;
  primary = 1 ∷ [];
  uniques = (1 ∷ []) ∷ (2 ∷ []) ∷ [];
  orders = plain ∷ plain ∷ [];
  checks = [];
  references = [];
  computed = [];
  stamps = record { places = []; terms = []; formats = [] };
  is_counted = false;
}
