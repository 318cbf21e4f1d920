-- The tables of a store, schema 1.
use Rattle.std.specs.Prelude.{ℕ, Bool, true, false, List, [], ◌∷◌, None, codes}
use Rattle.sqlite.specs.declared.types.Value.TheVariants.{Null}
use Rattle.sqlite.specs.Collation.TheVariants.{Binary}
use Rattle.sqlite.specs.Kind.{Kind}
use Rattle.sqlite.specs.Kind.TheVariants.{Integer, Text, Any}
use Rattle.sqlite.specs.Table.{Table}
use Rattle.sqlite.specs.Schema.{Schema}
use Rattle.sqlite.specs.Change.{created}
use Rattle.sqlite_schema.specs.declared.schema.Column.{Column}
use Rattle.sqlite_schema.specs.declared.schema.Index.{Index}
use Rattle.sqlite_value.specs.declared.keys.Order.{Order}
use Rattle.sqlite_value.specs.Keys.{plain}

-- a column of a type, which may have to hold a value
abbrev pub column_of : List ℕ → Kind → Bool → Column
column_of name kind not_null = record {
  name = name;
  kind = kind;
  is_strict = false;
  not_null = not_null;
  default = Null;
  collation = Binary;
}

-- the four columns of a stamp
abbrev pub stamp_columns : List Column
stamp_columns =
    column_of (codes "moment") Integer true
    ∷ column_of (codes "instance") Integer true
    ∷ column_of (codes "incarnation") Integer true
    ∷ column_of (codes "count") Integer true ∷ []

-- a table without a rowid of its own, whose key, if it has one, stands in an index
abbrev pub table_of : List ℕ → ℕ → List Column → List ℕ → List (List ℕ) → List Order → Table
table_of name tree columns primary uniques orders = record {
  name = name;
  tree = tree;
  columns = columns;
  key = None;
  primary = primary;
  uniques = uniques;
  orders = orders;
  checks = [];
  references = [];
  computed = [];
  stamps = record { places = []; terms = []; formats = [] };
  is_counted = false;
}

-- the index of a key
abbrev pub index_of : List ℕ → ℕ → ℕ → List ℕ → Index
index_of name tree table columns = record {
  name = name;
  tree = tree;
  table = table;
  columns = columns;
  order = plain;
  is_unique = true;
}

-- the version: one row with 1
abbrev pub version : ℕ → Table
version tree = table_of (codes "version") tree (column_of (codes "n") Integer true ∷ []) [] [] []

abbrev pub config_columns : List Column
config_columns = column_of (codes "tenant") Text true ∷ column_of (codes "body") Any false ∷ stamp_columns

-- the configurations, one a tenant; a deleted one has no body
abbrev pub config : ℕ → Table
config tree = table_of (codes "config") tree config_columns (1 ∷ []) ((1 ∷ []) ∷ []) (plain ∷ [])

abbrev pub silence_columns : List Column
silence_columns =
    column_of (codes "tenant") Text true
    ∷ column_of (codes "id") Text true
    ∷ column_of (codes "starts") Integer true
    ∷ column_of (codes "ends") Integer true
    ∷ column_of (codes "kept") Integer true
    ∷ column_of (codes "author") Any true
    ∷ column_of (codes "comment") Any true
    ∷ column_of (codes "matchers") Any true
    ∷ stamp_columns

-- the silences, one for each tenant and identifier
abbrev pub silence : ℕ → Table
silence tree = table_of (codes "silence") tree silence_columns (1 ∷ 2 ∷ []) ((1 ∷ 2 ∷ []) ∷ []) (plain ∷ [])

-- no table
abbrev pub no_schema : Schema
no_schema = record { tables = []; indexes = []; views = [] }

-- one table, and two
abbrev pub one_table : Schema
one_table = created no_schema (version 0)

abbrev pub two_tables : Schema
two_tables = created one_table (config 0)

-- the three tables: their rows lie in the trees 0, 1 and 3, the keys of the last two in 2 and 4
abbrev pub store_schema : Schema
store_schema = record {
  tables = version 0 ∷ config 1 ∷ silence 3 ∷ [];
  indexes =
      index_of (codes "sqlite_autoindex_config_1") 2 1 (1 ∷ [])
      ∷ index_of (codes "sqlite_autoindex_silence_1") 4 3 (1 ∷ 2 ∷ []) ∷ [];
  views = [];
}
