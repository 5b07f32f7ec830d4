-- The eleven tables, as the texts that make them say.
use Rattle.std.specs.Prelude.{ℕ, true, false, Bool, List, [], ◌∷◌, None, codes, bytes_eq}
use Rattle.std.specs.List.{list_any}
use Rattle.sqlite_value.specs.declared.value.Value.TheVariants.{Null}
use Rattle.sqlite_value.specs.declared.keys.Collation.TheVariants.{Binary}
use Rattle.sqlite_value.specs.Keys.{plain}
use Rattle.sqlite_schema.specs.declared.schema.Kind.{Kind}
use Rattle.sqlite_schema.specs.declared.schema.Kind.TheVariants.{Integer, Text, Blob}
use Rattle.sqlite_schema.specs.declared.schema.Column.{Column}
use Rattle.sqlite_schema.specs.declared.schema.Table.{Table}

-- a column of a STRICT table: its type, and whether it is NOT NULL
abbrev pub col : List ℕ → Kind → Bool → Column
col name kind required =
    record { name = name; kind = kind; is_strict = true; not_null = required; default = Null; collation = Binary }

-- a STRICT table with these columns and this PRIMARY KEY, and nothing else; columns are counted from 1
abbrev pub strict : List ℕ → List Column → List ℕ → Table
strict name columns key = record {
  name = name;
  tree = 0;
  columns = columns;
  key = None;
  primary = key;
  uniques = key ∷ [];
  orders = plain ∷ [];
  checks = [];
  references = [];
  computed = [];
  stamps = record { places = []; terms = []; formats = [] };
  is_counted = false;
}

abbrev pub meta : Table
meta = strict (codes "meta") (col (codes "word") Text true ∷ col (codes "val") Text true ∷ []) (1 ∷ [])

abbrev pub object : Table
object = strict (codes "object")
    (col (codes "base") Text true ∷ col (codes "nar") Blob true ∷ col (codes "hash") Blob true
    ∷ col (codes "deriver") Text false ∷ col (codes "ca") Text false ∷ []) (1 ∷ [])

abbrev pub refs : Table
refs = strict (codes "refs") (col (codes "base") Text true ∷ col (codes "target") Text true ∷ []) (1 ∷ 2 ∷ [])

abbrev pub outs : Table
outs = strict (codes "outs")
    (col (codes "base") Text true ∷ col (codes "name") Text true ∷ col (codes "target") Text true ∷ []) (1 ∷ 2 ∷ [])

abbrev pub permanent : Table
permanent = strict (codes "permanent") (col (codes "name") Text true ∷ col (codes "target") Text true ∷ []) (1 ∷ [])

abbrev pub user_root : Table
user_root =
    strict (codes "user_root") (col (codes "owner") Text true ∷ col (codes "name") Text true
    ∷ col (codes "target") Text true ∷ []) (1 ∷ 2 ∷ [])

abbrev pub profile : Table
profile = strict (codes "profile")
    (col (codes "owner") Text true ∷ col (codes "name") Text true ∷ col (codes "cur") Integer true ∷ []) (1 ∷ 2 ∷ [])

abbrev pub generation : Table
generation =
    strict (codes "generation")
    (col (codes "owner") Text true ∷ col (codes "name") Text true ∷ col (codes "num") Integer true
    ∷ col (codes "target") Text true ∷ []) (1 ∷ 2 ∷ 3 ∷ [])

abbrev pub runtime : Table
runtime = strict (codes "runtime") (col (codes "label") Text true ∷ col (codes "target") Text true ∷ []) (1 ∷ 2 ∷ [])

abbrev pub piece : Table
piece = strict (codes "piece")
    (col (codes "base") Text true ∷ col (codes "num") Integer true ∷ col (codes "bytes") Blob true ∷ []) (1 ∷ 2 ∷ [])

abbrev pub temp_root : Table
temp_root =
    strict (codes "temp_root")
    (col (codes "owner") Text true ∷ col (codes "session") Integer true ∷ col (codes "target") Text true ∷ [])
    (1 ∷ 2 ∷ 3 ∷ [])

-- the nine that every schema has, in the order in which they are made
abbrev pub store_tables : List Table
store_tables = meta ∷ object ∷ refs ∷ outs ∷ permanent ∷ user_root ∷ profile ∷ generation ∷ runtime ∷ []

-- the two that later schemas have besides: the second schema has the first of them, and the third both
abbrev pub further_tables : List Table
further_tables = piece ∷ temp_root ∷ []

-- all eleven, in the order in which they are made in a new database
abbrev pub all_tables : List Table
all_tables =
    meta ∷ object ∷ refs ∷ outs ∷ permanent ∷ user_root ∷ profile ∷ generation ∷ runtime ∷ piece ∷ temp_root ∷ []

-- one of the eleven has this name
abbrev pub names_store_table : List ℕ → Bool
names_store_table name = list_any (λ t. bytes_eq t.name name) all_tables
