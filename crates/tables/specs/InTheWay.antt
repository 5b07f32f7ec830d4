-- When tables of other programs are in the way of the store's. Then a database isn't opened, also if the store's tables
-- are sound or none of them exists.
use Rattle.std.specs.Prelude.{Bool, not, ◌||◌, ◌&&◌, is_some}
use Rattle.std.specs.List.{list_any}
use Rattle.sqlite_schema.specs.declared.schema.Schema.{Schema}
use Rattle.sqlite_schema.specs.declared.schema.Table.{Table}
use Rattle.sqlite_schema.specs.Names.{table_named, index_named, view_named}
use Rattle.sqlite.specs.Does.{lacks_sequence}
use Rattle.tables_schema.specs.Forms.{all_tables}
use Rattle.tables_schema.specs.Intact.{tree_named, is_unreferred, is_unshared, is_unguarded}
use Rattle.tables_schema.specs.Presence.{is_unawaited}

-- a table has the name of this one of the store's
abbrev pub is_present : Schema → Table → Bool
is_present s t = is_some (table_named s t.name)

-- the name of a table is used: by a table, an index, or a view, a trigger or a table that the schema doesn't show
abbrev pub is_name_used : Schema → Table → Bool
is_name_used s t = is_present s t || (is_some (index_named s t.name) || is_some (view_named s t.name))

-- some of the store's tables exist: one of the eleven names is in use
abbrev pub has_store_tables : Schema → Bool
has_store_tables s = list_any (is_name_used s) all_tables

-- a table exists, and something acts on it: a foreign key refers to it, a table of another name has its tree, or a
-- unique index other than that of its key keeps rows out of it
abbrev pub is_acted_on : Schema → Table → Bool
is_acted_on s t =
    is_present s t
    && not (is_unreferred s (tree_named s t.name)
    && (is_unshared s t.name (tree_named s t.name) && is_unguarded s (tree_named s t.name) t.primary))

-- a table is missing, and a foreign key waits for it
abbrev pub is_awaited : Schema → Table → Bool
is_awaited s t = not (is_present s t) && not (is_unawaited s t.name)

-- a table is missing and can't be made: it needs the counter of rowids, which is missing too
abbrev pub is_blocked : Schema → Table → Bool
is_blocked s t = not (is_present s t) && lacks_sequence s

-- tables of other programs are in the way: one of the store's tables is acted on, awaited or kept out
abbrev pub are_others_in_the_way : Schema → Bool
are_others_in_the_way s = list_any (λ t. is_acted_on s t || (is_awaited s t || is_blocked s t)) all_tables
