-- What the texts mean that show the rowids and the texts of the store's tables, in any schema that has them.
use Rattle.std.proofs.Common.{◌≡◌, List, codes, None, refl}
use Rattle.std.specs.List.{AllByRecursion}
use Rattle.sqlite_tied.specs.Compute.{everything}
use Rattle.sqlite_schema.specs.Names.{column_named}
use Rattle.tables_schema.specs.StoreTables.{form}
use Rattle.tables_schema.specs.declared.store_table.StoreTable.{StoreTable}
use Rattle.tables_schema.specs.declared.store_table.StoreTable.TheVariants.{Meta, Object, Refs, Outs, Permanent}
use Rattle.tables_schema.specs.declared.store_table.StoreTable.TheVariants.{UserRoot, Profile, Generation, Runtime}
use Rattle.tables_schema.specs.declared.store_table.StoreTable.TheVariants.{Piece, TempRoot}
use Rattle.tables_rows.proofs.SettingLemmas as settings
use Rattle.tables_rows.proofs.ListingLemmas as listing
use Rattle.tables_rows.proofs.ReferenceLemmas as references
use Rattle.tables_rows.proofs.OutputLemmas as outputs
use Rattle.tables_rows.proofs.PermanentRootLemmas as permanent_roots
use Rattle.tables_rows.proofs.UserRootLemmas as user_roots
use Rattle.tables_rows.proofs.ProfileLemmas as profiles
use Rattle.tables_rows.proofs.GenerationLemmas as generations
use Rattle.tables_rows.proofs.RuntimeRootLemmas as runtime_roots
use Rattle.tables_rows.proofs.PieceKeyLemmas as piece_keys
use Rattle.tables_rows.proofs.TempRootLemmas as temp_roots
use Rattle.tables_sql.proofs.Ordered.{Place, IsColumn}
use Rattle.tables_recognize.specs.Tables.{rows_text}
use Rattle.tables_recognize.proofs.Asking.{Asks}
use Rattle.tables_recognize.proofs.OwnRowids.{query, names}
use Rattle.tables_recognize.proofs.RowQueries.{AreAsked, asks}

-- the columns that are shown: all but an archive and the bytes of a piece
abbrev pub places_of : StoreTable → List Place
places_of Meta = settings.places
places_of Object = listing.places
places_of Refs = references.places
places_of Outs = outputs.places
places_of Permanent = permanent_roots.places
places_of UserRoot = user_roots.places
places_of Profile = profiles.places
places_of Generation = generations.places
places_of Runtime = runtime_roots.places
places_of Piece = piece_keys.places
places_of TempRoot = temp_roots.places

columns_are : (t : StoreTable) → AllByRecursion (IsColumn (form t).name (form t).columns (form t).primary) (places_of t)
columns_are Meta = settings.places_are
columns_are Object = listing.places_are
columns_are Refs = references.places_are
columns_are Outs = outputs.places_are
columns_are Permanent = permanent_roots.places_are
columns_are UserRoot = user_roots.places_are
columns_are Profile = profiles.places_are
columns_are Generation = generations.places_are
columns_are Runtime = runtime_roots.places_are
columns_are Piece = piece_keys.places_are
columns_are TempRoot = temp_roots.places_are

-- no column is called so
bare : (t : StoreTable) → column_named (form t) (codes "rowid") ≡ None
unfolding everything
bare Meta = refl
bare Object = refl
bare Refs = refl
bare Outs = refl
bare Permanent = refl
bare UserRoot = refl
bare Profile = refl
bare Generation = refl
bare Runtime = refl
bare Piece = refl
bare TempRoot = refl

-- two columns, three or four
asked : (t : StoreTable) → AreAsked (form t).name (form t).columns (form t).primary (bare t) (places_of t) (rows_text t)
unfolding everything
asked Object = (
  (_, _, _, _, refl, refl, refl),
  (refl, (refl, (refl, (refl, tt)))),
  λ s at tree known. (rw (known.low, known.by_tree), rw (known.low, known.by_tree) refl),
)
asked Generation = (
  (_, _, _, _, refl, refl, refl),
  (refl, (refl, (refl, (refl, tt)))),
  λ s at tree known. (rw (known.low, known.by_tree), rw (known.low, known.by_tree) refl),
)
asked Outs = (
  (_, _, _, _, refl, refl, refl),
  (refl, (refl, (refl, tt))),
  λ s at tree known. (rw (known.low, known.by_tree), rw (known.low, known.by_tree) refl),
)
asked UserRoot = (
  (_, _, _, _, refl, refl, refl),
  (refl, (refl, (refl, tt))),
  λ s at tree known. (rw (known.low, known.by_tree), rw (known.low, known.by_tree) refl),
)
asked Profile = (
  (_, _, _, _, refl, refl, refl),
  (refl, (refl, (refl, tt))),
  λ s at tree known. (rw (known.low, known.by_tree), rw (known.low, known.by_tree) refl),
)
asked TempRoot = (
  (_, _, _, _, refl, refl, refl),
  (refl, (refl, (refl, tt))),
  λ s at tree known. (rw (known.low, known.by_tree), rw (known.low, known.by_tree) refl),
)
asked t = (
  (_, _, _, _, refl, refl, refl),
  (refl, (refl, tt)),
  λ s at tree known. (rw (known.low, known.by_tree), rw (known.low, known.by_tree) refl),
)

pub our_rows : (t : StoreTable)
    → Asks (form t).name (form t).columns (form t).primary (rows_text t) (names (places_of t)) (query (places_of t))
our_rows t =
    asks (form t).name (form t).columns (form t).primary (bare t) (rows_text t) (places_of t) (columns_are t) (asked t)
