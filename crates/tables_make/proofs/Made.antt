-- What the store's tables hold once they are made, and that they are there.
use Rattle.std.proofs.Common.{◌≡◌, List, [], ◌∷◌, codes, true, false, if◌then◌else◌, bytes_eq, refl, sym, ap, subst}
use Rattle.std.proofs.Common.{◌∙◌}
use Rattle.std.specs.Prelude.{IsUtf8}
use Rattle.std.specs.Fmt.{digits}
use Rattle.std.specs.List.{AllByRecursion}
use Rattle.sqlite_value.specs.Order.{Row}
use Rattle.sqlite_trees.specs.Tree.{Trees}
use Rattle.sqlite_trees.proofs.ListLemmas.{all-append, all_weaker}
use Rattle.sqlite_schema.specs.declared.schema.Schema.{Schema}
use Rattle.sqlite_schema.specs.declared.schema.Table.{Table}
use Rattle.sqlite_catalog.specs.Change.{created, next_tree}
use Rattle.sqlite_tied.specs.Compute.{everything}
use Rattle.sqlite.specs.Effect.{Database, IsDatabase}
use Rattle.sqlite.specs.State.{State}
use Rattle.tables_schema.specs.Forms.{meta, object, refs, outs, permanent, user_root, profile, generation, runtime}
use Rattle.tables_schema.specs.Forms.{piece, temp_root, store_tables, further_tables, all_tables, names_store_table}
use Rattle.tables_schema.specs.Intact.{IsIntact}
use Rattle.tables_schema.specs.Presence.{IsFree, HasNone}
use Rattle.tables_sql.specs.Contents.{Bytes, contents_of, map_of, rows_named}
use Rattle.tables_sql.specs.Texts.{AreReadableRows, HasReadableRows}
use Rattle.tables_sql.specs.Calls.{IsKeyed, IsWhole, HasFurther}
use Rattle.tables_sql.proofs.Contents.{contents_alike}
use Rattle.tables_sql.proofs.Lists.{one_list}
use Rattle.tables_make.specs.NewTables.{IsMade, IsMadeIn, IsMadeOf, LeavesMade, AreSettings, first_contents, placed}
use Rattle.tables_make.specs.NewTables.{store_tables_created, other_tables, others_placed}
use Rattle.tables_make.proofs.FrozenThen.{frozen_before}
use Rattle.tables_sql.proofs.FurtherTables.{if_any_named}
use Rattle.tables_sql.proofs.ReadableFurther.{whole_readable}
use Rattle.tables_make.proofs.MakingTogether.{part}
use Rattle.tables_make.proofs.Creates.{tables_after, tree_is}
use Rattle.tables_make.proofs.Settles.{keyed_none}
use Rattle.tables_make.proofs.Placed.{Parts, ExistsAs, all_exist, each_exists, by_names, are_low}

abbrev pub nine : List Parts
nine =
    part meta ∷ part object ∷ part refs ∷ part outs ∷ part permanent ∷ part user_root ∷ part profile ∷ part generation
    ∷ part runtime ∷ []

-- all but `meta`
abbrev others : List Parts
others =
    part object ∷ part refs ∷ part outs ∷ part permanent ∷ part user_root ∷ part profile ∷ part generation
    ∷ part runtime ∷ part piece ∷ part temp_root ∷ []

-- what holds of all eleven holds of the nine, and of the further two
apart : (P : Table → Type 0) → AllByRecursion P all_tables → AllByRecursion P store_tables × (P piece × P temp_root)
apart P h = let both = one_list P store_tables further_tables h in (both.0, (both.1.0, both.1.1.0))

pub together : (P : Table → Type 0) → AllByRecursion P store_tables → AllByRecursion P further_tables
    → AllByRecursion P all_tables
together P = all-append P store_tables further_tables

-- all eleven are there, each with its tree
existing : (old : Database) → IsDatabase old → HasNone old.schema
    → AllByRecursion (ExistsAs (store_tables_created old.schema)) (placed old.schema all_tables)
unfolding store_tables_created digits everything
existing old sound none =
    all_exist old.schema (part meta ∷ others) refl (together (λ t. IsFree old.schema t.name) none.free none.further)
    (are_low old sound)

no_rows : (t : Table) (rows : List Row) → rows ≡ [] → AreReadableRows t rows
no_rows t rows is = subst (AreReadableRows t) (sym is) (λ row at present low. absurd present)

-- a further table that holds no row
pub made_further : (d : Database) (t : Table) → IsIntact d.schema t → rows_named d t.name ≡ [] → HasFurther d t
made_further d t exists none =
    record { exists = exists; keyed = subst IsKeyed (sym none) keyed_none; readable = no_rows t _ none }

module _ (dir : Bytes) (s : Schema) (d : Database) (sound : IsDatabase d)
    (stand : AllByRecursion (ExistsAs d.schema) (placed s all_tables))
    (settings : AreSettings dir (d.trees (next_tree s)))
    (empty : AllByRecursion (λ t. d.trees t.tree ≡ []) (others_placed s)) where
  own : rows_named d (codes "meta") ≡ d.trees (next_tree s)
  own = ap d.trees (tree_is d.schema _ stand.0.at stand.0.named)

  -- the others hold no row
  none : AllByRecursion (λ t. rows_named d t.name ≡ []) other_tables
  unfolding others_placed
  none = by_names (λ n. d.trees n ≡ []) d.schema (created s meta) others stand.1 empty

  exists : AllByRecursion (IsIntact d.schema) store_tables × (IsIntact d.schema piece × IsIntact d.schema temp_root)
  exists = apart (IsIntact d.schema) (each_exists d sound s (part meta ∷ others) stand)

  pieces : rows_named d piece.name ≡ []
  pieces = none.1.1.1.1.1.1.1.1.0

  temp_roots : rows_named d temp_root.name ≡ []
  temp_roots = none.1.1.1.1.1.1.1.1.1.0

  -- the settings in `meta`, and none in the others
  abbrev made_rows : Bytes → List Row
  made_rows name = if bytes_eq name (codes "meta") then d.trees (next_tree s) else []

  pub contents_made : contents_of d ≡ first_contents dir
  unfolding map_of
  contents_made =
      contents_alike (rows_named d) made_rows _ [] _ []
      (apart (λ t. rows_named d t.name ≡ made_rows t.name) (own, none)).0 (if_any_named d piece exists.1.0 ∙ pieces)
      (if_any_named d temp_root exists.1.1 ∙ temp_roots)
      ∙ ap (λ m. record (first_contents dir) { meta = m }) settings.settings

  keyed_made : AllByRecursion (λ t. IsKeyed (rows_named d t.name)) store_tables
  keyed_made =
      (apart (λ t. IsKeyed (rows_named d t.name)) (
        subst IsKeyed (sym own) settings.keyed,
        all_weaker (λ (t : Table). rows_named d t.name ≡ []) (λ t. IsKeyed (rows_named d t.name))
            (λ t is. subst IsKeyed (sym is) keyed_none) other_tables none,
      )).0

  readable_made : IsUtf8 dir → HasReadableRows d
  unfolding HasReadableRows
  readable_made utf8 =
      (apart (λ t. AreReadableRows t (rows_named d t.name)) (
        subst (AreReadableRows meta) (sym own) (settings.readable utf8),
        all_weaker (λ (t : Table). rows_named d t.name ≡ []) (λ t. AreReadableRows t (rows_named d t.name))
            (λ t is. no_rows t _ is) other_tables none,
      )).0

  pub whole_made : IsUtf8 dir → IsWhole d
  whole_made utf8 = record {
    of_store = record { sound = sound; has = exists.0; keyed = keyed_made; readable = readable_made utf8 };
    pieces = made_further d piece exists.1.0 pieces;
    temp_roots = made_further d temp_root exists.1.1 temp_roots;
  }

pub foreign_of : (old : Database) (trees : Trees) (ts : List Table)
    → AllByRecursion (λ t. trees t.tree ≡ old.trees t.tree) ts
    → AllByRecursion (λ t. names_store_table t.name ≡ false → trees t.tree ≡ old.trees t.tree) ts
foreign_of old trees ts kept =
    all_weaker (λ (t : Table). trees t.tree ≡ old.trees t.tree)
    (λ t. names_store_table t.name ≡ false → trees t.tree ≡ old.trees t.tree) (λ t same other. same) ts kept

own_placed : (s : Schema) → AllByRecursion (λ t. names_store_table t.name ≡ true) (placed s all_tables)
unfolding everything
own_placed s = (refl, (refl, (refl, (refl, (refl, (refl, (refl, (refl, (refl, (refl, (refl, tt)))))))))))

-- by the maps
pub made_is : (dir : Bytes) (old new : State) → IsDatabase old.now → HasNone old.now.schema → IsUtf8 dir
    → IsMadeIn dir old new → IsMade dir old new
made_is dir old new sound none utf8 h =
    let stand =
    subst (λ (s : Schema). AllByRecursion (ExistsAs s) (placed old.now.schema all_tables)) (sym h.schema)
    (existing old.now sound none) in
    let whole = whole_made dir old.now.schema new.now h.sound stand h.made.settings h.made.empty utf8 in
    record {
      was_open = h.was_open;
      is_open = h.is_open;
      schema = h.schema;
      contents = contents_made dir old.now.schema new.now h.sound stand h.made.settings h.made.empty;
      foreign_rows = foreign_of old.now new.now.trees old.now.schema.tables h.made.kept;
      frozen = h.made.frozen sound;
      whole = whole;
      readable = whole_readable new.now whole;
      ready = record { of_store = whole.of_store; settled = h.settled };
    }

pub leaves_made : (dir : Bytes) (old : Database) (trees : Trees) → IsDatabase old → HasNone old.schema → IsUtf8 dir
    → IsMadeOf dir old trees → LeavesMade dir old trees
unfolding store_tables_created
leaves_made dir old trees sound none utf8 h =
    let d : Database = record { schema = store_tables_created old.schema; trees = trees } in
    let stand = existing old sound none in
    let whole = whole_made dir old.schema d h.sound stand h.settings h.empty utf8 in
    record {
      whole = whole;
      readable = whole_readable d whole;
      left = record {
        of_store = contents_made dir old.schema d h.sound stand h.settings h.empty;
        foreign_rows =
            subst (AllByRecursion (λ (t : Table). names_store_table t.name ≡ false → trees t.tree ≡ old.trees t.tree))
            (sym (tables_after old.schema all_tables))
            (all-append (λ (t : Table). names_store_table t.name ≡ false → trees t.tree ≡ old.trees t.tree)
            old.schema.tables _ (foreign_of old trees old.schema.tables h.kept)
            (all_weaker (λ (t : Table). names_store_table t.name ≡ true)
            (λ t. names_store_table t.name ≡ false → trees t.tree ≡ old.trees t.tree)
            (λ t of_store other. absurd (let e = sym of_store ∙ other in cc)) (placed old.schema all_tables)
            (own_placed old.schema)));
        frozen =
            record {
              rows = λ tree is. (h.frozen sound).rows tree (frozen_before old.schema all_tables tree is);
              texts = (h.frozen sound).texts;
              version = (h.frozen sound).version;
            };
      };
    }
