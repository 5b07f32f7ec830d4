-- That `meta` is made with its two settings.
use Rattle.std.proofs.Common.{◌≡◌, ◌≢◌, ◌<◌, ℕ, List, [], ◌∷◌, ◌++◌, codes, true, false, not, ◌&&◌, None, Ok, length}
use Rattle.std.proofs.Common.{refl, sym, ap, subst, ◌∙◌, arith, IsTrue}
use Rattle.std.specs.Prelude.{IsUtf8}
use Rattle.std.specs.FinMap as finite
use Rattle.std.specs.List.{AllByRecursion, IsDistinct}
use Rattle.sqlite_value.specs.Order.{Row}
use Rattle.sqlite_value.specs.declared.value.Value.TheVariants.{Int, Text}
use Rattle.sqlite_trees.specs.Tree.{put_row}
use Rattle.sqlite_trees.proofs.ListLemmas.{all_both}
use Rattle.sqlite_schema.specs.declared.schema.Schema.{Schema}
use Rattle.sqlite_schema.specs.declared.schema.Table.{Table}
use Rattle.sqlite_catalog.specs.Change.{created, next_tree}
use Rattle.sqlite_rules.proofs.ListLemmas.{all_from}
use Rattle.sqlite_catalog.proofs.StepLemmas.{table_below}
use Rattle.sqlite_rules.specs.Edit.{next_rowid, is_taken}
use Rattle.sqlite.specs.Does.{lacks_sequence}
use Rattle.sqlite.specs.Effect.{Database, IsDatabase}
use Rattle.sqlite.specs.State.{State, Shows, ExecutesInside}
use Rattle.tables_schema.specs.Forms.{meta}
use Rattle.tables_schema.specs.Intact.{IsNamed, tree_named}
use Rattle.tables_sql.specs.Contents.{Bytes, texts_cmp, is_pair, pair_of, map_of, rows_named}
use Rattle.tables_sql.specs.Texts.{AreReadableRows}
use Rattle.tables_sql.specs.Calls.{IsKeyed}
use Rattle.tables_make.specs.NewTables.{IsMaking, Makes, MakesMeta, MakesAll, IsMadeOf, AreSettings, first_settings}
use Rattle.tables_make.specs.NewTables.{IsPut, HasMeta, Puts, IsMadeIn, all_created, placed, store_tables_created}
use Rattle.tables_make.specs.NewTables.{others_placed, other_tables}
use Rattle.tables_schema.specs.Presence.{IsFree}
use Rattle.tables_sql.proofs.Orders.{texts_total, texts_antisymmetric}
use Rattle.tables_sql.proofs.Truths.{cast_null, free_of}
use Rattle.tables_sql.proofs.Means.{means_command}
use Rattle.tables_sql.proofs.Writes.{SetsRows, inserts_in}
use Rattle.tables_sql.proofs.Entries.{put_map}
use Rattle.tables_sql.proofs.Members.{keyed_put}
use Rattle.tables_sql.proofs.ReadableWrites.{put_readable}
use Rattle.tables_sql.proofs.Description.{terms_of}
use Rattle.tables_rows.proofs.SettingLemmas.{insert_text, insert_is, table as settings}
use Rattle.tables_sql.proofs.Lists.{one_list}
use Rattle.tables_sql.proofs.Frozen.{frozen_of}
use Rattle.tables_make.proofs.FrozenThen.{frozen_then}
use Rattle.tables_make.proofs.Creates.{kept_then, new_named, tree_is}

-- ---- where `meta` is that was just made

meta_named : (s : Schema) → IsFree s (codes "meta")
    → IsNamed (created s meta) (codes "meta") (length s.tables) (record meta { tree = next_tree s })
meta_named s h = new_named s meta.name meta.columns meta.primary h.table

pub meta_tree : (s : Schema) → IsFree s (codes "meta") → tree_named (created s meta) (codes "meta") ≡ next_tree s
meta_tree s h = tree_is (created s meta) (record meta { tree = next_tree s }) _ (meta_named s h)

pub has_meta : (a b : State) → IsFree a.now.schema (codes "meta") → Makes (meta ∷ []) a b → HasMeta b
has_meta a b free h =
    let s = a.now.schema in
    let own : IsNamed (created s meta) (codes "meta") (length s.tables)
    (record meta { tree = tree_named (created s meta) (codes "meta") }) =
    subst (λ n. IsNamed (created s meta) (codes "meta") (length s.tables) (record meta { tree = n }))
    (sym (meta_tree s free)) (meta_named s free) in
    record {
      named = λ is_open. (
        length s.tables,
        subst (λ (x : Schema). IsNamed x (codes "meta") (length s.tables)
            (record meta { tree = tree_named x (codes "meta") })) (sym h.schema) own,
      );
      mode = h.mode;
    }

pub has_still : (a b : State) (word value : Bytes) → HasMeta a → Puts word value a b → HasMeta b
has_still a b word value has h =
    record {
      named = λ is_open. subst
          (λ (x : Schema). (at : ℕ) × IsNamed x (codes "meta") at (record meta { tree = tree_named x (codes "meta") }))
          (sym h.schema) (has.named h.was_open);
      mode = h.mode;
    }

-- ---- no table has the next tree

-- each table has a tree below the next
pub trees_below : (s : Schema) → AllByRecursion (λ t. t.tree < next_tree s) s.tables
trees_below s = all_from (λ (t : Table). t.tree < next_tree s) s.tables (table_below s)

-- so those that a setting leaves keep their rows
put_keeps : (s : Schema) → IsFree s (codes "meta") → (word value : Bytes) (b c : State) → b.now.schema ≡ created s meta
    → Puts word value b c → AllByRecursion (λ t. c.now.trees t.tree ≡ b.now.trees t.tree) s.tables
put_keeps s free word value b c made p =
    let Keeps = λ (tree : ℕ) (t : Table). t.tree ≢ tree → c.now.trees t.tree ≡ b.now.trees t.tree in
    let others = subst (λ (x : Schema). AllByRecursion (Keeps (tree_named x (codes "meta"))) x.tables) made p.others in
    let here =
    one_list (Keeps (next_tree s)) s.tables _
    (subst (λ n. AllByRecursion (Keeps n) (created s meta).tables) (meta_tree s free) others) in
    all_both (λ (t : Table). t.tree < next_tree s) (Keeps (next_tree s)) (λ t. c.now.trees t.tree ≡ b.now.trees t.tree)
    (λ t low kept. kept (λ e. absurd (omega (arith, low, e)))) s.tables (trees_below s) here.0

-- ---- one setting

pub puts : (old new : State) (word value : Bytes) (count : ℕ) → HasMeta old
    → ExecutesInside 0 insert_text (Text word ∷ Text value ∷ []) old new (Ok count) → Puts word value old new
puts old new word value count has h =
    let found = has.named h.1.was_open in
    let tree = tree_named old.now.schema (codes "meta") in
    let m = means_command old.now.schema insert_text _ (insert_is old.now.schema found.0 tree found.1) in
    let it =
    inserts_in meta.name meta.columns meta.primary tree found.0 3 (terms_of settings) insert_text
    (Text word ∷ Text value ∷ []) old new count has.mode found.1.1 m.0 m.1 h.0 in
    let rows = old.now.trees tree in
    let row : Row = Int (next_rowid rows) ∷ Text word ∷ Text value ∷ [] in
    let fresh : (not (is_taken rows row) && true) ≡ true = rw cast_null at it.0.fresh in
    let free = free_of _ _ fresh in
    let sets : SetsRows old new tree (put_row row rows) = rw cast_null at it.1 in
    let made : IsPut word value rows (put_row row rows) =
    record {
      is = refl;
      keyed = keyed_put row rows free refl;
      readable = λ word_utf8 value_utf8. put_readable meta row rows (tt, (word_utf8, (value_utf8, tt)));
      put = λ none. put_map texts_total texts_antisymmetric is_pair pair_of row rows free refl none;
    } in
    let own : rows_named new.now (codes "meta") ≡ put_row row rows =
    ap (λ s. new.now.trees (tree_named s (codes "meta"))) sets.schema ∙ sets.rows_are in
    record {
      was_open = sets.was_open;
      is_open = sets.is_open;
      sound = sets.sound;
      schema = sets.schema;
      rows = subst (IsPut word value rows) (sym own) made;
      others = sets.others;
      frozen = λ sound. frozen_of old.now new.now.trees sound sets.unshown;
      committed = sets.committed;
      mode = sets.mode;
    }

-- ---- both

abbrev settings_in : List Row → finite.FinMap texts_cmp Bytes
settings_in = map_of texts_cmp is_pair pair_of

none_in_none : settings_in [] ≡ finite.from_entries []
unfolding map_of
none_in_none = refl

pub keyed_none : IsKeyed []
unfolding IsDistinct
keyed_none = record { ints = λ a h. absurd h; distinct_rowids = tt }

words_utf8 : IsUtf8 (codes "schema") × IsUtf8 (codes "3") × IsUtf8 (codes "store-dir")
unfolding lib.Utf8.encode
words_utf8 = ((codes "schema", (refl, refl)), (codes "3", (refl, refl)), (codes "store-dir", (refl, refl)))

pub meta_made : (dir : Bytes) (a b c d : State) → IsFree a.now.schema (codes "meta") → Makes (meta ∷ []) a b
    → Puts (codes "schema") (codes "3") b c → Puts (codes "store-dir") dir c d → MakesMeta dir a d
meta_made dir a b c d free h p q =
    let s = a.now.schema in
    let tree = next_tree s in
    let tree_b : tree_named b.now.schema (codes "meta") ≡ tree =
    ap (λ (x : Schema). tree_named x (codes "meta")) h.schema ∙ meta_tree s free in
    let tree_c : tree_named c.now.schema (codes "meta") ≡ tree =
    ap (λ (x : Schema). tree_named x (codes "meta")) p.schema ∙ tree_b in
    let tree_d : tree_named d.now.schema (codes "meta") ≡ tree =
    ap (λ (x : Schema). tree_named x (codes "meta")) q.schema ∙ tree_c in
    let rows_b : rows_named b.now (codes "meta") ≡ [] = ap b.now.trees tree_b ∙ h.empty.0 in
    let map_b : settings_in (rows_named b.now (codes "meta")) ≡ finite.from_entries [] =
    ap settings_in rows_b ∙ none_in_none in
    let free_b : finite.get (settings_in (rows_named b.now (codes "meta"))) (codes "schema") ≡ None =
    ap (λ m. finite.get m (codes "schema")) map_b ∙ finite.get-from_entries texts_total [] (codes "schema") in
    let map_c : settings_in (rows_named c.now (codes "meta"))
    ≡ finite.insert (finite.from_entries []) (codes "schema") (codes "3") =
    p.rows.put free_b ∙ ap (λ m. finite.insert m (codes "schema") (codes "3")) map_b in
    let after : finite.get (finite.insert (finite.from_entries []) (codes "schema") (codes "3")) (codes "store-dir")
    ≡ None = finite.get-insert texts_total (finite.from_entries []) (codes "schema") (codes "3") (codes "store-dir")
    ∙ finite.get-from_entries texts_total [] (codes "store-dir") in
    let free_c : finite.get (settings_in (rows_named c.now (codes "meta"))) (codes "store-dir") ≡ None =
    ap (λ m. finite.get m (codes "store-dir")) map_c ∙ after in
    let map_d : settings_in (rows_named d.now (codes "meta")) ≡ first_settings dir =
    q.rows.put free_c ∙ ap (λ m. finite.insert m (codes "store-dir") dir) map_c in
    let keyed : IsKeyed (rows_named d.now (codes "meta")) =
    q.rows.keyed (p.rows.keyed (subst IsKeyed (sym rows_b) keyed_none)) in
    let none : AreReadableRows meta (rows_named b.now (codes "meta")) =
    subst (AreReadableRows meta) (sym rows_b) (λ row at present low. absurd present) in
    let made : AreSettings dir (rows_named d.now (codes "meta")) =
    record {
      keyed = keyed;
      readable =
          λ utf8. q.rows.readable words_utf8.2 utf8 (p.rows.readable words_utf8.0 words_utf8.1 none);
      settings = map_d;
    } in
    let kept_c = put_keeps s free (codes "schema") (codes "3") b c h.schema p in
    let kept_d = put_keeps s free (codes "store-dir") dir c d (p.schema ∙ h.schema) q in
    record {
      was_open = h.was_open;
      is_open = q.is_open;
      sound = q.sound;
      schema = q.schema ∙ p.schema ∙ h.schema;
      kept =
          kept_then a.now.trees c.now.trees d.now.trees s.tables
          (kept_then a.now.trees b.now.trees c.now.trees s.tables h.kept kept_c) kept_d;
      settings = subst (λ n. AreSettings dir (d.now.trees n)) tree_d made;
      frozen =
          λ sound. frozen_then a.now b.now d.now.trees (meta ∷ []) h.schema (h.frozen sound)
          (frozen_then b.now c.now d.now.trees [] p.schema (p.frozen h.sound) (q.frozen p.sound));
      committed = q.committed ∙ p.committed ∙ h.committed;
      mode = q.mode;
    }

-- ---- all eleven

pub all_made : (dir : Bytes) (a b e : State) → MakesMeta dir a b → Makes other_tables b e → MakesAll dir a e
unfolding store_tables_created others_placed
all_made dir a b e h rest =
    let s = a.now.schema in
    let later : AllByRecursion (λ t. e.now.trees t.tree ≡ b.now.trees t.tree)
    (s.tables ++ record meta { tree = next_tree s } ∷ []) =
    subst (λ (x : Schema). AllByRecursion (λ t. e.now.trees t.tree ≡ b.now.trees t.tree) x.tables) h.schema
    rest.kept in
    let both =
    one_list (λ (t : Table). e.now.trees t.tree ≡ b.now.trees t.tree) s.tables
    (record meta { tree = next_tree s } ∷ []) later in
    record {
      was_open = h.was_open;
      is_open = rest.is_open;
      sound = rest.sound;
      schema = rest.schema ∙ ap (λ (x : Schema). all_created x other_tables) h.schema;
      made = record {
        sound =
            subst (λ (x : Schema). IsDatabase (record { schema = x; trees = e.now.trees }))
            (rest.schema ∙ ap (λ (x : Schema). all_created x other_tables) h.schema) rest.sound;
        kept = kept_then a.now.trees b.now.trees e.now.trees s.tables h.kept both.0;
        settings = subst (AreSettings dir) (sym both.1.0) h.settings;
        empty =
            subst (λ (x : Schema). AllByRecursion (λ t. e.now.trees t.tree ≡ []) (placed x other_tables)) h.schema
            rest.empty;
        frozen =
            λ sound. frozen_then a.now b.now e.now.trees (meta ∷ []) h.schema (h.frozen sound) (rest.frozen h.sound);
      };
      committed = rest.committed ∙ h.committed;
      mode = rest.mode;
    }

-- tables whose names are free can be made
pub making_free : (ts : List Table) (s : State) → (IsTrue s.is_open → IsDatabase s.now)
    → (IsTrue s.is_open → AllByRecursion (λ t. IsFree s.now.schema t.name) ts × (lacks_sequence s.now.schema ≡ false))
    → s.in_transaction ≡ true → IsMaking ts s
making_free ts s sound free mode =
    record { sound = sound; free = λ up. (free up).0; counted = λ up. (free up).1; mode = mode }

-- what was made and committed
pub committed_made : (dir : Bytes) (a b m n : State) → b.now ≡ a.now → b.is_open ≡ a.is_open → MakesAll dir b m
    → Shows m n m.now m.now false → IsMadeIn dir a n
committed_made dir a b m n now is_open h k = record {
  was_open = subst IsTrue is_open h.was_open;
  is_open = k.is_open;
  sound = subst IsDatabase (sym k.now_is) h.sound;
  schema =
      ap (λ (d : Database). d.schema) k.now_is ∙ h.schema ∙ ap (λ (d : Database). store_tables_created d.schema) now;
  made =
      subst (λ (d : Database). IsMadeOf dir d n.now.trees) now
      (subst (λ (d : Database). IsMadeOf dir b.now d.trees) (sym k.now_is) h.made);
  settled = k.now_is ∙ sym k.committed_is;
}
