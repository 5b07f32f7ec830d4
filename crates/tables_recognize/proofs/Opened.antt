-- By which schema a connection is ready, where the rowids and texts that it shows were tested; and what is reported of
-- files that weren't opened.
use Rattle.std.proofs.Common.{◌≡◌, ◌≢◌, ◌↔◌, ◌<◌, ◌++◌, List, [], ◌∷◌, length, arith, Bool, true, false, Result, Ok}
use Rattle.std.proofs.Common.{Err, IfOk, IsTrue, refl, sym, ap, subst, ◌∙◌}
use Rattle.std.specs.List.{AllByRecursion}
use Rattle.sqlite_wal.specs.Recovery.{Image}
use Rattle.sqlite_schema.specs.declared.schema.Schema.{Schema as Shown}
use Rattle.sqlite_schema.specs.declared.schema.Table.{Table}
use Rattle.sqlite.specs.State.{State, IsUnchanged}
use Rattle.sqlite.specs.Files.{AreFoundIn}
use Rattle.sqlite.specs.Start.{FindsIn}
use Rattle.tables_schema.specs.declared.recognition.Recognised.{Recognised}
use Rattle.tables_schema.specs.declared.recognition.Recognised.TheVariants.{Nothing, Tables, Other}
use Rattle.tables_schema.specs.declared.schema.Schema.{Schema}
use Rattle.tables_schema.specs.declared.schema.Schema.TheVariants.{V1, V2, V3}
use Rattle.tables_schema.specs.Intact.{IsIntact}
use Rattle.tables_sql.specs.Texts.{AreReadable, AreReadableRows, HasReadableRows}
use Rattle.tables_schema.specs.declared.store_table.StoreTable.{StoreTable}
use Rattle.tables_schema.specs.StoreTables.{schema_tables, form}
use Rattle.tables_recognize.specs.Tables.{HasOwnRowids, HasReadableTexts}
use Rattle.tables_recognize.specs.Opened.{IsRecognised, IsBySchema, IsReadyBy, IsFound}
use Rattle.sqlite.specs.Effect.{Database, IsDatabase}
use Rattle.tables_sql.specs.declared.failure.Failed.{Failed}
use Rattle.tables_schema.specs.Forms.{piece, store_tables, further_tables}
use Rattle.tables_sql.specs.Contents.{contents_of, rows_named}
use Rattle.tables_sql.specs.Calls.{IsKeyed, IsStoreDatabase, IsWhole, HasFurther, IsReady}
use Rattle.sqlite.proofs.Callers.{unchanged_then}
use Rattle.tables_sql.proofs.ReadableMaps.{readable_by_maps}
use Rattle.tables_sql.proofs.ReadableFurther.{pieces_by_maps, temp_roots_by_maps, no_pieces, no_temp_roots}
use Rattle.sqlite_trees.proofs.ListLemmas.{all-append}
use Rattle.tables_sql.proofs.Lists.{one_list}

-- ---- what the tests told

-- rowids were tested, and then it was found of the texts: of what the connection showed at first
pub then_reported : (K R : Database → Type 0) (a m n : State) (r : Result Bool Failed) → IsUnchanged a m × K a.now
    → IfOk r (λ b. IsUnchanged m n × (IsTrue b ↔ R m.now))
    → IfOk r (λ b. IsUnchanged a n × K a.now × (IsTrue b ↔ R a.now))
then_reported K R a m n (Err e) keyed reported = tt
then_reported K R a m n (Ok b) keyed reported = (
  unchanged_then a m n keyed.0 reported.0,
  keyed.1,
  subst (λ (d : Database). IsTrue b ↔ R d) keyed.0.0.now_is reported.1,
)

-- ---- what is found then

module _ (r : Recognised) (a n : State) (by : IsRecognised r a.now.schema) (same : IsUnchanged a n)
    (settled : a.now ≡ a.committed) where
  still : (q : Recognised) → IsBySchema q a.now → IsBySchema q n.now
  still q = subst (IsBySchema q) (sym same.0.now_is)

  pub settled_still : n.now ≡ n.committed
  settled_still = same.0.now_is ∙ settled ∙ sym same.0.committed_is

  -- the texts can be read
  pub found_so : AreReadable (contents_of a.now) → IsReadyBy r n → IsFound r n
  found_so readable ready = record {
    by_schema = still r (record {
      nothing = by.nothing;
      first = (λ is. (by.first.0 is, readable), λ both. by.first.1 both.0);
      second = (λ is. (by.second.0 is, readable), λ both. by.second.1 both.0);
      third = (λ is. (by.third.0 is, readable), λ both. by.third.1 both.0);
    });
    ready = ready;
    settled = settled_still;
  }

  -- they can't
  pub found_other : r ≢ Nothing → ¬ AreReadable (contents_of a.now) → IsFound Other n
  found_other some unreadable = record {
    by_schema = still Other (record {
      nothing = (λ is. absurd cc, λ none. absurd (some (by.nothing.1 none)));
      first = (λ is. absurd cc, λ both. absurd (unreadable both.1));
      second = (λ is. absurd cc, λ both. absurd (unreadable both.1));
      third = (λ is. absurd cc, λ both. absurd (unreadable both.1));
    });
    ready = tt;
    settled = settled_still;
  }

  -- by a test that says whether they can
  pub found_if : (P : Type 0) (b : Bool) → IsTrue b ↔ P → P ↔ AreReadable (contents_of a.now) → (P → IsReadyBy r n)
      → r ≢ Nothing → (b ≡ true → IsFound r n) × (b ≡ false → IsFound Other n)
  found_if P b reported maps ready some = (
    λ yes. found_so (maps.0 (reported.0 yes)) (ready (reported.0 yes)),
    λ no. found_other some (λ readable. let yes : b ≡ true = reported.1 (maps.1 readable) in absurd cc),
  )

-- there are no tables of the store, or they are no schema's
pub found_none : (r : Recognised) (a n : State) → IsRecognised r a.now.schema → IsUnchanged a n → a.now ≡ a.committed
    → ((v : Schema) → r ≢ Tables v) → IsFound r n
found_none (Tables v) a n by same settled not = absurd (not v refl)
found_none r a n by same settled not = record {
  by_schema = subst (IsBySchema r) (sym same.0.now_is) (record {
    nothing = by.nothing;
    first = (λ is. absurd (not V1 is), λ both. by.first.1 both.0);
    second = (λ is. absurd (not V2 is), λ both. by.second.1 both.0);
    third = (λ is. absurd (not V3 is), λ both. by.third.1 both.0);
  });
  ready = tt;
  settled = settled_still r a n by same settled;
}

-- ---- by each schema

-- what the tests of these tables told
abbrev pub Tested : List StoreTable → State → State → Bool → Type 0
Tested ts a n b =
    IsUnchanged a n × AllByRecursion (HasOwnRowids a.now) ts × (IsTrue b ↔ AllByRecursion (HasReadableTexts a.now) ts)

module _ (a n : State) (b : Bool) (sound : IsDatabase a.now) (settled : a.now ≡ a.committed) where
  abbrev Keyed : Table → Type 0
  Keyed t = IsKeyed (rows_named a.now t.name)

  abbrev Readable : Table → Type 0
  Readable t = AreReadableRows t (rows_named a.now t.name)

  ready_by : IsUnchanged a n → IsStoreDatabase a.now → IsReady n
  ready_by same of_store =
      record {
        of_store = subst IsStoreDatabase (sym same.0.now_is) of_store;
        settled = same.0.now_is ∙ settled ∙ sym same.0.committed_is;
      }

  pub found_by : (v : Schema) → IsRecognised (Tables v) a.now.schema → Tested (schema_tables v) a n b
      → (b ≡ true → IsFound (Tables v) n) × (b ≡ false → IsFound Other n)
  unfolding HasReadableRows
  found_by V1 by reported =
      let has = by.first.0 refl in
      let maps =
      readable_by_maps a.now sound has.0 reported.1 _ _ (no_pieces a.now has.1) (no_temp_roots a.now has.2) in
      found_if (Tables V1) a n by reported.0 settled (HasReadableRows a.now) b reported.2
      (λ rows. maps.0 (rows, tt, tt), λ readable. (maps.1 readable).0)
      (λ rows. ready_by reported.0 (record { sound = sound; has = has.0; keyed = reported.1; readable = rows }))
      (λ is. absurd cc)
  found_by V2 by reported =
      let has = by.second.0 refl in
      let keyed = one_list Keyed store_tables (piece ∷ []) reported.1 in
      let maps =
      readable_by_maps a.now sound has.0 keyed.0 _ _ (pieces_by_maps a.now sound has.1 keyed.1.0)
      (no_temp_roots a.now has.2) in
      found_if (Tables V2) a n by reported.0 settled (AllByRecursion Readable (store_tables ++ piece ∷ [])) b
      reported.2 (
        λ rows. let each = one_list Readable store_tables (piece ∷ []) rows in
            maps.0 (each.0, each.1.0, tt),
        λ readable. let all = maps.1 readable in
            all-append Readable store_tables (piece ∷ []) all.0 (all.1, tt),
      )
      (λ rows.
      let each = one_list Readable store_tables (piece ∷ []) rows in (
        ready_by reported.0 (record { sound = sound; has = has.0; keyed = keyed.0; readable = each.0 }),
        subst (λ (d : Database). HasFurther d piece) (sym reported.0.0.now_is)
            (record { exists = has.1; keyed = keyed.1.0; readable = each.1.0 }),
      )) (λ is. absurd cc)
  found_by V3 by reported =
      let has = by.third.0 refl in
      let keyed = one_list Keyed store_tables further_tables reported.1 in
      let maps =
      readable_by_maps a.now sound has.0 keyed.0 _ _ (pieces_by_maps a.now sound has.1 keyed.1.0)
      (temp_roots_by_maps a.now sound has.2 keyed.1.1.0) in
      found_if (Tables V3) a n by reported.0 settled (AllByRecursion Readable (store_tables ++ further_tables)) b
      reported.2 (
        λ rows. let each = one_list Readable store_tables further_tables rows in
            maps.0 (each.0, each.1.0, each.1.1.0),
        λ readable. let all = maps.1 readable in
            all-append Readable store_tables further_tables all.0 (all.1, (all.2, tt)),
      )
      (λ rows.
      let each = one_list Readable store_tables further_tables rows in
      let of_store : IsStoreDatabase a.now =
      record { sound = sound; has = has.0; keyed = keyed.0; readable = each.0 } in (
        ready_by reported.0 of_store,
        subst IsWhole (sym reported.0.0.now_is) (record {
          of_store = of_store;
          pieces = record { exists = has.1; keyed = keyed.1.0; readable = each.1.0 };
          temp_roots = record { exists = has.2; keyed = keyed.1.1.0; readable = each.1.1.0 };
        }),
      )) (λ is. absurd cc)

-- ---- which tables are there, and why it fails

pub intact_by : (v : Schema) (s : Shown) → IsRecognised (Tables v) s
    → AllByRecursion (λ t. IsIntact s (form t)) (schema_tables v)
intact_by V1 s by = (by.first.0 refl).0
intact_by V2 s by = let has = by.second.0 refl in all-append (IsIntact s) store_tables (piece ∷ []) has.0 (has.1, tt)
intact_by V3 s by = let has =
    by.third.0 refl in all-append (IsIntact s) store_tables further_tables has.0 (has.1, (has.2, tt))

pub some_tables : (v : Schema) → 0 < length (schema_tables v)
some_tables V1 = omega arith
some_tables V2 = omega arith
some_tables V3 = omega arith

-- what the file held is what the last commit still is
pub held_still : (image : Image) (old new : State) → new.committed ≡ old.committed → FindsIn image old
    → FindsIn image new
held_still image old new same h =
    record {
      holds = λ db held. ap (λ (d : Database). d.trees) same ∙ h.holds db held;
      reads = subst (λ (d : Database). AreFoundIn image d.trees) (sym same) h.reads;
    }
