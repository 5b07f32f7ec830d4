-- Why one of the two settings isn't stored in a new `meta`: the directory is too long, or a limit on steps stops the
-- statement.
use Rattle.std.proofs.Common.{◌≡◌, ◌⊎◌, inl, inr, ◌+◌, ◌≤◌, ◌<◌, ◌^◌, ℕ, ℤ, pos, negsuc, List, [], ◌∷◌, codes, true}
use Rattle.std.proofs.Common.{false, length, refl, sym, ap, subst, ◌∙◌, arith, IsTrue}
use Rattle.std.specs.Prelude.{nat_lt, IsSome}
use Rattle.std.specs.Float.{NotNan}
use Rattle.std.specs.List.{AllByRecursion, list_any}
use Rattle.std.proofs.lemmas.Bool.{ltb-true, ltb-false, cases_Bool, both_ways}
use Rattle.std.proofs.lemmas.Nat.Bits.{bit_at-zero}
use Rattle.std.proofs.lemmas.List.Elements.{All-from_recursion}
use Rattle.sqlite_value.specs.Keys.{plain, first_key}
use Rattle.sqlite_value.specs.Order.{Row, number, value_cmp}
use Rattle.sqlite_value.specs.declared.value.Value.TheVariants.{Int, Text}
use Rattle.sqlite_trees.specs.Tree.{put_row, has_rowid}
use Rattle.sqlite_trees.specs.View.{IsStorable, IsStorableRow}
use Rattle.sqlite_trees.proofs.ListLemmas.{all-append, all_weaker}
use Rattle.sqlite_sql.specs.Ops.{binary, fits_i64}
use Rattle.sqlite_sql.specs.Catalog.{entry_of}
use Rattle.sqlite_schema.specs.declared.schema.Schema.{Schema}
use Rattle.sqlite_schema.specs.declared.schema.Index.{Index}
use Rattle.sqlite_schema.specs.declared.command.Source.TheVariants.{Values}
use Rattle.sqlite_schema.specs.declared.command.Command.TheVariants.{Insert}
use Rattle.sqlite_schema.specs.Rules.{agree, index_reals}
use Rattle.sqlite_rules.specs.Lists.{Has}
use Rattle.sqlite_rules.specs.Edit.{next_rowid, IsOversized}
use Rattle.sqlite_rules.proofs.ListLemmas.{all_has}
use Rattle.sqlite_catalog.specs.Change.{created, next_tree}
use Rattle.sqlite_tied.specs.Compute.{everything}
use Rattle.sqlite.specs.Effect.{Database, IsDatabase}
use Rattle.sqlite.specs.State.{State}
use Rattle.tables_sql.specs.declared.failure.Failed.{Failed}
use Rattle.tables_schema.specs.Forms.{meta}
use Rattle.tables_schema.specs.Intact.{IsIntact, tree_named}
use Rattle.tables_schema.specs.Presence.{IsFree}
use Rattle.tables_sql.specs.Contents.{Bytes, rows_named}
use Rattle.tables_sql.specs.Failures.{FailsWith, IsWriteFailure, IsTooLarge, HasNoRowidLeft}
use Rattle.tables_make.specs.NewTables.{Makes, Puts, placed, IsTooLong, RunsOutOfTrees, IsIndexNameUsed}
use Rattle.tables_make.specs.NewTables.{FailsToMakeThese}
use Rattle.tables_sql.proofs.Truths.{cast_null}
use Rattle.tables_sql.proofs.Description.{terms_of}
use Rattle.tables_rows.proofs.SettingLemmas.{insert_text, insert_is, table as settings}
use Rattle.tables_sql.proofs.WriteFailures as write
use Rattle.tables_sql.proofs.Additions.{IsNewKey, insert_stops}
use Rattle.tables_make.proofs.Settles.{meta_tree}
use Rattle.tables_make.proofs.Placed.{AreLow, ExistsAs, are_low, all_exist, each_exists}
use Rattle.tables_make.proofs.MakingFailures.{reported}
use Rattle.tables_make.proofs.MakingTogether.{part, fails_then}

-- ---- the rows

abbrev pub row_of : List Row → Bytes → Bytes → Row
row_of rows word value = Int (next_rowid rows) ∷ Text word ∷ Text value ∷ []

-- a setting of this word is a new one among these rows, and gets a rowid
record IsNew (rows : List Row) (word value : Bytes) : Type 0 where
  pub fits : fits_i64 (next_rowid rows) ≡ true
  pub fresh : list_any (has_rowid (next_rowid rows)) rows ≡ false
  pub apart : (r : Row) → Has rows r → agree plain (1 ∷ []) r (1 ∷ []) (row_of rows word value) ≡ false

abbrev first_row : Row
first_row = Int (pos 1) ∷ Text (codes "schema") ∷ Text (codes "3") ∷ []

first_new : IsNew [] (codes "schema") (codes "3")
first_new = record { fits = refl; fresh = refl; apart = λ r none. absurd none }

second_new : (dir : Bytes) → IsNew (first_row ∷ []) (codes "store-dir") dir
unfolding binary first_key value_cmp lib.Ieee.is_nan lib.Ieee.lt
second_new dir = record { fits = refl; fresh = refl; apart = only }
  where
    only : (r : Row) → Has (first_row ∷ []) r
        → agree plain (1 ∷ []) r (1 ∷ []) (row_of (first_row ∷ []) (codes "store-dir") dir) ≡ false
    only r (inl same) = rw same refl
    only r (inr none) = absurd none

-- ---- sizes

whole : (n : ℤ) → NotNan (number (Int n))
unfolding lib.Ieee.is_nan
whole (pos n) = tt
whole (negsuc n) = tt

storable_row : (n : ℤ) (a b : Bytes) → length a + length b + 54 ≤ 10 ^ 9
    → IsStorableRow 0 (Int n ∷ Text a ∷ Text b ∷ [])
unfolding lib.Ieee.is_nan
storable_row n a b short = (
  record {
    typed = λ c set. absurd (omega (arith, bit_at-zero c));
    columns = (omega arith, omega arith);
    numbers = All-from_recursion (λ v. NotNan (number v)) (Int n ∷ Text a ∷ Text b ∷ []) (whole n, (tt, (tt, tt)));
    short = omega arith;
  },
  omega arith,
)

storable_key : (n : ℤ) (a : Bytes) → length a + 36 ≤ 10 ^ 9 → IsStorable 0 (Text a ∷ Int n ∷ [])
unfolding lib.Ieee.is_nan
storable_key n a short =
    record {
      typed = λ c set. absurd (omega (arith, bit_at-zero c));
      columns = (omega arith, omega arith);
      numbers = All-from_recursion (λ v. NotNan (number v)) (Text a ∷ Int n ∷ []) (tt, (whole n, tt));
      short = omega arith;
    }

-- the table's one index is that of its key
abbrev HasOwnIndex : Schema → ℕ → Type 0
HasOwnIndex s tree = AllByRecursion (λ i. i.table ≡ tree → i.columns ≡ 1 ∷ []) s.indexes

own_index : (s : Schema) → AreLow s → HasOwnIndex (created s meta) (next_tree s)
own_index s low =
    all-append (λ (i : Index). i.table ≡ next_tree s → i.columns ≡ 1 ∷ []) s.indexes _
    (all_weaker (λ (i : Index). i.table < next_tree s) (λ i. i.table ≡ next_tree s → i.columns ≡ 1 ∷ [])
    (λ i below same. absurd (omega (arith, below, same))) s.indexes low) ((λ same. refl), tt)

-- a row of a short word is too large for its value alone
oversized : (s : Schema) (tree : ℕ) (id : ℤ) (word value : Bytes) → HasOwnIndex s tree → length word + 36 ≤ 10 ^ 9
    → IsOversized s (record meta { tree = tree }) (Int id ∷ Text word ∷ Text value ∷ [])
    → 10 ^ 9 < length word + length value + 54
oversized s tree id word value own short (inl large) =
    elim (cases_Bool (nat_lt (10 ^ 9) (length word + length value + 54))) [
      | inl more ↦ ltb-true _ _ more
      | inr less ↦ absurd (large (storable_row id word value (ltb-false _ _ less)))
    ]
oversized s tree id word value own short (inr (i, listed, its, large)) =
    absurd (subst (λ columns. ¬ IsStorable (index_reals 0 columns)
    (entry_of columns (Int id ∷ Text word ∷ Text value ∷ [])))
    (all_has (λ (x : Index). x.table ≡ tree → x.columns ≡ 1 ∷ []) s.indexes i own listed its) large
    (storable_key id word short))

-- ---- one setting more

no_rowid_misses : (db : Database) (rows : List Row) (word value : Bytes) → rows_named db meta.name ≡ rows
    → IsNew rows word value → HasNoRowidLeft db meta → ⊥
unfolding HasNoRowidLeft
no_rowid_misses db rows word value has new (inl unfit) =
    both_ways _ (subst (λ r. fits_i64 (next_rowid r) ≡ false) has unfit) new.fits
no_rowid_misses db rows word value has new (inr loaded) =
    both_ways _ new.fresh (subst (λ r. list_any (has_rowid (next_rowid r)) r ≡ true) has loaded)

new_key : (db : Database) (rows : List Row) (word value : Bytes) → rows_named db meta.name ≡ rows
    → IsNew rows word value → IsNewKey meta.name meta.primary db (Text word ∷ Text value ∷ [])
new_key db rows word value has new =
    subst (λ all. (r : Row) → Has all r → agree plain (1 ∷ []) r (1 ∷ []) (row_of all word value) ≡ true → ⊥) (sym has)
    (λ r present same. both_ways _ (new.apart r present) same)

too_long : (db : Database) (word value : Bytes) → HasOwnIndex db.schema (tree_named db.schema meta.name)
    → length word + 36 ≤ 10 ^ 9 → IsTooLarge db meta (Text word ∷ Text value ∷ [])
    → 10 ^ 9 < length word + length value + 54
unfolding IsTooLarge
too_long db word value own short large =
    oversized db.schema (tree_named db.schema meta.name) (next_rowid (rows_named db meta.name)) word value own short
    large

module _ (a : State) (free : IsFree a.now.schema (codes "meta")) (sound : IsDatabase a.now) where
  exists_in : (db : Database) → IsDatabase db → db.schema ≡ created a.now.schema meta → IsIntact db.schema meta
  unfolding everything
  exists_in db sound_there made =
      (each_exists db sound_there a.now.schema (part meta ∷ [])
      (subst (λ s. AllByRecursion (ExistsAs s) (placed a.now.schema (meta ∷ []))) (sym made)
      (all_exist a.now.schema (part meta ∷ []) refl (free, tt) (are_low a.now sound)))).0

  -- `meta` is there with these rows, and gets one more
  in_meta : (b c : State) (rows : List Row) (word value : Bytes) (large : Type 0) → IsTrue a.is_open
      → b.now.schema ≡ created a.now.schema meta → IsTrue b.is_open → IsDatabase b.now
      → rows_named b.now meta.name ≡ rows → IsNew rows word value → length word + 36 ≤ 10 ^ 9
      → (10 ^ 9 < length word + length value + 54 → large) → a.faults ≤ b.faults → b.step_limit ≡ a.step_limit
      → (f : Failed) → IsWriteFailure insert_text (Text word ∷ Text value ∷ []) b c f
      → FailsToMakeThese (meta ∷ []) large (IsSome a.step_limit) a c f
  in_meta b c rows word value large was_open made is_open sound_b has new short grows rise limit f h =
      let exists = exists_in b.now sound_b made in
      let values = Text word ∷ Text value ∷ [] in
      let tree : tree_named b.now.schema meta.name ≡ next_tree a.now.schema =
      ap (λ (s : Schema). tree_named s meta.name) made ∙ meta_tree a.now.schema free in
      let own =
      subst (λ n. HasOwnIndex b.now.schema n) (sym tree)
      (subst (λ s. HasOwnIndex s (next_tree a.now.schema)) (sym made)
      (own_index a.now.schema (are_low a.now sound))) in
      let Refused = IsSome b.step_limit ⊎ (HasNoRowidLeft b.now meta ⊎ ⊥) in
      let it =
      write.write_fails b c insert_text values (Insert exists.at (Values (terms_of settings) 3)) refl
      (IsTooLarge b.now meta values) Refused
      (λ up. write.is_write b insert_text values _ refl (insert_is b.now.schema exists.at _ exists.known.named))
      (λ up st its. insert_stops meta.name meta.columns meta.primary b.now sound_b exists values refl refl ⊥
      (inl (new_key b.now rows word value has new)) b.step_limit values (terms_of settings) 3 refl
      (rw cast_null refl) st) h.0 h.2 in
      let Lacks = RunsOutOfTrees b.now.schema [] ⊎ IsIndexNameUsed b.now.schema [] in
      let big : write.OrShut b (IsTooLarge b.now meta values) → large =
      λ x. elim x [
        | inl long ↦ grows (too_long b.now word value own short long)
        | inr shut ↦ absurd (both_ways _ shut is_open)
      ] in
      let why : Refused → IsSome a.step_limit ⊎ Lacks =
      λ x. elim x [
        | inl limited ↦ inl (subst IsSome limit limited)
        | inr more ↦ elim more [
          | inl full ↦ absurd (no_rowid_misses b.now rows word value has new full)
          | inr none ↦ absurd none
        ]
      ] in
      fails_then large (IsSome a.step_limit) a b c (part meta ∷ []) [] refl was_open made is_open rise f
      (reported [] large (IsSome a.step_limit) b c (λ big. is_open) f
      (write.fails_wider b c _ large _ (IsSome a.step_limit ⊎ Lacks) big why f
      (subst (FailsWith b c (write.OrShut b (IsTooLarge b.now meta values)) Refused) (sym h.1) it)))

  module _ (b : State) (made : Makes (meta ∷ []) a b) (rise : a.faults ≤ b.faults)
      (limit : b.step_limit ≡ a.step_limit) where
    tree_b : tree_named b.now.schema meta.name ≡ next_tree a.now.schema
    tree_b = ap (λ (s : Schema). tree_named s meta.name) made.schema ∙ meta_tree a.now.schema free

    rows_b : rows_named b.now meta.name ≡ []
    rows_b = ap b.now.trees tree_b ∙ made.empty.0

    pub first_fails : (dir : Bytes) (c : State) (f : Failed)
        → IsWriteFailure insert_text (Text (codes "schema") ∷ Text (codes "3") ∷ []) b c f
        → FailsToMakeThese (meta ∷ []) (IsTooLong dir) (IsSome a.step_limit) a c f
    first_fails dir c f h =
        in_meta b c [] (codes "schema") (codes "3") (IsTooLong dir) made.was_open made.schema made.is_open made.sound
        rows_b first_new (omega arith) (λ big. absurd (omega (arith, big))) rise limit f h

    pub second_fails : (dir : Bytes) (c d : State) → Puts (codes "schema") (codes "3") b c → b.faults ≤ c.faults
        → c.step_limit ≡ b.step_limit → (f : Failed)
        → IsWriteFailure insert_text (Text (codes "store-dir") ∷ Text dir ∷ []) c d f
        → FailsToMakeThese (meta ∷ []) (IsTooLong dir) (IsSome a.step_limit) a d f
    second_fails dir c d p more still f h =
        let rows_c : rows_named c.now meta.name ≡ first_row ∷ [] =
        p.rows.is ∙ ap (λ rows. put_row (row_of rows (codes "schema") (codes "3")) rows) rows_b in
        in_meta c d (first_row ∷ []) (codes "store-dir") dir (IsTooLong dir) made.was_open (p.schema ∙ made.schema)
        p.is_open p.sound rows_c (second_new dir) (omega arith) (λ big. omega (arith, big))
        (omega (arith, rise, more)) (still ∙ limit) f h
