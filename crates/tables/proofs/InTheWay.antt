-- A store is one if and only if the store's tables are there soundly and nobody's are in the way; there is none if and
-- only if nothing of the store is there and nobody's are in the way.
use Rattle.std.proofs.Common.{◌≡◌, Bool, true, false, ◌||◌, ◌&&◌, not, ℕ, List, [], ◌∷◌, Option, Some, None, is_some}
use Rattle.std.proofs.Common.{refl, sym, ap, ◌∙◌, inl, inr, IsTrue}
use Rattle.std.specs.List.{AllByRecursion, list_any}
use Rattle.std.proofs.lemmas.Bool.{false≢true, and_from, and_left, and_right, or_parts, or_from, not_from_true}
use Rattle.std.proofs.lemmas.Bool.{not_from_false}
use Rattle.sqlite_schema.specs.declared.schema.Schema.{Schema as Shown}
use Rattle.sqlite_schema.specs.declared.schema.Table.{Table}
use Rattle.sqlite_schema.specs.Names.{table_named, index_named, view_named}
use Rattle.sqlite.specs.Does.{lacks_sequence}
use Rattle.sqlite.specs.Effect.{Database}
use Rattle.tables_schema.specs.Forms.{store_tables, all_tables, piece, temp_root}
use Rattle.tables_schema.specs.Intact.{IsIntact, HasTables, tree_named, is_unreferred, is_unshared, is_unguarded}
use Rattle.tables_schema.specs.Presence.{HasNone, IsFree, is_unawaited}
use Rattle.tables_schema.specs.declared.schema.Schema.{Schema}
use Rattle.tables_schema.specs.declared.schema.Schema.TheVariants.{V1, V2, V3}
use Rattle.tables.specs.declared.unopened.Cause.TheVariants.{BadSchema}
use Rattle.tables.specs.InTheWay.{is_present, is_name_used, has_store_tables, is_acted_on, is_awaited, is_blocked}
use Rattle.tables.specs.InTheWay.{are_others_in_the_way}
use Rattle.tables.specs.Opening.{HasTablesOf, HoldsBy, HasItsForm, HasFormsOf, IsPresentBy, IsRefusal, IsNoStore}
use Rattle.tables.specs.Opening.{RefusesTheRest}

-- ---- tests

none_of : {A : Type 0} (o : Option A) → is_some o ≡ false → o ≡ None
none_of None h = refl
none_of (Some x) h = absurd (false≢true (sym h))

not_back : (b : Bool) → not b ≡ false → b ≡ true
not_back true h = refl
not_back false h = absurd (false≢true (sym h))

not_both : (x y : Bool) → (x && y) ≡ false → x ≡ true → y ≡ false
not_both true y h is = h
not_both false y h is = absurd (false≢true is)

both : (x y : Bool) → (x && y) ≡ true → (x ≡ true) × (y ≡ true)
both true y h = (refl, h)
both false y h = absurd (false≢true h)

none_any : {A : Type 0} (p : A → Bool) (xs : List A) → AllByRecursion (λ x. p x ≡ false) xs → list_any p xs ≡ false
none_any p [] h = refl
none_any p (x ∷ xs) h = or_from (p x) (list_any p xs) h.0 (none_any p xs h.1)

any_none : {A : Type 0} (p : A → Bool) (xs : List A) → list_any p xs ≡ false → AllByRecursion (λ x. p x ≡ false) xs
any_none p [] h = tt
any_none p (x ∷ xs) h = let it = or_parts (p x) (list_any p xs) h in (it.0, any_none p xs it.1)

mapped : {A : Type 0} (P Q : A → Type 0) → ((x : A) → P x → Q x) → (xs : List A) → AllByRecursion P xs
    → AllByRecursion Q xs
mapped P Q f [] h = tt
mapped P Q f (x ∷ xs) h = (f x h.0, mapped P Q f xs h.1)

zipped : {A : Type 0} (P Q R : A → Type 0) → ((x : A) → P x → Q x → R x) → (xs : List A) → AllByRecursion P xs
    → AllByRecursion Q xs → AllByRecursion R xs
zipped P Q R f [] h k = tt
zipped P Q R f (x ∷ xs) h k = (f x h.0 k.0, zipped P Q R f xs h.1 k.1)

-- ---- the nine tables and the further two

together : (P : Table → Type 0) → AllByRecursion P store_tables → P piece → P temp_root → AllByRecursion P all_tables
together P h k l = (
  h.0,
  (
    h.1.0,
    (
      h.1.1.0,
      (
        h.1.1.1.0,
        (
          h.1.1.1.1.0,
          (
            h.1.1.1.1.1.0,
            (h.1.1.1.1.1.1.0, (h.1.1.1.1.1.1.1.0, (h.1.1.1.1.1.1.1.1.0, (k, (l, tt))))),
          ),
        ),
      ),
    ),
  ),
)

apart : (P : Table → Type 0) → AllByRecursion P all_tables → AllByRecursion P store_tables × (P piece × P temp_root)
apart P h = (
  (
    h.0,
    (
      h.1.0,
      (
        h.1.1.0,
        (
          h.1.1.1.0,
          (h.1.1.1.1.0, (h.1.1.1.1.1.0, (h.1.1.1.1.1.1.0, (h.1.1.1.1.1.1.1.0, (h.1.1.1.1.1.1.1.1.0, tt))))),
        ),
      ),
    ),
  ),
  (h.1.1.1.1.1.1.1.1.1.0, h.1.1.1.1.1.1.1.1.1.1.0),
)

module _ (s : Shown) where
  -- ---- one table

  abbrev is_hindered : Table → Bool
  is_hindered t = is_acted_on s t || (is_awaited s t || is_blocked s t)

  -- nothing is in its way
  abbrev IsClear : Table → Type 0
  IsClear t = is_hindered t ≡ false

  abbrev is_left_alone : Table → Bool
  is_left_alone t =
      is_unreferred s (tree_named s t.name)
      && (is_unshared s t.name (tree_named s t.name) && is_unguarded s (tree_named s t.name) t.primary)

  abbrev Untaken : Table → Type 0
  Untaken t = is_name_used s t ≡ false

  clear_present : (t : Table) → is_present s t ≡ true → is_left_alone t ≡ true → IsClear t
  clear_present t present idle =
      or_from (is_acted_on s t) (is_awaited s t || is_blocked s t)
      (and_right (is_present s t) (not (is_left_alone t)) (not_from_true (is_left_alone t) idle))
      (or_from (is_awaited s t) (is_blocked s t)
      (and_left (not (is_present s t)) (not (is_unawaited s t.name)) (not_from_true (is_present s t) present))
      (and_left (not (is_present s t)) (lacks_sequence s) (not_from_true (is_present s t) present)))

  clear_away : (t : Table) → is_present s t ≡ false → is_unawaited s t.name ≡ true → lacks_sequence s ≡ false
      → IsClear t
  clear_away t away unawaited counted =
      or_from (is_acted_on s t) (is_awaited s t || is_blocked s t)
      (and_left (is_present s t) (not (is_left_alone t)) away)
      (or_from (is_awaited s t) (is_blocked s t)
      (and_right (not (is_present s t)) (not (is_unawaited s t.name))
      (not_from_true (is_unawaited s t.name) unawaited))
      (and_right (not (is_present s t)) (lacks_sequence s) counted))

  exists_formed : (t : Table) → IsIntact s t → HasItsForm s t
  exists_formed t h = (h.at, h.known)

  exists_clear : (t : Table) → IsIntact s t → IsClear t
  exists_clear t h =
      clear_present t (ap is_some h.known.named.0) (and_from _ _ h.unreferred (and_from _ _ h.idle h.unguarded))

  clear_exists : (t : Table) → HasItsForm s t → IsClear t → IsIntact s t
  clear_exists t h clear =
      let acts =
      not_both (is_present s t) (not (is_left_alone t))
      (or_parts (is_acted_on s t) (is_awaited s t || is_blocked s t) clear).0 (ap is_some h.1.named.0) in
      let idle =
      both (is_unreferred s (tree_named s t.name))
      (is_unshared s t.name (tree_named s t.name) && is_unguarded s (tree_named s t.name) t.primary)
      (not_back (is_left_alone t) acts) in
      let last =
      both (is_unshared s t.name (tree_named s t.name)) (is_unguarded s (tree_named s t.name) t.primary) idle.1 in
      record { at = h.0; known = h.1; unreferred = idle.0; idle = last.0; unguarded = last.1 }

  free_untaken : (t : Table) → IsFree s t.name → Untaken t
  free_untaken t h =
      or_from (is_present s t) (is_some (index_named s t.name) || is_some (view_named s t.name)) (ap is_some h.table)
      (or_from (is_some (index_named s t.name)) (is_some (view_named s t.name)) (ap is_some h.index)
      (ap is_some h.view))

  free_clear : lacks_sequence s ≡ false → (t : Table) → IsFree s t.name → IsClear t
  free_clear counted t h = clear_away t (ap is_some h.table) h.unawaited counted

  -- the parts of what is clear though it isn't there
  away : (t : Table) → Untaken t → is_present s t ≡ false
  away t h = (or_parts (is_present s t) (is_some (index_named s t.name) || is_some (view_named s t.name)) h).0

  clear_free : (t : Table) → Untaken t → IsClear t → IsFree s t.name
  clear_free t h clear =
      let rest =
      or_parts (is_some (index_named s t.name)) (is_some (view_named s t.name))
      (or_parts (is_present s t) (is_some (index_named s t.name) || is_some (view_named s t.name)) h).1 in
      let waits =
      (or_parts (is_awaited s t) (is_blocked s t)
      (or_parts (is_acted_on s t) (is_awaited s t || is_blocked s t) clear).1).0 in
      record {
        table = none_of (table_named s t.name) (away t h);
        index = none_of (index_named s t.name) rest.0;
        view = none_of (view_named s t.name) rest.1;
        unawaited =
            not_back (is_unawaited s t.name)
            (not_both (not (is_present s t)) (not (is_unawaited s t.name)) waits
            (not_from_false (is_present s t) (away t h)));
      }

  clear_counted : (t : Table) → Untaken t → IsClear t → lacks_sequence s ≡ false
  clear_counted t h clear =
      not_both (not (is_present s t)) (lacks_sequence s)
      (or_parts (is_awaited s t) (is_blocked s t)
      (or_parts (is_acted_on s t) (is_awaited s t || is_blocked s t) clear).1).1
      (not_from_false (is_present s t) (away t h))

  -- ---- all of them

  all_clear : AllByRecursion IsClear store_tables → IsClear piece → IsClear temp_root → are_others_in_the_way s ≡ false
  all_clear h k l = none_any is_hindered all_tables (together IsClear h k l)

  each_clear : are_others_in_the_way s ≡ false
      → AllByRecursion IsClear store_tables × (IsClear piece × IsClear temp_root)
  each_clear h = apart IsClear (any_none is_hindered all_tables h)

  formed : HasTables s → AllByRecursion (HasItsForm s) store_tables
  formed h = mapped (IsIntact s) (HasItsForm s) exists_formed store_tables h

  formed_clear : HasTables s → AllByRecursion IsClear store_tables
  formed_clear h = mapped (IsIntact s) IsClear exists_clear store_tables h

  existing : AllByRecursion (HasItsForm s) store_tables → AllByRecursion IsClear store_tables → HasTables s
  existing h k = zipped (HasItsForm s) IsClear (IsIntact s) clear_exists store_tables h k

  -- tables of a schema have their forms, and are clear
  forms_of : (schema : Schema) → HasTablesOf schema s → HasFormsOf schema s × (are_others_in_the_way s ≡ false)
  forms_of V1 h = (
    (formed h.0, free_untaken piece h.1, free_untaken temp_root h.2),
    all_clear (formed_clear h.0) (free_clear h.3 piece h.1) (free_clear h.3 temp_root h.2),
  )
  forms_of V2 h = (
    (formed h.0, exists_formed piece h.1, free_untaken temp_root h.2),
    all_clear (formed_clear h.0) (exists_clear piece h.1) (free_clear h.3 temp_root h.2),
  )
  forms_of V3 h = (
    (formed h.0, exists_formed piece h.1, exists_formed temp_root h.2),
    all_clear (formed_clear h.0) (exists_clear piece h.1) (exists_clear temp_root h.2),
  )

  tables_of : (schema : Schema) → HasFormsOf schema s → are_others_in_the_way s ≡ false → HasTablesOf schema s
  tables_of V1 h clear =
      let it = each_clear clear in (
        existing h.0 it.0,
        clear_free piece h.1 it.1.0,
        clear_free temp_root h.2 it.1.1,
        clear_counted temp_root h.2 it.1.1,
      )
  tables_of V2 h clear =
      let it = each_clear clear in (
        existing h.0 it.0,
        clear_exists piece h.1 it.1.0,
        clear_free temp_root h.2 it.1.1,
        clear_counted temp_root h.2 it.1.1,
      )
  tables_of V3 h clear =
      let it = each_clear clear in
      (existing h.0 it.0, clear_exists piece h.1 it.1.0, clear_exists temp_root h.2 it.1.1)

  -- none of the store's tables: nothing of the store is there, and nothing is in the way
  none_differ : HasNone s → (has_store_tables s ≡ false) × (are_others_in_the_way s ≡ false)
  none_differ h = (
    none_any (is_name_used s) all_tables
        (together Untaken (mapped (λ (t : Table). IsFree s t.name) Untaken free_untaken store_tables h.free)
        (free_untaken piece h.further.0) (free_untaken temp_root h.further.1.0)),
    all_clear (mapped (λ (t : Table). IsFree s t.name) IsClear (free_clear h.counted) store_tables h.free)
        (free_clear h.counted piece h.further.0) (free_clear h.counted temp_root h.further.1.0),
  )

  none_of_store : has_store_tables s ≡ false → are_others_in_the_way s ≡ false → HasNone s
  none_of_store of_store clear =
      let it = each_clear clear in
      let untaken = apart Untaken (any_none (is_name_used s) all_tables of_store) in
      record {
        free = zipped Untaken IsClear (λ (t : Table). IsFree s t.name) clear_free store_tables untaken.0 it.0;
        further = (clear_free piece untaken.1.0 it.1.0, (clear_free temp_root untaken.1.1 it.1.1, tt));
        counted = clear_counted piece untaken.1.0 it.1.0;
      }

-- ---- a store

present_by : (schema : Schema) (dir : List ℕ) (db : Database) → HoldsBy schema dir db → IsPresentBy schema dir db
present_by schema dir db h =
    record { forms = (forms_of db.schema schema h.tables).0; readable = h.readable; sound = h.sound }

holds_by : (schema : Schema) (dir : List ℕ) (db : Database) → IsPresentBy schema dir db
    → are_others_in_the_way db.schema ≡ false → HoldsBy schema dir db
holds_by schema dir db h clear =
    record { tables = tables_of db.schema schema h.forms clear; readable = h.readable; sound = h.sound }

-- where there is no store, nor nothing, this is why
pub no_store_cause : (dir : List ℕ) (db : Database) → IsNoStore db → IsRefusal dir db BadSchema
no_store_cause dir db h = by (are_others_in_the_way db.schema) refl
  where
    of_store : (b : Bool) → has_store_tables db.schema ≡ b → are_others_in_the_way db.schema ≡ false
        → IsTrue (has_store_tables db.schema)
    of_store true is clear = is
    of_store false is clear = absurd (h.0 (none_of_store db.schema is clear))

    by : (b : Bool) → are_others_in_the_way db.schema ≡ b → IsRefusal dir db BadSchema
    by true is = inr is
    by false is =
        inl (
          of_store (has_store_tables db.schema) refl is,
          λ d present. h.1 d (present.0, holds_by present.0 d db present.1 is),
        )

-- and where this is why there is none
pub cause_no_store : (dir : List ℕ) (db : Database) → IsRefusal dir db BadSchema → IsNoStore db
cause_no_store dir db (inl h) = (
  λ none. false≢true (sym (none_differ db.schema none).0 ∙ h.0),
  λ d holds. h.1 d (holds.0, present_by holds.0 d db holds.1),
)
cause_no_store dir db (inr h) = (
  λ none. false≢true (sym (none_differ db.schema none).1 ∙ h),
  λ d holds. false≢true (sym (forms_of db.schema holds.0 holds.1.tables).1 ∙ h),
)

pub refuses_the_rest : RefusesTheRest
refuses_the_rest dir db = (cause_no_store dir db, no_store_cause dir db)
