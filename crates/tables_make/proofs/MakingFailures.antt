-- Why a table of the store isn't made: `sqlite` understands each of the store's texts, and refuses it for a name or a
-- number alone.
use Rattle.std.proofs.Common.{◌≡◌, ◌⊎◌, inl, inr, ◌+◌, ◌*◌, ◌^◌, ◌≤◌, ℕ, List, [], ◌∷◌, codes, true, false, Some, None}
use Rattle.std.proofs.Common.{Option, Ok, Err, refl, sym, ap, subst, ◌∙◌, arith, IsTrue, length}
use Rattle.std.specs.Prelude.{nat_le, ◌||◌, IsUtf8}
use Rattle.std.proofs.lemmas.Bool.{leb-false}
use Rattle.sqlite_value.specs.Order.{Row}
use Rattle.sqlite_value.specs.declared.value.Value.TheVariants.{Text}
use Rattle.sqlite_schema.specs.declared.schema.Column.{Column}
use Rattle.sqlite_schema.specs.declared.schema.Schema.{Schema}
use Rattle.sqlite_schema.specs.declared.schema.Table.{Table}
use Rattle.sqlite_schema.specs.declared.command.Command.TheVariants.{CreateTable}
use Rattle.sqlite_schema.specs.Rules.{table_reals, index_reals}
use Rattle.sqlite_resolve.specs.Compile.{table_defined_by}
use Rattle.sqlite_schema.specs.declared.schema.Index.{Index}
use Rattle.sqlite_rules.specs.Lists.{Has}
use Rattle.sqlite_catalog.specs.Change.{created, is_used, is_reserved, automatics}
use Rattle.sqlite_catalog.specs.Listing.{is_formed, is_fit}
use Rattle.sqlite_catalog.specs.Calls.{RefusesTable, IsLongTable}
use Rattle.sqlite_catalog.specs.declared.error.Refusal.{Refusal}
use Rattle.sqlite_catalog.specs.declared.error.Refusal.TheVariants.{Invalid, NameTaken, BadName, TooBig, BadKey}
use Rattle.sqlite_catalog.specs.declared.error.Refusal.TheVariants.{BadText, Violates}
use Rattle.sqlite.specs.declared.error.Error.{Error}
use Rattle.sqlite.specs.declared.run.Mode.{Mode}
use Rattle.sqlite.specs.Effect.{Database, alter_error}
use Rattle.sqlite.specs.Rows.{Then}
use Rattle.sqlite.specs.Does.{Does, MakesTable, MakesSequence, lacks_sequence}
use Rattle.sqlite.proofs.Callers.{statement_of}
use Rattle.sqlite.specs.State.{State, mode_of}
use Rattle.tables_sql.specs.declared.failure.Failed.{Failed}
use Rattle.tables_sql.specs.declared.failure.Failed.TheVariants.{Memory, Size, Disk}
use Rattle.tables_schema.specs.Forms.{strict}
use Rattle.tables_schema.specs.Presence.{IsFree}
use Rattle.tables_sql.specs.Contents.{Bytes}
use Rattle.tables_sql.specs.Failures.{failure_of, without_size, FailsWith, IsWriteFailure}
use Rattle.tables_make.specs.NewTables.{RunsOutOfTrees, IsIndexNameUsed, FailsToMakeThese}
use Rattle.tables_make.proofs.Creates.{IsUnused, IsMakingIn, counted_after}
use Rattle.tables_sql.proofs.Writes.{same_value}
use Rattle.tables_sql.proofs.WriteFailures.{MayStop, OrShut, is_write, write_fails, fails_wider, fails_unsized}

-- the text defines the table, and is one that `sqlite` takes wherever the table's names are free
pub record IsAccepted (text : List ℕ) (table : Table) : Type 0 where
  pub defined : table_defined_by text ≡ Ok table
  pub utf8 : IsUtf8 text
  pub named : IsUtf8 table.name
  pub own : is_reserved table.name ≡ false
  pub short : nat_le (10 ^ 9) (2 * length table.name + length text + 200) ≡ false
  pub reals : nat_le (2 ^ 64) (table_reals table) ≡ false
  pub key : nat_le (2 ^ 64) (index_reals (table_reals table) table.primary) ≡ false
  pub formed : is_formed table ≡ true
  pub fit : is_fit (Text (codes "table")) (Text table.name) (Text table.name) (Text text) ≡ true

pub none_used : (s : Schema) (name : Bytes) → IsUnused s name → is_used s name ≡ false
none_used s name free = rw (free.0, free.1, free.2) refl

module _ (s : Schema) (text : List ℕ) (title : Bytes) (cs : List Column) (key : List ℕ)
    (accepted : IsAccepted text (strict title cs key)) where
  abbrev form : Table
  form = strict title cs key

  -- the table of the text
  its : (t : Table) → table_defined_by text ≡ Ok t → t ≡ form
  its t is = same_value (sym is ∙ accepted.defined)

  loaded_outline : (index : Index) × Has (automatics form 0 0 form.uniques) index × (is_used s index.name ≡ true)
      → IsIndexNameUsed s (form ∷ [])
  loaded_outline (index, inl same, used) = ap (λ b. b || false) (ap (λ (x : Index). is_used s x.name) (sym same) ∙ used)
  loaded_outline (index, inr none, used) = absurd none

  not_wide : (k : List ℕ) × Has form.uniques k × (2 ^ 64 ≤ index_reals (table_reals form) k) → ⊥
  not_wide (k, inl same, wide) =
      absurd (omega (arith, leb-false _ _ accepted.key, ap (index_reals (table_reals form)) same, wide))
  not_wide (k, inr none, wide) = none

  -- what is left of the reasons to refuse it
  refused_table : IsFree s title → (why : Refusal) → RefusesTable s text why
      → RunsOutOfTrees s (form ∷ []) ⊎ IsIndexNameUsed s (form ∷ [])
  refused_table free (Invalid e) h = absurd (let no = sym accepted.defined ∙ h in cc)
  refused_table free NameTaken (t, is, inl used) =
      absurd (let no = sym (none_used s title (free.table, free.index, free.view))
      ∙ ap (λ (x : Table). is_used s x.name) (sym (its t is)) ∙ used in cc)
  refused_table free NameTaken (t, is, inr loaded) =
      inr (loaded_outline (subst (λ (x : Table). (index : Index) × Has (automatics x 0 0 x.uniques) index
      × (is_used s index.name ≡ true)) (its t is) loaded))
  refused_table free BadName (t, is, inl odd) =
      absurd (odd (subst (λ (x : Table). IsUtf8 x.name) (sym (its t is)) accepted.named))
  refused_table free BadName (t, is, inr own) =
      absurd (let no = sym accepted.own ∙ ap (λ (x : Table). is_reserved x.name) (sym (its t is)) ∙ own.0 in cc)
  refused_table free TooBig (t, is, inl many) =
      inl (let few : length t.uniques ≡ 1 = ap (λ (x : Table). length x.uniques) (its t is) in omega (arith, few, many))
  refused_table free TooBig (t, is, inr (inl wide)) =
      absurd (omega (arith, leb-false _ _ accepted.reals, ap table_reals (its t is), wide))
  refused_table free TooBig (t, is, inr (inr long)) =
      absurd (not_wide (subst (λ (x : Table). (k : List ℕ) × Has x.uniques k × (2 ^ 64 ≤ index_reals (table_reals x) k))
      (its t is) long))
  refused_table free BadKey (t, is, loose) =
      absurd (let e = sym accepted.formed ∙ ap is_formed (sym (its t is)) ∙ loose in cc)
  refused_table free BadText (t, is, unfit) =
      absurd (let e = sym accepted.fit
      ∙ ap (λ (x : Table). is_fit (Text (codes "table")) (Text x.name) (Text x.name) (Text text)) (sym (its t is))
      ∙ unfit in cc)
  refused_table free (Violates rule) h = absurd h

  not_long : IsLongTable text → ⊥
  not_long (t, is, long) =
      absurd (omega (arith, leb-false _ _ accepted.short, ap (λ (x : Table). length x.name) (its t is), long))

  -- the statement stops where its table does
  table_stops : (db : Database) → lacks_sequence db.schema ≡ false → (stop : Option Error)
      → Then (MakesTable text db) MakesSequence (Err stop) → MakesTable text db (Err stop)
  table_stops db lacks stop (inl (other, h, is)) = let same : other ≡ stop =
      cc in subst (λ o. MakesTable text db (Err o)) same h
  table_stops db lacks stop (inr (after, made, h)) =
      let plain : lacks_sequence after.schema ≡ false =
      ap lacks_sequence (made.is ∙ ap (created db.schema) (its made.table made.defined))
      ∙ counted_after db.schema title cs key lacks in
      absurd (let e = rw plain at h in cc)

  stops : (db : Database) → lacks_sequence db.schema ≡ false
      → (limit : Option ℕ) (mode : Mode) (params : Row) (stop : Option Error)
      → Does limit mode params db text None CreateTable (Err stop) → MakesTable text db (Err stop)
  stops db lacks limit mode params stop (inl (other, h, is)) = let same : other ≡ stop =
      cc in subst (λ o. MakesTable text db (Err o)) same (table_stops db lacks other h)
  stops db lacks limit mode params stop (inr (after, h, is)) = absurd (let e = is in cc)

-- ---- what the failure is

-- a write that failed
pub reported : (tables : List Table) (large refused : Type 0) (old new : State) → (large → IsTrue old.is_open)
    → (f : Failed) → FailsWith old new large
    (refused ⊎ (RunsOutOfTrees old.now.schema tables ⊎ IsIndexNameUsed old.now.schema tables)) f
    → FailsToMakeThese tables large refused old new f
reported tables large refused old new up Memory h = tt
reported tables large refused old new up Size h = (h.0, up h.0)
reported tables large refused old new up Disk (inl h) = inl h.0
reported tables large refused old new up Disk (inr h) = inr h.0

refusal_is : (why : Refusal) → failure_of (alter_error why) ≡ Disk
refusal_is (Invalid e) = refl
refusal_is why = refl

module _ (text : List ℕ) (title : Bytes) (cs : List Column) (key : List ℕ)
    (accepted : IsAccepted text (strict title cs key)) (old new : State) where
  abbrev these : List Table
  these = strict title cs key ∷ []

  abbrev Refused : Type 0
  Refused = ⊥ ⊎ (RunsOutOfTrees old.now.schema these ⊎ IsIndexNameUsed old.now.schema these)

  table_may_stop : IsFree old.now.schema title → (stop : Option Error) → MakesTable text old.now (Err stop)
      → MayStop ⊥ Refused stop
  table_may_stop free None h = not_long old.now.schema text title cs key accepted h
  table_may_stop free (Some e) (inl odd) = absurd (odd.0 accepted.utf8)
  table_may_stop free (Some e) (inr (why, refuses, is)) = (
    ap failure_of is ∙ refusal_is why,
    inr (refused_table old.now.schema text title cs key accepted free why refuses),
  )

  -- a CREATE TABLE of the store
  pub create_fails : (IsTrue old.is_open → IsMakingIn old.now.schema text (strict title cs key))
      → (IsTrue old.is_open → IsFree old.now.schema title)
      → (IsTrue old.is_open → lacks_sequence old.now.schema ≡ false)
      → (f : Failed) → (g : Failed) × (f ≡ without_size g) × IsWriteFailure text [] old new g
      → FailsToMakeThese these ⊥ ⊥ old new f
  create_fails making free lacks f h =
      let it =
      write_fails old new text [] CreateTable refl ⊥ Refused
      (λ up. is_write old text [] CreateTable refl (making up).meant)
      (λ up st its stop does. let whole : st ≡ text =
      its ∙ ap (statement_of text) (sym (making up).meant.1.0) ∙ (making up).statement in
      table_may_stop (free up) stop
      (stops old.now.schema text title cs key accepted old.now (lacks up) old.step_limit (mode_of old) [] stop
      (subst (λ t. Does old.step_limit (mode_of old) [] old.now t None CreateTable (Err stop)) whole does)))
      h.2.0 h.2.2 in
      let shut : FailsWith old new (old.is_open ≡ false) Refused h.0 =
      fails_wider old new (OrShut old ⊥) (old.is_open ≡ false) Refused Refused
      (λ x. elim x [ inl none ↦ absurd none | inr closed ↦ closed ]) (λ x. x) h.0
      (subst (FailsWith old new (OrShut old ⊥) Refused) (sym h.2.1) it) in
      reported these ⊥ ⊥ old new (λ none. absurd none) f
      (subst (FailsWith old new ⊥ Refused) (sym h.1) (fails_unsized old new Refused h.0 shut))
