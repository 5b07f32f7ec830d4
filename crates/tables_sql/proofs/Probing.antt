-- Why the query fails that asks whether a connection is open: it reads no table, so any schema understands it.
use Rattle.std.proofs.Common.{◌≡◌, ◌≢◌, ◌⊎◌, inl, inr, ℕ, pos, negsuc, List, [], ◌∷◌, codes, true, false, None, refl}
use Rattle.std.proofs.Common.{sym, subst, ◌∙◌}
use Rattle.std.specs.Prelude.{IsSome}
use Rattle.sqlite_value.specs.declared.value.Value.TheVariants.{Int}
use Rattle.sqlite_value.specs.Order.{Row}
use Rattle.sqlite_trees.specs.declared.error.StoreError.{StoreError}
use Rattle.sqlite_trees.specs.declared.error.StoreError.TheVariants.{OutOfMemory}
use Rattle.sqlite_trees.specs.Tree.{Trees}
use Rattle.sqlite_sql.specs.Term.{lit}
use Rattle.sqlite_sql.specs.Query.{Query, end}
use Rattle.sqlite_sql.specs.Program.{QueryOverflows}
use Rattle.sqlite_typing.specs.Types.{accepts_program}
use Rattle.sqlite_schema.specs.declared.schema.Schema.{Schema}
use Rattle.sqlite_schema.specs.declared.command.Command.TheVariants.{Select}
use Rattle.sqlite_tied.specs.Compute.{everything}
use Rattle.sqlite.specs.declared.error.Error.{Error}
use Rattle.sqlite.specs.declared.error.Error.TheVariants.{SqliteFailure}
use Rattle.sqlite.specs.declared.error.ErrorCode.TheVariants.{OperationInterrupted}
use Rattle.sqlite.specs.Listing.{understood}
use Rattle.sqlite.specs.State.{State, store_error, Fails, IsUnchanged, Shown, FailsToQuery, IsTooLate}
use Rattle.tables_sql.specs.declared.failure.Failed.{Failed}
use Rattle.tables_sql.specs.Failures.{failure_of, FailsWith, IsQueryFailure, FailsToTest}
use Rattle.tables_sql.specs.Queries.{IsSelect}
use Rattle.tables_sql.proofs.Means.{IsMeant, means_command}
use Rattle.tables_sql.proofs.Scans.{shown_same}
use Rattle.tables_sql.proofs.ReadFailures.{query_fails, query_stops, store_failed}
use Rattle.tables_sql.proofs.TestFailures.{test_fails}

abbrev pub text : List ℕ
text = codes "SELECT 1"

abbrev query : Query
query = record {
  from = end;
  filter = [];
  group = None;
  project = lit (Int (pos 1)) ∷ [];
  distinct = false;
  collations = [];
  order = [];
  limit = lit (Int (negsuc 0));
  offset = lit (Int (pos 0));
}

is : (s : Schema) → IsMeant s text 0 (Select (record { lets = []; body = query }) (codes "1" ∷ []))
unfolding everything understood
is s = (_, (refl, refl), refl, refl, refl, refl, refl)

typed : (s : Schema) → accepts_program s [] query [] ≡ true
unfolding everything
typed s = refl

sums_nothing : (db : Trees) → QueryOverflows query db [] → ⊥
sums_nothing db (inl h) = h
sums_nothing db (inr h) = h

pub reads : IsSelect text
unfolding everything
reads = (_, _, _, _, _, refl)

pub ask_fails : (old new : State) → (f : Failed) → IsQueryFailure text [] old new f → FailsToTest old new ⊥ f
ask_fails old new =
    test_fails old new text ⊥ (query_fails old new text [] (codes "1" ∷ []) query (λ same. is old.now.schema) reads
    (λ same. typed old.now.schema) sums_nothing)

-- the store failed, or a limit on steps stopped it
pub ask_stops : (old new : State) (e : Error) → FailsToQuery text [] old new e ⊎ IsTooLate text [] old new e
    → Fails old new ⊥ e ⊎ ((e ≡ SqliteFailure OperationInterrupted) × IsSome old.step_limit × IsUnchanged old new)
ask_stops old new =
    query_stops old new text [] (codes "1" ∷ []) query (λ same. is old.now.schema) reads (λ same. typed old.now.schema)
    sums_nothing

store_names : (cause : StoreError) → store_error cause ≡ SqliteFailure OperationInterrupted → ⊥
store_names OutOfMemory h = absurd (let e = h in cc)
store_names cause h = absurd (let e = h in cc)

-- where a limit on steps stopped it, nothing changed
pub ask_stopped : (old new : State) (e : Error) → e ≡ SqliteFailure OperationInterrupted
    → FailsToQuery text [] old new e ⊎ IsTooLate text [] old new e → IsUnchanged old new
ask_stopped old new e stopped h =
    elim (ask_stops old new e h) [ inl failed ↦ absurd (store_names failed.0 (sym failed.1 ∙ stopped)) | inr it ↦ it.2 ]

-- else the store failed
pub ask_failed : (old new : State) (e : Error) (f : Failed)
    → (f ≡ failure_of e) × (e ≢ SqliteFailure OperationInterrupted)
    → FailsToQuery text [] old new e ⊎ IsTooLate text [] old new e → FailsWith old new ⊥ ⊥ f
ask_failed old new e f is h =
    elim (ask_stops old new e h) [
      | inl failed ↦ subst (FailsWith old new ⊥ ⊥) (sym is.0)
          (store_failed old new ⊥ ⊥ ⊥ (λ no. no) e failed)
      | inr it ↦ absurd (is.1 it.0)
    ]

-- where it is answered, nothing changed
pub ask_same : (old new : State) (rows : List Row) → Shown text [] old new rows → IsUnchanged old new
ask_same old new rows = shown_same text [] old new rows (means_command old.now.schema text _ (is old.now.schema)).1
