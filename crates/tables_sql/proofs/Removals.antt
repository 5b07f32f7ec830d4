-- Why a DELETE from one of the store's tables fails: no rule refuses it, and no row of it is too large.
use Rattle.std.proofs.Common.{◌≡◌, ◌≢◌, ◌⊎◌, inl, inr, ℕ, List, [], true, false, not, Ok, Err, Some, None, Option}
use Rattle.std.proofs.Common.{length, slice_get, sym, ap, subst, refl, IsTrue}
use Rattle.std.specs.Prelude.{IsSome, nat_lt}
use Rattle.std.proofs.lemmas.Bool.{cases_eq, or_right, both_ways}
use Rattle.sqlite_value.specs.Order.{Row}
use Rattle.sqlite_trees.specs.Tree.{Trees, with_tree}
use Rattle.sqlite_sql.specs.Term.{Term}
use Rattle.sqlite_schema.specs.declared.schema.Column.{Column}
use Rattle.sqlite_schema.specs.declared.schema.Constraint.TheVariants.{Unique, ForeignKey}
use Rattle.sqlite_schema.specs.declared.schema.Among.TheVariants.{All}
use Rattle.sqlite_schema.specs.declared.schema.Keys.TheVariants.{Enforced}
use Rattle.sqlite_schema.specs.declared.schema.Schema.{Schema}
use Rattle.sqlite_schema.specs.declared.schema.Table.{Table}
use Rattle.sqlite_schema.specs.declared.command.Command.TheVariants.{Delete}
use Rattle.sqlite_schema.specs.Rules.{Refers}
use Rattle.sqlite_typing.specs.Types.{accepts_program}
use Rattle.sqlite_rules.specs.declared.error.Refusal.{Refusal}
use Rattle.sqlite_rules.specs.declared.error.Refusal.TheVariants.{Violates, BadReference, TooDeep}
use Rattle.sqlite_rules.specs.declared.error.Rowids.TheVariants.{Given}
use Rattle.sqlite_rules.specs.Lists.{Has}
use Rattle.sqlite_rules.specs.Edit.{Edit, edit_of, edited, taken_by, IsRefused}
use Rattle.sqlite_rules.specs.Calls.{ids_of}
use Rattle.sqlite_rules.proofs.ListLemmas.{any_has, all_has}
use Rattle.sqlite_rules.proofs.TableLemmas.{without_all_has}
use Rattle.sqlite.specs.declared.error.Error.{Error}
use Rattle.tables_sql.specs.declared.failure.Failed.TheVariants.{Disk}
use Rattle.sqlite.specs.Effect.{Database, IsDatabase, RefusesQuery}
use Rattle.sqlite.specs.Does.{Does, OnRows}
use Rattle.sqlite.specs.Rows.{Edited, Deletes, Written, Task}
use Rattle.sqlite.specs.State.{State, ExecutesInside}
use Rattle.sqlite.proofs.Callers.{one_step}
use Rattle.tables_schema.specs.Forms.{strict}
use Rattle.tables_schema.specs.Intact.{IsNamed, IsKnown, IsIntact, is_unreferred, tree_named}
use Rattle.tables_sql.specs.Calls.{IsUnderWay}
use Rattle.tables_sql.specs.Failures.{failure_of, FailsWith}
use Rattle.tables_sql.proofs.Writes.{rowids_where, works_unreferred, went, same_value, at_place}
use Rattle.tables_sql.proofs.KeptRules.{set_here, set_other, unique_fewer, refers_still, none_to_fit}
use Rattle.tables_sql.proofs.Stops.{stops_at, gives_no_stop, no_end, plain_mode, concluded}
use Rattle.tables_sql.proofs.Statements.{Compiles}
use Rattle.tables_sql.proofs.WriteFailures.{MayStop, OrShut, our_write_fails, fails_wider}

-- a query of rowids is refused for the limit on steps alone
pub query_refused : (limit : Option ℕ) (db : Database) (tree : ℕ) (filter : List Term) (params : Row)
    → accepts_program db.schema [] (rowids_where tree filter) params ≡ true
    → (e : Error) → RefusesQuery limit db (record { lets = []; body = rowids_where tree filter }) params e
    → (failure_of e ≡ Disk) × IsSome limit
query_refused limit db tree filter params accepts e (inl h) = absurd (both_ways _ h.1 accepts)
query_refused limit db tree filter params accepts e (inr (inl (is, inl none))) = absurd none
query_refused limit db tree filter params accepts e (inr (inl (is, inr sums))) = absurd (any_has _ _ sums).2
query_refused limit db tree filter params accepts e (inr (inr h)) = (ap failure_of h.0, h.1)

module _ (name : List ℕ) (columns : List Column) (key : List ℕ) (tree at : ℕ) (filter : List Term) (db : Database) where
  abbrev own : Table
  own = record (strict name columns key) { tree = tree }

  abbrev removal : List Row → Edit
  removal gone = edit_of db.trees own (ids_of gone) Given 0 []

  module _ (sound : IsDatabase db) (named : IsNamed db.schema name at own)
      (unreferred : is_unreferred db.schema tree ≡ true) where
    fewer : (gone : List Row) (t : Table) (r : Row)
        → Has (with_tree db.trees tree (edited db.trees (removal gone)) t.tree) r → Has (db.trees t.tree) r
    fewer gone t r h = go (cases_eq t.tree tree)
      where
        go : (t.tree ≡ tree) ⊎ (t.tree ≢ tree) → Has (db.trees t.tree) r
        go (inl same) =
            subst (λ n. Has (db.trees n) r) (sym same)
            (without_all_has (ids_of gone) (db.trees tree) r
            (subst (λ l. Has l r) (set_here db.trees tree _ t.tree same) h))
        go (inr other) = subst (λ l. Has l r) (set_other db.trees tree _ t.tree other) h

    -- no rule refuses it
    never_refused : (gone : List Row) (why : Refusal) → IsRefused db.schema Enforced db.trees (removal gone) why → ⊥
    never_refused gone (Violates Unique) h =
        h (unique_fewer db.schema db.trees (with_tree db.trees tree (edited db.trees (removal gone)))
        (λ t r listed present. fewer gone t r present) (sound.obeys.rules Unique))
    never_refused gone (Violates ForeignKey) h = h
    never_refused gone BadReference h =
        both_ways _ h (or_right (not (nat_lt 0 (length (ids_of gone)))) _
        (none_to_fit db.schema own at named unreferred))
    never_refused gone TooDeep h = h
    never_refused gone why h = absurd (let e = h in cc)

    never_stops : (gone : List Row) (stop : Option Error) → Edited db.schema Enforced db.trees (removal gone) (Err stop)
        → ⊥
    never_stops gone stop (why, inl h, is) = never_refused gone h.0 h.1
    never_stops gone stop (why, inr (inl h), is) = h.1
    never_stops gone stop (why, inr (inr h), is) =
        no_end db.schema Enforced h.0 why
        (rw (works_unreferred db.schema Enforced 0 tree (taken_by db.trees (removal gone)) unreferred) at h.2)

    -- each row that is left has its parents
    refers_left : (gone : List Row) (next : Trees) → Edited db.schema Enforced db.trees (removal gone) (Ok next)
        → Refers All db.schema next
    refers_left gone next h =
        let a =
        one_step db.schema Enforced db.trees next (removal gone)
        (works_unreferred db.schema Enforced 0 tree (taken_by db.trees (removal gone)) unreferred) h in
        refers_still db.schema tree unreferred db.trees next
        (λ t listed other. all_has _ db.schema.tables t a.tables listed other)
        (λ t r listed same present. inl
        (subst (λ n. Has (db.trees n) r) (sym same)
        (without_all_has (ids_of gone) (db.trees tree) r
        (subst (λ l. Has l r) a.rows (subst (λ n. Has (next n) r) same present)))))
        (sound.obeys.rules ForeignKey)

    module _ (limit : Option ℕ) (params : Row)
        (accepts : accepts_program db.schema [] (rowids_where tree filter) params ≡ true) where
      abbrev task : Task
      task = record { limit = limit; keys = Enforced; schema = db.schema; table = own; params = params }

      removes : (stop : Option Error)
          → Deletes task (record { lets = []; body = rowids_where tree filter }) db.trees (Err stop)
          → MayStop ⊥ (IsSome limit) stop
      removes stop (inl (None, h, is)) = absurd h
      removes stop (inl (Some e, h, is)) =
          stops_at (MayStop ⊥ (IsSome limit)) stop (Some e) is (query_refused limit db tree filter params accepts e h)
      removes stop (inr (gone, answered, inl (other, h, is))) = absurd (never_stops gone other h)
      removes stop (inr (gone, answered, inr (next, went, is))) = absurd (gives_no_stop stop _ is)

      left : (w : Written) → Deletes task (record { lets = []; body = rowids_where tree filter }) db.trees (Ok w)
          → Refers All db.schema w.trees
      left w (inl h) = absurd (let e = h.2 in cc)
      left w (inr (gone, answered, inl h)) = absurd (let e = h.2 in cc)
      left w (inr (gone, answered, inr (next, went, is))) =
          subst (Refers All db.schema) (sym (ap (λ (it : Written). it.trees) (same_value is)))
          (refers_left gone next went)

      -- how the command stops
      pub delete_stops : (st : List ℕ) (stop : Option Error)
          → Does limit plain_mode params db st None (Delete at (record { lets = []; body = rowids_where tree filter }))
          (Err stop) → MayStop ⊥ (IsSome limit) stop
      delete_stops st stop h = go (at_place _ (slice_get db.schema.tables at) own (Err stop) named.1 h)
        where
          go : OnRows task plain_mode None (Delete at (record { lets = []; body = rowids_where tree filter })) db.trees
              (Err stop) → MayStop ⊥ (IsSome limit) stop
          go (inl (other, h, is)) = stops_at (MayStop ⊥ (IsSome limit)) stop other is (removes other h)
          go (inr (w, h, ended)) = absurd (concluded db.schema limit own params w (left w h) stop ended)

module _ (name : List ℕ) (columns : List Column) (key : List ℕ) (old new : State) (under : IsUnderWay old)
    (existing : IsTrue old.is_open → IsIntact old.now.schema (strict name columns key)) where
  -- a DELETE fails for the store or the limit on steps, and a size is no cause of it
  pub delete_fails : (text : List ℕ) (count : ℕ) (params : Row) (filter : List Term) → length params ≡ count
      → Compiles name columns key text count
      (λ at tree. Delete at (record { lets = []; body = rowids_where tree filter }))
      → ((s : Schema) (at tree : ℕ) → IsKnown s name at (record (strict name columns key) { tree = tree })
      → accepts_program s [] (rowids_where tree filter) params ≡ true)
      → (e : Error) → ExecutesInside 0 text params old new (Err e)
      → FailsWith old new (old.is_open ≡ false) (IsSome old.step_limit) (failure_of e)
  delete_fails text count params filter given is accepts e h =
      fails_wider old new (OrShut old ⊥) (old.is_open ≡ false) (IsSome old.step_limit) (IsSome old.step_limit) shut_only
      (λ l. l) (failure_of e)
      (our_write_fails name columns key old new existing text count params _ (λ at tree. refl) given is ⊥
      (IsSome old.step_limit)
      (λ up exists. let tree = tree_named old.now.schema name in
      delete_stops name columns key tree exists.at filter old.now (under.of_store up).sound exists.known.named
      exists.unreferred old.step_limit params (accepts old.now.schema exists.at tree exists.known)) e h)
    where
      shut_only : OrShut old ⊥ → old.is_open ≡ false
      shut_only (inl none) = absurd none
      shut_only (inr shut) = shut
