-- Why a query of the store's tables fails: `sqlite` understands each text of the store, and types and sums have nothing
-- to refuse.
use Rattle.std.proofs.Common.{◌≡◌, ◌⊎◌, inl, inr, ℕ, ◌≤◌, IsTrue, List, [], ◌∷◌, length, append-nil, Bool, true, false}
use Rattle.std.proofs.Common.{None, Result, Ok, Err, refl, sym, ap, subst, subst₂, ◌∙◌}
use Rattle.std.specs.Prelude.{IsSome, if◌then◌else◌}
use Rattle.std.proofs.lemmas.Bool.{leb-true}
use Rattle.sqlite_value.specs.Order.{Row}
use Rattle.sqlite_trees.specs.Tree.{Trees}
use Rattle.sqlite_trees.specs.declared.error.StoreError.TheVariants.{OutOfMemory, Broken, Unstorable}
use Rattle.sqlite_sql.specs.Group.{Overflows}
use Rattle.sqlite_sql.specs.Query.{Query, matches, FoldOverflows}
use Rattle.sqlite_sql.specs.Program.{QueryOverflows, overlay}
use Rattle.sqlite_typing.specs.Types.{accepts_program}
use Rattle.sqlite_ast.specs.declared.Select.{Select as Read}
use Rattle.sqlite_schema.specs.declared.schema.Column.{Column}
use Rattle.sqlite_schema.specs.declared.schema.Schema.{Schema}
use Rattle.sqlite_schema.specs.declared.command.Command.{Command}
use Rattle.sqlite_schema.specs.declared.command.Command.TheVariants.{Select}
use Rattle.sqlite_schema.specs.declared.command.Returning.{Returning}
use Rattle.sqlite_resolve.specs.Scope.{Name}
use Rattle.sqlite_resolve.specs.Lowering.{and_then}
use Rattle.sqlite_resolve.specs.Compile.{first, compiled, planned, meaning, returning, with_command}
use Rattle.sqlite_resolve.specs.Compile.{timed as timed_names}
use Rattle.sqlite_resolve.specs.declared.compiled.Compiled.{Compiled}
use Rattle.sqlite_resolve.specs.declared.error.CompileError.{CompileError}
use Rattle.sqlite_resolve.specs.declared.error.CompileError.TheVariants.{NoSuchTable}
use Rattle.sqlite.specs.declared.error.Error.{Error}
use Rattle.sqlite.specs.declared.error.Error.TheVariants.{SqliteFailure}
use Rattle.sqlite.specs.declared.error.ErrorCode.TheVariants.{OperationInterrupted}
use Rattle.sqlite.specs.Clock.{timed}
use Rattle.sqlite.specs.Effect.{RefusesQuery, RefusesToRead}
use Rattle.sqlite.specs.Listing.{understood, reads_listing, listing_schema, is_select, if_select, IsSourceOf}
use Rattle.sqlite.specs.State.{State, Fails, IsUnchanged, IsStatement, IsNoStatement, IsNotRun, FailsToQuery}
use Rattle.sqlite.specs.State.{FailsToShow, IsTooLate}
use Rattle.tables_schema.specs.Forms.{strict}
use Rattle.tables_schema.specs.Intact.{IsKnown, IsIntact, tree_named}
use Rattle.tables_sql.specs.Queries.{parsed, IsSelect}
use Rattle.tables_sql.specs.Failures.{failure_of, FailsWith}
use Rattle.tables_sql.proofs.Means.{IsMeant}
use Rattle.tables_sql.proofs.Scans.{IsScan}
use Rattle.tables_sql.proofs.Statements.{Compiles}

-- ---- a failure of the store

pub store_failed : (old new : State) (large refused too_big : Type 0) → (too_big → large) → (e : Error)
    → Fails old new too_big e → FailsWith old new large refused (failure_of e)
store_failed old new large refused too_big grows e (OutOfMemory, is, why, back, tells) =
    subst (λ x. FailsWith old new large refused (failure_of x)) (sym is) (inl back)
store_failed old new large refused too_big grows e (Broken, is, why, back, tells) =
    subst (λ x. FailsWith old new large refused (failure_of x)) (sym is) (inl (inr why, back))
store_failed old new large refused too_big grows e (Unstorable, is, why, back, tells) =
    subst (λ x. FailsWith old new large refused (failure_of x)) (sym is) (grows why, back)
store_failed old new large refused too_big grows e (cause, is, why, back, tells) =
    subst (λ x. FailsWith old new large refused (failure_of x)) (sym is) (inl (inl why, back))

-- ---- a text that is a statement

pub one : {r : Result Compiled CompileError} {a b : Compiled} → r ≡ Ok a → r ≡ Ok b → a ≡ b
one h k = let e = sym h ∙ k in cc

-- a statement with all its parameters is one
pub is_statement : (s : State) (text : List ℕ) (params : Row) (command : Command)
    → IsMeant s.now.schema text (length params) command → (e : Error) → IsNoStatement s text params e → ⊥
is_statement s text params command m e (inl h) = absurd (let no = sym m.1.0 ∙ h.1 in cc)
is_statement s text params command m e (inr (c, is, inl h)) = let same : m.0 ≡ c =
    one m.1.0 is in absurd (h.0 (subst (λ (x : Compiled). length text ≤ x.tail) same (leb-true _ _ m.5)))
is_statement s text params command m e (inr (c, is, inr (inl h))) = let same : m.0 ≡ c =
    one m.1.0 is in absurd (h.0 (sym m.6 ∙ ap (λ (x : Compiled). length x.names) same))
is_statement s text params command m e (inr (c, is, inr (inr h))) = let same : m.0 ≡ c =
    one m.1.0 is in absurd (h.0 (ap (λ (x : Compiled). x.formats) (sym same) ∙ m.4))

-- ---- a SELECT shows no rows of a write, whatever the schema

module _ (names : List Name) (start end tail : ℕ) (select : Read) where
  compiled_read : (text : List ℕ) → first text ≡ Ok (parsed names start end tail select) → (s : Schema) (c : Compiled)
      → compiled s text ≡ Ok c → c.returning ≡ None
  unfolding compiled planned meaning returning timed_names
  compiled_read text one s c h = go _ (rw one at h)
    where
      go : (r : Result Command CompileError)
          → ◌≡◌ {A = Result Compiled CompileError}
          (and_then (and_then (and_then r (λ k. Ok (k, None))) (λ found. Ok ([], found)))
          (λ plan. Ok (with_command (parsed names start end tail select) plan))) (Ok c) → c.returning ≡ None
      go (Ok k) e = let same : with_command (parsed names start end tail select) ([], (k, None)) ≡ c =
          cc in ap (λ (x : Compiled). x.returning) (sym same)
      go (Err fault) e = cc

  pub understood_read : (text : List ℕ) → first text ≡ Ok (parsed names start end tail select)
      → (s : Schema) (c : Compiled) → understood s text ≡ Ok c → c.returning ≡ None
  unfolding understood
  understood_read text one s c h = go (reads_listing s text) h
    where
      kept : (b : Bool) (x : Compiled)
          → ◌≡◌ {A = Result Compiled CompileError} (if b then Ok x else Err NoSuchTable) (Ok c) → x ≡ c
      kept true x e = cc
      kept false x e = cc

      picked : (r : Result Compiled CompileError) → compiled listing_schema text ≡ r → if_select r ≡ Ok c
          → c.returning ≡ None
      picked (Ok x) is e = compiled_read text one listing_schema c (is ∙ ap Ok (kept (is_select x.command) x e))
      picked (Err fault) is e = cc

      go : (b : Bool) → (if b then if_select (compiled listing_schema text) else compiled s text) ≡ Ok c
          → c.returning ≡ None
      go true e = picked _ refl e
      go false e = compiled_read text one s c e

-- ---- a query

module _ (old new : State) (text : List ℕ) (params : Row) (names : List (List ℕ)) (query : Query)
    (meant : IsUnchanged old new → IsMeant old.now.schema text (length params)
    (Select (record { lets = []; body = query }) names)) (reads : IsSelect text)
    (typed : IsUnchanged old new → accepts_program old.now.schema [] query params ≡ true)
    (sums_nothing : (db : Trees) → QueryOverflows query db params → ⊥) where
  -- a limit on steps stopped it, and nothing changed
  abbrev IsStopped : Error → Type 0
  IsStopped e = (e ≡ SqliteFailure OperationInterrupted) × IsSome old.step_limit × IsUnchanged old new

  -- only a limit on steps refuses it
  refused : (e : Error) → IsUnchanged old new
      → RefusesQuery old.step_limit old.now (record { lets = []; body = query }) params e → IsStopped e
  refused e same (inl h) = absurd (let no = sym (typed same) ∙ h.1 in cc)
  refused e same (inr (inl h)) = absurd (sums_nothing (overlay old.now.trees []) h.1)
  refused e same (inr (inr h)) = (h.0, h.1, same)

  shown : (e : Error) (c : Compiled) (it : IsStatement old text params c) → understood old.now.schema text ≡ Ok c
      → FailsToShow old new text c (timed params c.formats it.now) e None → IsStopped e
  shown e c it known h =
      let m = meant h.3 in
      let same : m.0 ≡ c = one m.1.0 known in
      let db : h.0 ≡ old.now = subst (λ b. IsSourceOf b old.now h.0) m.1.1 h.1 in
      let command : c.command ≡ Select (record { lets = []; body = query }) names =
      ap (λ (x : Compiled). x.command) (sym same) ∙ m.2 in
      let plain : c.formats ≡ [] = ap (λ (x : Compiled). x.formats) (sym same) ∙ m.4 in
      let full : timed params c.formats it.now ≡ params = ap (λ f. timed params f it.now) plain ∙ append-nil params in
      refused e h.3 (subst (λ ps. RefusesToRead old.step_limit (Select (record { lets = []; body = query }) names)
      old.now ps e) full
      (subst₂ (λ k d. RefusesToRead old.step_limit k d (timed params c.formats it.now) e) command db h.2))

  silent : (c : Compiled) → understood old.now.schema text ≡ Ok c → c.returning ≡ None
  silent c is = understood_read reads.0 reads.1 reads.2 reads.3 reads.4 text reads.5 old.now.schema c is

  -- the store failed, or a limit on steps stopped it
  pub query_stops : (e : Error) → FailsToQuery text params old new e ⊎ IsTooLate text params old new e
      → Fails old new ⊥ e ⊎ IsStopped e
  unfolding FailsToQuery IsNotRun
  query_stops e (inl (inl (inl h))) = absurd (is_statement old text params _ (meant h.1) e h.0)
  query_stops e (inl (inl (inr h))) = inl h
  query_stops e (inl (inr h)) =
      inr (shown e h.0 h.1 h.1.is (subst (FailsToShow old new text h.0 (timed params h.0.formats h.1.now) e)
      (silent h.0 h.1.is) h.2))
  query_stops e (inr h) = absurd (let none : IsSome {T = Returning} None = subst IsSome (silent h.0 h.1.is) h.2 in cc)

  -- an error of the query
  pub query_fails : (e : Error) → FailsToQuery text params old new e
      → FailsWith old new ⊥ (IsSome old.step_limit) (failure_of e)
  query_fails e h = elim (query_stops e (inl h)) [
    | inl failed ↦ store_failed old new ⊥ (IsSome old.step_limit) ⊥ (λ no. no) e failed
    | inr stopped ↦ subst (λ x. FailsWith old new ⊥ (IsSome old.step_limit) (failure_of x)) (sym stopped.0)
        (inr (stopped.1, stopped.2))
  ]

-- a query over one table sums nothing
sums_nothing : (q : Query) (tree : ℕ) → IsScan q tree → (params : Row) (db : Trees) → QueryOverflows q db params → ⊥
sums_nothing q tree scan params db (inl h) =
    subst (λ g. Overflows g (matches db q.filter q.from (params ∷ []))) scan.group h
sums_nothing q tree scan params db (inr h) = (subst (λ j. FoldOverflows db j (params ∷ [])) scan.from h).4

-- an error of a query over one table, if it is there in an open connection
pub open_read_fails : (name : List ℕ) (columns : List Column) (key : List ℕ) (old new : State)
    → (IsTrue old.is_open → IsIntact old.now.schema (strict name columns key))
    → (text : List ℕ) (params : Row) (names : List (List ℕ)) (query : ℕ → Query)
    → ((tree : ℕ) → IsScan (query tree) tree)
    → Compiles name columns key text (length params) (λ at tree. Select (record { lets = []; body = query tree }) names)
    → IsSelect text
    → ((s : Schema) (at tree : ℕ) → IsKnown s name at (record (strict name columns key) { tree = tree })
    → accepts_program s [] (query tree) params ≡ true)
    → (e : Error) → FailsToQuery text params old new e → FailsWith old new ⊥ (IsSome old.step_limit) (failure_of e)
open_read_fails name columns key old new at text params names query scan is reads typed =
    query_fails old new text params names (query tree)
    (λ same. is old.now.schema (exists same).at tree (exists same).known) reads
    (λ same. typed old.now.schema (exists same).at tree (exists same).known)
    (sums_nothing (query tree) tree (scan tree) params)
  where
    tree : ℕ
    tree = tree_named old.now.schema name

    exists : IsUnchanged old new → IsIntact old.now.schema (strict name columns key)
    exists same = at same.0.was_open
