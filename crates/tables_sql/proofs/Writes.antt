-- What an INSERT and a DELETE make of their table, whatever other tables there are.
use Rattle.std.proofs.Common.{◌≡◌, ◌⊎◌, inl, inr, ℕ, ◌/◌, pos, negsuc, List, [], ◌∷◌, length, slice_get, true, false}
use Rattle.std.proofs.Common.{Some, None, Option, Ok, Err, Result, refl, sym, ap, subst, ◌∙◌, IsTrue, ◌≢◌, filter, not}
use Rattle.sqlite_value.specs.declared.value.Value.TheVariants.{Null, Int}
use Rattle.sqlite_value.specs.Order.{Row}
use Rattle.sqlite_trees.specs.Tree.{Trees}
use Rattle.sqlite_trees.proofs.ListLemmas.{all-slice_get}
use Rattle.sqlite_sql.specs.Term.{Term, lit, col}
use Rattle.sqlite_sql.specs.Query.{Query, inner, end, IsAnswer}
use Rattle.sqlite_sql.specs.Program.{overlay}
use Rattle.sqlite_schema.specs.declared.schema.Column.{Column}
use Rattle.sqlite_schema.specs.declared.schema.Table.{Table}
use Rattle.sqlite_schema.specs.declared.schema.Keys.TheVariants.{Enforced}
use Rattle.sqlite_schema.specs.declared.command.Source.TheVariants.{Values}
use Rattle.sqlite_schema.specs.declared.command.Command.{Command}
use Rattle.sqlite_schema.specs.declared.command.Command.TheVariants.{Insert, Delete}
use Rattle.sqlite_rules.specs.Edit.{Edit, edit_of, edited, Applies, without_all, taken_by}
use Rattle.sqlite_rules.specs.Calls.{ids_of}
use Rattle.sqlite_rules.proofs.ActionLemmas.{no_works as works_of_none}
use Rattle.sqlite_rules.specs.declared.error.Rowids.TheVariants.{Chosen, Given}
use Rattle.sqlite.specs.Does.{Tally, Does, AtPlace}
use Rattle.sqlite.specs.Rows.{Part, Written, stamped}
use Rattle.sqlite.specs.Effect.{Database, IsDatabase, value_rows}
use Rattle.sqlite.specs.Listing.{understood}
use Rattle.sqlite.specs.State.{State, mode_of, Executes, Writes}
use Rattle.sqlite.proofs.Callers.{IsPlain, command_of, statement_of, runs_as, one_step}
use Rattle.tables_schema.specs.Forms.{strict}
use Rattle.std.specs.Prelude.{nat_le, ◌^◌, ◌==◌}
use Rattle.std.specs.List.{AllByRecursion, list_all, flat_map, filter_map}
use Rattle.sqlite_schema.specs.declared.schema.Schema.{Schema}
use Rattle.sqlite_schema.specs.declared.schema.Keys.{Keys}
use Rattle.sqlite_schema.specs.declared.schema.Reference.{Reference}
use Rattle.sqlite_schema.specs.Rules.{ParentKey, parent_key}
use Rattle.sqlite_rules.specs.declared.action.Deed.{Deed}
use Rattle.sqlite_rules.specs.Action.{work_by, work_for, works, deed_for, pairs}
use Rattle.tables_schema.specs.Intact.{points_at, is_unreferred}
use Rattle.tables_sql.specs.Frozen.{KeepsUnshown}
use Rattle.tables_sql.proofs.Truths.{and_so}
use Rattle.std.proofs.lemmas.Bool.{ne_eqb}
use Rattle.tables_sql.proofs.KeptRules.{parent_off}

-- inside a transaction: one table has these rows, and each other table, the store's or a foreign one, has those that it
-- had
pub record SetsRows (old new : State) (tree : ℕ) (rows : List Row) : Type 0 where
  pub was_open : IsTrue old.is_open
  pub is_open : IsTrue new.is_open
  pub sound : IsDatabase new.now
  pub schema : new.now.schema ≡ old.now.schema
  pub rows_are : new.now.trees tree ≡ rows
  pub others : AllByRecursion (λ t. t.tree ≢ tree → new.now.trees t.tree ≡ old.now.trees t.tree) old.now.schema.tables
  pub unshown : KeepsUnshown old.now new.now.trees
  pub committed : new.committed ≡ old.committed
  pub mode : new.in_transaction ≡ true
  pub marks : new.marks ≡ old.marks

pub went : {B E R : Type 0} {b : B} {Stops : E → Type 0} → ((stop : E) × Stops stop × (Ok b ≡ Err stop)) ⊎ R → R
went (inl stopped) = absurd (let e = stopped.2 in cc)
went (inr on) = on

pub same_value : {B E : Type 0} {a b : B} → ◌≡◌ {A = Result B E} (Ok a) (Ok b) → a ≡ b
same_value e = cc

pub at_place : {X A : Type 0} (P : X → Part A) (o : Option X) (x : X) (out : _) → o ≡ Some x → AtPlace P o out → P x out
at_place P o x out is h = subst (λ p. AtPlace P p out) is h

-- a query of rowids, and the rows that it finds
abbrev pub rowids_where : ℕ → List Term → Query
rowids_where tree filter = record {
  from = inner tree end;
  filter = filter;
  group = None;
  project = col 1 0 ∷ [];
  distinct = false;
  collations = [];
  order = [];
  limit = lit (Int (negsuc 0));
  offset = lit (Int (pos 0));
}

-- ---- no foreign key acts

by_key : (depth tree : ℕ) (moves : List (Row × Row)) (child : Table) (ref : Reference) (deed : Option Deed)
    (key : Option ParentKey)
    → ((k : ParentKey) → key ≡ Some k → (k.0 == tree) ≡ false) → work_by depth tree moves child ref deed key ≡ None
by_key depth tree moves child ref None key other = refl
by_key depth tree moves child ref (Some deed) None other = refl
by_key depth tree moves child ref (Some deed) (Some k) other = rw (other k refl)

module _ (s : Schema) (keys : Keys) (depth tree : ℕ) (olds : List Row) where
  no_work : (child : Table) (refs : List Reference) → list_all (λ r. not (points_at s tree r)) refs ≡ true
      → filter_map (work_for s keys depth tree olds [] child) refs ≡ []
  no_work child [] h = refl
  no_work child (r ∷ rs) h =
      let off = λ (k : ParentKey) (is : parent_key s.tables r ≡ Some k). let t =
      parent_off s tree r k (and_so _ _ h).0 is in ne_eqb k.0 tree (λ e. t.2 (t.3 ∙ e)) in
      rw (by_key depth tree (pairs olds []) child r (deed_for keys true r) (parent_key s.tables r) off)
      (no_work child rs (and_so _ _ h).1)

  no_works : (tables : List Table) → list_all (λ t. list_all (λ r. not (points_at s tree r)) t.references) tables ≡ true
      → flat_map (λ child. filter_map (work_for s keys depth tree olds [] child) child.references) tables ≡ []
  no_works [] h = refl
  no_works (t ∷ ts) h = rw (no_work t t.references (and_so _ _ h).0) (no_works ts (and_so _ _ h).1)

-- a DELETE sets nothing off where no reference finds the table
pub works_unreferred : (s : Schema) (keys : Keys) (depth tree : ℕ) (olds : List Row) → is_unreferred s tree ≡ true
    → works s keys depth tree olds [] ≡ []
works_unreferred s keys depth tree olds h = no_works s keys depth tree olds s.tables h

-- ---- the two writes

-- a write whose one edit was applied
sets_by : (old new : State) (at : ℕ) (edit : Edit) {command : Command} {text : List ℕ} {params : Row} {count : ℕ}
    → Writes old new None command text params count → old.in_transaction ≡ true
    → slice_get old.now.schema.tables at ≡ Some edit.table → new.now.schema ≡ old.now.schema
    → Applies old.now.schema Enforced old.now.trees edit new.now.trees
    → SetsRows old new edit.table.tree (edited old.now.trees edit)
sets_by old new at edit w inside present same a = record {
  was_open = w.shown.was_open;
  is_open = w.shown.is_open;
  sound = w.sound;
  schema = same;
  rows_are = a.rows;
  others = a.tables;
  unshown =
      λ t hidden. a.others t (λ e. all-slice_get (λ (x : Table). x.tree ≢ t) old.now.schema.tables at edit.table present
      hidden.0 (sym e)) hidden.1;
  committed = w.shown.committed_is ∙ rw inside refl;
  mode = w.shown.mode ∙ inside;
  marks = w.marks;
}

module _ (name : List ℕ) (columns : List Column) (key : List ℕ) (tree at width : ℕ) (terms : List Term)
    (text : List ℕ) where
  abbrev table : Table
  table = record (strict name columns key) { tree = tree }

  pub inserts_in : (params : Row) (old new : State) (count : ℕ) → old.in_transaction ≡ true
      → slice_get old.now.schema.tables at ≡ Some table
      → command_of (understood old.now.schema text) ≡ Insert at (Values terms width)
      → IsPlain (understood old.now.schema text)
      → Executes text params old new (Ok count)
      → (a : Applies old.now.schema Enforced old.now.trees
      (edit_of old.now.trees table [] Chosen 0
      (value_rows (stamped table params) width (length terms / width) terms)) new.now.trees)
      × SetsRows old new tree (edited old.now.trees
      (edit_of old.now.trees table [] Chosen 0
      (value_rows (stamped table params) width (length terms / width) terms)))
  inserts_in params old new count inside present is plain h =
      let db = old.now.trees in
      let command = Insert at (Values terms width) in
      let w = runs_as text params old new old.now.schema refl command is plain count h in
      let st = statement_of text (understood old.now.schema text) in
      let doing : Does old.step_limit (mode_of old) params (record old.now { schema = old.now.schema }) st None command
      (Ok (w.tally, new.now)) =
      w.changed in
      let done = went (at_place _ (slice_get old.now.schema.tables at) table _ present doing) in
      let now = ap (λ (p : Tally × Database). p.1) (same_value (went (went done.2).2).2) in
      let given = went done.1 in
      let written = went (went given.2).2 in
      let counted = went written.2 in
      let trees : done.0.trees ≡ written.0 =
      ap (λ (it : Written). it.trees) (same_value counted.2) ∙ same_value counted.1 in
      let edit = λ (all : List Row). edit_of db table [] Chosen 0 all in
      let whole : new.now ≡ record { schema = old.now.schema; trees = written.0 } =
      now ∙ ap (λ (t : Trees). let d : Database = record { schema = old.now.schema; trees = t } in d) trees in
      let first : Applies old.now.schema Enforced db (edit given.0) written.0 =
      one_step old.now.schema Enforced db written.0 (edit given.0)
      (works_of_none old.now.schema Enforced 0 tree (edit given.0).news) written.1 in
      let second : Applies old.now.schema Enforced db (edit given.0) new.now.trees =
      subst (λ (d : Database). Applies old.now.schema Enforced db (edit given.0) d.trees) (sym whole) first in
      let a : Applies old.now.schema Enforced db
      (edit (value_rows (stamped table params) width (length terms / width) terms)) new.now.trees =
      subst (λ all. Applies old.now.schema Enforced db (edit all) new.now.trees) given.1.1 second in (
        a,
        sets_by old new at (edit (value_rows (stamped table params) width (length terms / width) terms)) w inside
            present (ap (λ (d : Database). d.schema) whole) a,
      )

module _ (name : List ℕ) (columns : List Column) (key : List ℕ) (tree at : ℕ) (filter : List Term) (text : List ℕ) where
  abbrev from : Table
  from = record (strict name columns key) { tree = tree }

  pub deletes_in : (params : Row) (old new : State) (count : ℕ) → is_unreferred old.now.schema tree ≡ true
      → old.in_transaction ≡ true
      → slice_get old.now.schema.tables at ≡ Some from
      → command_of (understood old.now.schema text)
      ≡ Delete at (record { lets = []; body = rowids_where tree filter }) → IsPlain (understood old.now.schema text)
      → Executes text params old new (Ok count)
      → (rows : List Row) × IsAnswer (rowids_where tree filter) (overlay old.now.trees []) params rows
      × SetsRows old new tree (without_all (old.now.trees tree) (ids_of rows))
  deletes_in params old new count unreferred inside present is plain h =
      let db = old.now.trees in
      let command = Delete at (record { lets = []; body = rowids_where tree filter }) in
      let w = runs_as text params old new old.now.schema refl command is plain count h in
      let st = statement_of text (understood old.now.schema text) in
      let doing : Does old.step_limit (mode_of old) params (record old.now { schema = old.now.schema }) st None command
      (Ok (w.tally, new.now)) =
      w.changed in
      let done = went (at_place _ (slice_get old.now.schema.tables at) from _ present doing) in
      let now = ap (λ (p : Tally × Database). p.1) (same_value (went (went done.2).2).2) in
      let given = went done.1 in
      let written = went given.2 in
      let trees : done.0.trees ≡ written.0 = ap (λ (it : Written). it.trees) (same_value written.2) in
      let edit = edit_of db from (ids_of given.0) Given 0 [] in
      let whole : new.now ≡ record { schema = old.now.schema; trees = written.0 } =
      now ∙ ap (λ (t : Trees). let d : Database = record { schema = old.now.schema; trees = t } in d) trees in
      let first : Applies old.now.schema Enforced db edit written.0 =
      one_step old.now.schema Enforced db written.0 edit
      (works_unreferred old.now.schema Enforced 0 tree (taken_by db edit) unreferred) written.1 in
      let a : Applies old.now.schema Enforced db edit new.now.trees =
      subst (λ (d : Database). Applies old.now.schema Enforced db edit d.trees) (sym whole) first in (
        given.0,
        given.1.answer Null,
        sets_by old new at edit w inside present (ap (λ (d : Database). d.schema) whole) a,
      )

-- a tree below those of computed tables shows what it holds
pub overlay_low : (db : Trees) (tree : ℕ) → nat_le (2 ^ 31) tree ≡ false → overlay db [] tree ≡ db tree
overlay_low db tree low = rw low
