-- Making a table next to whatever tables there are.
use Rattle.std.proofs.Common.{◌≡◌, ◌+◌, ℕ, List, [], ◌∷◌, ◌++◌, codes, Bool, true, false, cond, not, ◌&&◌, ◌||◌, Some}
use Rattle.std.proofs.Common.{None, Option, Ok, refl, sym, ap, subst, ◌∙◌, IsTrue, arith, append-nil, append_assoc}
use Rattle.std.specs.Prelude.{is_some, nat_le, length, suc, slice_get, option_and_then, option_map, unwrap_or}
use Rattle.std.specs.List.{AllByRecursion, list_all, list_any, position_from}
use Rattle.std.specs.Option.{option_or}
use Rattle.std.proofs.lemmas.List.Folds.{find-append, list_any-append}
use Rattle.sqlite_trees.specs.Tree.{Trees}
use Rattle.sqlite_trees.proofs.ListLemmas.{all_both, all-append}
use Rattle.sqlite_schema.specs.declared.schema.Column.{Column}
use Rattle.sqlite_schema.specs.declared.schema.Schema.{Schema}
use Rattle.sqlite_schema.specs.declared.schema.Table.{Table}
use Rattle.sqlite_schema.specs.declared.schema.Index.{Index}
use Rattle.sqlite_schema.specs.declared.schema.Reference.{Reference}
use Rattle.sqlite_schema.specs.declared.command.Command.TheVariants.{CreateTable}
use Rattle.sqlite_schema.specs.Names.{same_name, table_named, index_named, view_named}
use Rattle.sqlite_rules.proofs.ActionLemmas.{got_last}
use Rattle.sqlite_ast.specs.declared.CreateTable as ast
use Rattle.sqlite_ast.specs.declared.Statement.TheVariants as written
use Rattle.sqlite_resolve.specs.Scope.{Name}
use Rattle.sqlite_resolve.specs.Define as define
use Rattle.sqlite_resolve.specs.Compile.{first, planned, meaning, timed, returning, command, create_table, is_attached}
use Rattle.sqlite_resolve.specs.Compile.{creates, is_reserved, table_defined_by}
use Rattle.sqlite_rules.proofs.ListLemmas.{test_push}
use Rattle.sqlite_catalog.specs.Change.{created, next_tree}
use Rattle.sqlite_catalog.proofs.StepLemmas.{same_itself}
use Rattle.sqlite.specs.Does.{Tally, lacks_sequence}
use Rattle.sqlite.specs.Rows.{sequence}
use Rattle.sqlite.specs.Effect.{Database, IsDatabase}
use Rattle.sqlite.specs.Listing.{understood}
use Rattle.sqlite.specs.State.{State, Writes, Executes}
use Rattle.sqlite.proofs.Callers.{IsPlain, command_of, statement_of, runs_as}
use Rattle.tables_schema.specs.Forms.{strict}
use Rattle.tables_schema.specs.Presence.{IsFree}
use Rattle.tables_schema.specs.Intact.{IsNamed, tree_named}
use Rattle.tables_sql.specs.Contents.{Bytes}
use Rattle.tables_make.specs.NewTables.{IsMaking, Makes, all_created, placed, index_of, is_clear, have_distinct_names}
use Rattle.tables_sql.proofs.Means.{Means, IsMeant, understood_as}
use Rattle.tables_sql.proofs.Writes.{went, same_value}
use Rattle.tables_sql.proofs.Truths.{and_so, not_so}
use Rattle.tables_sql.proofs.Finds.{found_by_place}
use Rattle.tables_sql.proofs.Lists.{one_list}
use Rattle.tables_sql.proofs.Frozen.{spared}
use Rattle.tables_make.proofs.FrozenThen.{frozen_then}

-- ---- what the text means

create_planned : (s : Schema) (names : List Name) (start end tail : ℕ) (def : ast.CreateTable) (t : Table)
    → IsFree s def.name → is_reserved def.name ≡ false → def.if_missing ≡ false → def.resolves ≡ false
    → define.table [] def ≡ Ok t → t.computed ≡ [] → t.stamps.places ≡ []
    → planned s (record {
      statement = written.CreateTable def;
      names = names;
      formats = [];
      start = start;
      end = end;
      tail = tail;
    }) ≡ Ok ([], (CreateTable, None))
unfolding planned meaning timed returning command create_table is_attached creates
create_planned s names start end tail def t free own strict_making plain made computed stamped =
    rw (free.view, own, free.index, free.table, made, computed, stamped, plain)

pub create_means : (text : List ℕ) {names : List Name} {start end tail : ℕ} {def : ast.CreateTable}
    → first text ≡ Ok (record {
      statement = written.CreateTable def;
      names = names;
      formats = [];
      start = start;
      end = end;
      tail = tail;
    })
    → (s : Schema) (t : Table) → IsFree s def.name → is_reserved def.name ≡ false → def.if_missing ≡ false
    → def.resolves ≡ false → define.table [] def ≡ Ok t → t.computed ≡ [] → t.stamps.places ≡ []
    → Means s text (record {
      command = CreateTable;
      returning = None;
      names = names;
      formats = [];
      start = start;
      end = end;
      tail = tail;
    })
create_means text one s t free own strict_making plain made computed stamped =
    understood_as s text _ _ one (create_planned s _ _ _ _ _ t free own strict_making plain made computed stamped)

-- a text makes this table in any schema with nothing of its name
pub record IsMakingIn (s : Schema) (text : List ℕ) (table : Table) : Type 0 where
  pub meant : IsMeant s text 0 CreateTable
  pub command : command_of (understood s text) ≡ CreateTable
  pub statement : statement_of text (understood s text) ≡ text
  pub plain : IsPlain (understood s text)
  pub defined : table_defined_by text ≡ Ok table

pub making : (s : Schema) (text : List ℕ) (table : Table) (c : _) → Means s text c → c.command ≡ CreateTable
    → statement_of text (Ok c) ≡ text → IsPlain (Ok c) → nat_le (length text) c.tail ≡ true → length c.names ≡ 0
    → table_defined_by text ≡ Ok table
    → IsMakingIn s text table
making s text table c means command whole plain all none defined =
    record {
      meant = (c, means, command, plain.0, plain.1, all, none);
      command = ap command_of means.0 ∙ command;
      statement = ap (statement_of text) means.0 ∙ whole;
      plain = subst IsPlain (sym means.0) plain;
      defined = defined;
    }

-- ---- one more at the end of a list

place_in_two : {X : Type 0} (p : X → Bool) (xs ys : List X) (n : ℕ)
    → position_from p n (xs ++ ys) ≡ option_or (position_from p n xs) (position_from p (n + length xs) ys)
place_in_two p [] ys n = ap (λ m. position_from p m ys) (let e : n ≡ n + 0 = omega arith in e)
place_in_two p (x ∷ xs) ys n = go (p x) (place_in_two p xs ys (n + 1))
  where
    go : (b : Bool) → position_from p (n + 1) (xs ++ ys)
        ≡ option_or (position_from p (n + 1) xs) (position_from p (n + 1 + length xs) ys)
        → ◌≡◌ {A = Option ℕ} (cond b (Some n) (position_from p (n + 1) (xs ++ ys)))
        (option_or (cond b (Some n) (position_from p (n + 1) xs)) (position_from p (n + suc (length xs)) ys))
    go true later = refl
    go false later =
        later ∙ ap (λ m. option_or (position_from p (n + 1) xs) (position_from p m ys))
        (let e : n + 1 + length xs ≡ n + suc (length xs) = omega arith in e)

none_more : {X : Type 0} (p : X → Bool) (xs : List X) (x : X) (n : ℕ) → position_from p n xs ≡ None → p x ≡ false
    → position_from p n (xs ++ x ∷ []) ≡ None
none_more p xs x n h is = rw (place_in_two p xs (x ∷ []) n, h, is) refl

pub placed_still : {X : Type 0} (p : X → Bool) (xs : List X) (y : X) (n at : ℕ)
    → position_from p n xs ≡ Some at → position_from p n (xs ++ y ∷ []) ≡ Some at
placed_still p xs y n at h = rw (place_in_two p xs (y ∷ []) n, h) refl

-- ---- where a table is that was just made, and what is free stays free

-- nothing of the schema has the name
abbrev pub IsUnused : Schema → Bytes → Type 0
IsUnused s name = (table_named s name ≡ None) × (index_named s name ≡ None) × (view_named s name ≡ None)

module _ (s : Schema) (title : Bytes) (cs : List Column) (key : List ℕ) where
  abbrev form : Table
  form = strict title cs key

  abbrev added : Table
  added = record (strict title cs key) { tree = next_tree s }

  pub new_named : table_named s title ≡ None → IsNamed (created s form) title (length s.tables) added
  new_named none = (
    rw (place_in_two (λ (t : Table). same_name t.name title) s.tables (added ∷ []) 0, none, same_itself title)
        (ap Some (let e : 0 + length s.tables ≡ length s.tables = omega arith in e)),
    got_last s.tables added,
  )

  pub unused_after : (name : Bytes) → is_clear title name ≡ true → IsUnused s name → IsUnused (created s form) name
  unused_after name clear h = let b =
      and_so _ _ clear in (
        none_more (λ (t : Table). same_name t.name name) s.tables _ 0 h.0 (not_so _ b.0),
        none_more (λ (i : Index). same_name i.name name) s.indexes _ 0 h.1 (not_so _ b.1),
        h.2,
      )

  -- nor does a foreign key of the new table wait for one
  free_after : (name : Bytes) → is_clear title name ≡ true → IsFree s name → IsFree (created s form) name
  free_after name clear free =
      let unused = unused_after name clear (free.table, free.index, free.view) in
      record {
        table = unused.0;
        index = unused.1;
        view = unused.2;
        unawaited = test_push (λ (t : Table). list_all (λ (r : Reference). not (same_name r.parent name))
            t.references) s.tables added free.unawaited refl;
      }

  pub all_free_after : (rest : List Table)
      → list_all (λ u. is_clear title u.name && is_clear title (index_of u.name)) rest ≡ true
      → AllByRecursion (λ u. IsFree s u.name) rest → AllByRecursion (λ u. IsFree (created s form) u.name) rest
  all_free_after [] clear h = tt
  all_free_after (u ∷ us) clear h = let b =
      and_so _ _ clear in (free_after u.name (and_so _ _ b.0).0 h.0, all_free_after us b.1 h.1)

pub tree_is : (s : Schema) (t : Table) (at : ℕ) → IsNamed s t.name at t → tree_named s t.name ≡ t.tree
tree_is s t at it =
    ap (λ o. unwrap_or (option_map (λ (u : Table). u.tree) (option_and_then (slice_get s.tables) o)) 0) it.0
    ∙ ap (λ o. unwrap_or (option_map (λ (u : Table). u.tree) o) 0) it.1

-- ---- a counter that is there stays there

some_or : {X : Type 0} (a b : Option X) → is_some a ≡ true → is_some (option_or a b) ≡ true
some_or None b h = absurd cc
some_or (Some x) b h = refl

missing_tables : (a b c : Bool) → (b ≡ true → c ≡ true) → (a && not b) ≡ false → ((a || false) && not c) ≡ false
missing_tables false b c f h = refl
missing_tables true true c f h = rw (f refl) refl
missing_tables true false c f h = absurd cc

pub counted_after : (s : Schema) (title : Bytes) (cs : List Column) (key : List ℕ) → lacks_sequence s ≡ false
    → lacks_sequence (created s (strict title cs key)) ≡ false
counted_after s title cs key h =
    let t : Table = record (strict title cs key) { tree = next_tree s } in
    let is = λ (u : Table). same_name u.name (codes "sqlite_sequence") in
    let more : is_some (sequence s) ≡ true → is_some (sequence (created s (strict title cs key))) ≡ true =
    λ e. ap is_some (found_by_place is (s.tables ++ t ∷ []) ∙ find-append is s.tables (t ∷ []))
    ∙ some_or _ _ (sym (ap is_some (found_by_place is s.tables)) ∙ e) in
    ap (λ a. a && not (is_some (sequence (created s (strict title cs key)))))
    (list_any-append (λ (u : Table). u.is_counted) s.tables (t ∷ []))
    ∙ missing_tables (list_any (λ (u : Table). u.is_counted) s.tables) (is_some (sequence s)) _ more h

-- ---- one table

-- the table gets the next tree, no row, and the last place; each other table keeps its rows
pub makes_in : (text : List ℕ) (title : Bytes) (cs : List Column) (key : List ℕ) (old new : State) (count : ℕ)
    → IsMakingIn old.now.schema text (strict title cs key) → lacks_sequence old.now.schema ≡ false
    → old.in_transaction ≡ true → Executes text [] old new (Ok count) → Makes (strict title cs key ∷ []) old new
makes_in text title cs key old new count making lacks inside h =
    let table = strict title cs key in
    let counted = counted_after old.now.schema title cs key lacks in
    let s = old.now.schema in
    let w =
    subst (λ t. Writes old new None CreateTable t [] count) making.statement
    (runs_as text [] old new s refl CreateTable making.command making.plain count h) in
    let all = went w.changed in
    let first = went all.1 in
    let made = first.1 in
    let both : Ok made.table ≡ Ok table = sym made.defined ∙ making.defined in
    let same : made.table ≡ table = cc in
    let is : first.0.schema ≡ created s table = made.is ∙ ap (created s) same in
    let plain : lacks_sequence first.0.schema ≡ false = ap lacks_sequence is ∙ counted in
    let now : new.now ≡ first.0 =
    ap (λ (p : Tally × Database). p.1) (same_value all.2) ∙ same_value (rw plain at first.2) in
    record {
      was_open = w.shown.was_open;
      is_open = w.shown.is_open;
      sound = w.sound;
      schema = ap (λ (d : Database). d.schema) now ∙ is;
      kept =
          subst (λ (d : Database). AllByRecursion (λ t. d.trees t.tree ≡ old.now.trees t.tree) s.tables) (sym now)
          made.others;
      empty = (ap (λ (d : Database). d.trees (next_tree s)) now ∙ made.empty, tt);
      frozen = λ sound. spared old.now new.now sound w.frozen;
      committed = w.shown.committed_is ∙ rw inside refl;
      mode = w.shown.mode ∙ inside;
    }

pub making_after : (title : Bytes) (cs : List Column) (key : List ℕ) (rest : List Table) (old new : State)
    → have_distinct_names (strict title cs key ∷ rest) ≡ true → IsMaking (strict title cs key ∷ rest) old
    → IsTrue old.is_open → IsDatabase new.now → new.now.schema ≡ created old.now.schema (strict title cs key)
    → new.in_transaction ≡ true → IsMaking rest new
making_after title cs key rest old new apart under was_open sound made mode = record {
  sound = λ is_open. sound;
  free =
      λ is_open. subst (λ (s : Schema). AllByRecursion (λ u. IsFree s u.name) rest) (sym made)
      (all_free_after old.now.schema title cs key rest (and_so _ _ apart).0 (under.free was_open).1);
  counted = λ is_open. ap lacks_sequence made ∙ counted_after old.now.schema title cs key (under.counted was_open);
  mode = mode;
}

-- ---- one after another

all_after : (s : Schema) (ts us : List Table) → all_created s (ts ++ us) ≡ all_created (all_created s ts) us
all_after s [] us = refl
all_after s (t ∷ ts) us = all_after (created s t) ts us

placed_after : (s : Schema) (ts us : List Table) → placed s (ts ++ us) ≡ placed s ts ++ placed (all_created s ts) us
placed_after s [] us = refl
placed_after s (t ∷ ts) us = ap (λ l. record t { tree = next_tree s } ∷ l) (placed_after (created s t) ts us)

pub tables_after : (s : Schema) (ts : List Table) → (all_created s ts).tables ≡ s.tables ++ placed s ts
tables_after s [] = sym (append-nil s.tables)
tables_after s (t ∷ ts) =
    tables_after (created s t) ts ∙ append_assoc s.tables (record t { tree = next_tree s } ∷ [])
    (placed (created s t) ts)

pub kept_then : (a b c : Trees) (ts : List Table) → AllByRecursion (λ t. b t.tree ≡ a t.tree) ts
    → AllByRecursion (λ t. c t.tree ≡ b t.tree) ts → AllByRecursion (λ t. c t.tree ≡ a t.tree) ts
kept_then a b c =
    all_both (λ (t : Table). b t.tree ≡ a t.tree) (λ t. c t.tree ≡ b t.tree) (λ t. c t.tree ≡ a t.tree) (λ t h k. k ∙ h)

pub makes_then : (ts us : List Table) (a b c : State) → Makes ts a b → Makes us b c → Makes (ts ++ us) a c
makes_then ts us a b c h k =
    let s = a.now.schema in
    let over : AllByRecursion (λ t. c.now.trees t.tree ≡ b.now.trees t.tree) (s.tables ++ placed s ts) =
    subst (AllByRecursion (λ (t : Table). c.now.trees t.tree ≡ b.now.trees t.tree))
    (ap (λ (x : Schema). x.tables) h.schema ∙ tables_after s ts) k.kept in
    let both = one_list (λ (t : Table). c.now.trees t.tree ≡ b.now.trees t.tree) s.tables (placed s ts) over in
    let made : AllByRecursion (λ t. c.now.trees t.tree ≡ []) (placed (all_created s ts) us) =
    subst (λ (x : Schema). AllByRecursion (λ t. c.now.trees t.tree ≡ []) (placed x us)) h.schema k.empty in
    record {
      was_open = h.was_open;
      is_open = k.is_open;
      sound = k.sound;
      schema = k.schema ∙ ap (λ (x : Schema). all_created x us) h.schema ∙ sym (all_after s ts us);
      kept = kept_then a.now.trees b.now.trees c.now.trees s.tables h.kept both.0;
      empty =
          subst (AllByRecursion (λ (t : Table). c.now.trees t.tree ≡ [])) (sym (placed_after s ts us))
          (all-append (λ (t : Table). c.now.trees t.tree ≡ []) (placed s ts) _
          (all_both (λ (t : Table). b.now.trees t.tree ≡ []) (λ t. c.now.trees t.tree ≡ b.now.trees t.tree)
          (λ t. c.now.trees t.tree ≡ []) (λ t h k. k ∙ h) (placed s ts) h.empty both.1) made);
      frozen = λ sound. frozen_then a.now b.now c.now.trees ts h.schema (h.frozen sound) (k.frozen h.sound);
      committed = k.committed ∙ h.committed;
      mode = k.mode;
    }
