-- Why an INSERT into one of the store's tables fails: its row may be too large, or no rowid may be left for it.
use Rattle.std.proofs.Common.{◌≡◌, ◌⊎◌, inl, inr, ℕ, ℤ, ◌/◌, List, [], ◌∷◌, ◌&&◌, Bool, true, false, not, Ok, Err, Some}
use Rattle.std.proofs.Common.{None, Option, length, map, drop, option_map, slice_get, sym, ap, subst, ◌∙◌, refl, IsTrue}
use Rattle.std.specs.Prelude.{IsSome}
use Rattle.std.proofs.lemmas.Bool.{both_ways}
use Rattle.sqlite_value.specs.declared.value.Value.TheVariants.{Int}
use Rattle.sqlite_value.specs.Keys.{plain}
use Rattle.sqlite_value.specs.Order.{Row}
use Rattle.sqlite_trees.specs.Tree.{Trees}
use Rattle.sqlite_sql.specs.Term.{Term}
use Rattle.sqlite_schema.specs.declared.schema.Column.{Column}
use Rattle.sqlite_schema.specs.declared.schema.Constraint.TheVariants.{Datatype, NotNull, PrimaryKey, Unique}
use Rattle.sqlite_schema.specs.declared.schema.Constraint.TheVariants.{ForeignKey}
use Rattle.sqlite_schema.specs.declared.schema.Among.TheVariants.{All}
use Rattle.sqlite_schema.specs.declared.schema.Keys.TheVariants.{Enforced}
use Rattle.sqlite_schema.specs.declared.schema.Table.{Table}
use Rattle.sqlite_schema.specs.declared.command.Source.TheVariants.{Values}
use Rattle.sqlite_schema.specs.declared.command.Command.TheVariants.{Insert}
use Rattle.sqlite_schema.specs.Rules.{Refers, agree, are_typed, are_present}
use Rattle.sqlite_typing.specs.Types.{accepts_terms}
use Rattle.sqlite_rules.specs.declared.error.Refusal.{Refusal}
use Rattle.sqlite_rules.specs.declared.error.Refusal.TheVariants.{Violates, NoRowid, TooDeep}
use Rattle.sqlite_rules.specs.declared.error.Rowids.TheVariants.{Chosen}
use Rattle.sqlite_rules.specs.Lists.{Has}
use Rattle.sqlite_rules.specs.Cast.{cast_row}
use Rattle.sqlite_rules.specs.Edit.{Edit, edit_of, numbered, next_rowid, IsRefused, IsOversized}
use Rattle.sqlite_rules.proofs.ActionLemmas.{no_works as works_of_none}
use Rattle.sqlite_rules.proofs.ListLemmas.{all_has}
use Rattle.sqlite.specs.declared.error.Error.{Error}
use Rattle.sqlite.specs.Effect.{Database, IsDatabase, value_rows, edit_error}
use Rattle.sqlite.specs.Does.{Does, OnRows}
use Rattle.sqlite.specs.Rows.{Edited, Inserts, Written, Task, stamped}
use Rattle.sqlite.specs.State.{State, ExecutesInside}
use Rattle.sqlite.proofs.Callers.{one_step}
use Rattle.tables_sql.specs.declared.failure.Failed.TheVariants.{Disk}
use Rattle.tables_schema.specs.Forms.{strict}
use Rattle.tables_schema.specs.Intact.{IsIntact, tree_named}
use Rattle.tables_sql.specs.Contents.{rows_named}
use Rattle.tables_sql.specs.Calls.{IsUnderWay}
use Rattle.tables_sql.specs.Failures.{failure_of, FailsWith, IsTooLarge, HasNoRowidLeft}
use Rattle.tables_sql.proofs.Writes.{same_value, at_place}
use Rattle.tables_sql.proofs.KeptRules.{refers_still, only_own}
use Rattle.tables_sql.proofs.NewKeys.{unique_put}
use Rattle.tables_sql.proofs.Stops.{stops_at, gives_no_stop, no_end, plain_mode, concluded}
use Rattle.tables_sql.proofs.Statements.{Compiles}
use Rattle.tables_sql.proofs.WriteFailures.{MayStop, OrShut, our_write_fails}

pub not_both : (b : Bool) → b ≡ true → (b && true) ≡ false → ⊥
not_both b h k = both_ways (b && true) k (rw h refl)

not_free : (b : Bool) → (not b && true) ≡ false → b ≡ true
not_free true h = refl
not_free false h = cc

unfit : (b : Bool) → (b && true) ≡ false → b ≡ false
unfit true h = h
unfit false h = refl

-- no row of the table has the key of these values
abbrev pub IsNewKey : List ℕ → List ℕ → Database → Row → Type 0
IsNewKey name key db values =
    (r : Row) → Has (rows_named db name) r
    → agree plain key r key (Int (next_rowid (rows_named db name)) ∷ values) ≡ true → ⊥

module _ (name : List ℕ) (columns : List Column) (key : List ℕ) (db : Database) (sound : IsDatabase db)
    (exists : IsIntact db.schema (strict name columns key)) where
  abbrev tree : ℕ
  tree = tree_named db.schema name

  abbrev own : Table
  own = record (strict name columns key) { tree = tree }

  abbrev rows : List Row
  rows = rows_named db name

  module _ (values : Row) (typed : are_typed None 0 columns values ≡ true)
      (present : are_present None 0 columns (Int (next_rowid rows) ∷ values) ≡ true) (Taken : Type 0)
      (free : IsNewKey name key db values ⊎ Taken) where
    abbrev row : Row
    row = Int (next_rowid rows) ∷ values

    abbrev addition : Edit
    addition = record { table = own; gone = []; news = row ∷ [] }

    abbrev Refuses : Type 0
    Refuses = HasNoRowidLeft db (strict name columns key) ⊎ Taken

    -- no rule refuses a row of a new key, but there may be no rowid for it
    refused_by : (why : Refusal) → IsRefused db.schema Enforced db.trees addition why
        → (failure_of (edit_error why) ≡ Disk) × Refuses
    unfolding HasNoRowidLeft
    refused_by (Violates Datatype) h = absurd (not_both _ (rw typed refl) h)
    refused_by (Violates NotNull) h = absurd (not_both _ present h)
    refused_by (Violates PrimaryKey) h = (refl, inl (inr (not_free _ h)))
    refused_by (Violates Unique) h =
        elim free [
          | inl fresh ↦ absurd
              (h (unique_put db.schema db.trees tree key exists.unguarded row refl fresh (sound.obeys.rules Unique)))
          | inr loaded ↦ (refl, inr loaded)
        ]
    refused_by (Violates ForeignKey) h = absurd h
    refused_by NoRowid h = (refl, inl (inl (unfit _ h)))
    refused_by TooDeep h = absurd h
    refused_by why h = absurd (let e = h in cc)

    module _ (limit : Option ℕ) where
      abbrev MayEnd : Option Error → Type 0
      MayEnd = MayStop (IsTooLarge db (strict name columns key) values) (IsSome limit ⊎ Refuses)

      stops_so : (stop : Option Error) → Edited db.schema Enforced db.trees addition (Err stop) → MayEnd stop
      unfolding IsTooLarge
      stops_so stop (why, inl (reason, h, is), e) =
          let same : why ≡ Some reason = cc in
          let r = refused_by reason h in
          subst MayEnd (sym (e ∙ ap (option_map edit_error) same)) (r.0, inr r.1)
      stops_so stop (why, inr (inl (big, inl is_row, h, is)), e) =
          let same : why ≡ None = cc in
          subst MayEnd (sym (e ∙ ap (option_map edit_error) same)) (subst (IsOversized db.schema own) is_row h)
      stops_so stop (why, inr (inl (big, inr other, h, is)), e) = absurd other
      stops_so stop (why, inr (inr (next, applied, settles)), e) =
          absurd (no_end db.schema Enforced next why
          (rw (works_of_none db.schema Enforced 0 tree (row ∷ [])) at settles))

      -- each row has its parents still: the new one refers to none
      refers_grown : (next : Trees) → Edited db.schema Enforced db.trees addition (Ok next) → Refers All db.schema next
      refers_grown next h =
          let a =
          one_step db.schema Enforced db.trees next addition (works_of_none db.schema Enforced 0 tree (row ∷ []))
          h in
          refers_still db.schema tree exists.unreferred db.trees next
          (λ t listed other. all_has _ db.schema.tables t a.tables listed other)
          (λ t r listed same there. inr
          (ap (λ (u : Table). u.references) (only_own db (strict name columns key) sound exists t listed same)))
          (sound.obeys.rules ForeignKey)

      module _ (params : Row) (terms : List Term) (width : ℕ)
          (accepts : accepts_terms terms (stamped own params) ≡ true)
          (made : numbered Chosen rows
          (map (λ s. cast_row own (drop 0 s))
          (value_rows (stamped own params) width (length terms / width) terms)) ≡ row ∷ []) where
        abbrev task : Task
        task = record { limit = limit; keys = Enforced; schema = db.schema; table = own; params = params }

        edit_is : (sources : List Row) → sources ≡ value_rows (stamped own params) width (length terms / width) terms
            → edit_of db.trees own [] Chosen 0 sources ≡ addition
        edit_is sources is =
            ap (λ all. edit_of db.trees own [] Chosen 0 all) is
            ∙ ap (λ (all : List Row). let it : Edit = record { table = own; gone = []; news = all } in it) made

        adds : (stop : Option Error) → Inserts task (Values terms width) db.trees (Err stop) → MayEnd stop
        adds stop (inl (None, h, is)) = absurd h
        adds stop (inl (Some e, inl h, is)) = absurd (both_ways _ h.1 accepts)
        adds stop (inl (Some e, inr h, is)) = stops_at MayEnd stop (Some e) is (ap failure_of h.0, inl h.1)
        adds stop (inr (sources, given, inl (other, h, is))) = absurd (gives_no_stop other _ h)
        adds stop (inr (sources, given, inr (there, counted, inl (other, h, is)))) =
            stops_at MayEnd stop other is
            (stops_so other (subst (λ it. Edited db.schema Enforced db.trees it (Err other)) (edit_is sources given.1)
            h))
        adds stop (inr (sources, given, inr (there, counted, inr (mid, written, inl (other, h, is))))) =
            absurd (gives_no_stop other _ h)
        adds stop (inr (sources, given, inr (there, counted, inr (mid, written, inr (next, counting, is))))) =
            absurd (gives_no_stop stop _ is)

        grown : (w : Written) → Inserts task (Values terms width) db.trees (Ok w) → Refers All db.schema w.trees
        grown w (inl h) = absurd (let e = h.2 in cc)
        grown w (inr (sources, given, inl h)) = absurd (let e = h.2 in cc)
        grown w (inr (sources, given, inr (there, counted, inl h))) = absurd (let e = h.2 in cc)
        grown w (inr (sources, given, inr (there, counted, inr (mid, written, inl h)))) = absurd (let e = h.2 in cc)
        grown w (inr (sources, given, inr (there, counted, inr (mid, written, inr (next, counting, is))))) =
            subst (Refers All db.schema) (sym (ap (λ (it : Written). it.trees) (same_value is) ∙ same_value counting))
            (refers_grown mid (subst (λ it. Edited db.schema Enforced db.trees it (Ok mid))
            (edit_is sources given.1) written))

        -- how the command stops
        pub insert_stops : (st : List ℕ) (stop : Option Error)
            → Does limit plain_mode params db st None (Insert exists.at (Values terms width)) (Err stop) → MayEnd stop
        insert_stops st stop h =
            go (at_place _ (slice_get db.schema.tables exists.at) own (Err stop) exists.known.named.1 h)
          where
            go : OnRows task plain_mode None (Insert exists.at (Values terms width)) db.trees (Err stop) → MayEnd stop
            go (inl (other, h, is)) = stops_at MayEnd stop other is (adds other h)
            go (inr (w, h, ended)) = absurd (concluded db.schema limit own params w (grown w h) stop ended)

module _ (name : List ℕ) (columns : List Column) (key : List ℕ) (old new : State) (under : IsUnderWay old)
    (existing : IsTrue old.is_open → IsIntact old.now.schema (strict name columns key)) where
  abbrev table : Table
  table = strict name columns key

  module _ (text : List ℕ) (count : ℕ) (params : Row) (terms : List Term) (width : ℕ) (values : Row)
      (given : length params ≡ count)
      (is : Compiles name columns key text count (λ at tree. Insert at (Values terms width)))
      (accepts : accepts_terms terms (stamped table params) ≡ true)
      (made : (rows : List Row) → numbered Chosen rows
      (map (λ s. cast_row table (drop 0 s))
      (value_rows (stamped table params) width (length terms / width) terms))
      ≡ (Int (next_rowid rows) ∷ values) ∷ [])
      (typed : are_typed None 0 columns values ≡ true)
      (present : (id : ℤ) → are_present None 0 columns (Int id ∷ values) ≡ true) where
    -- an INSERT fails for the store, the limit on steps, want of a rowid, or a key that is there
    pub insert_fails : (Taken : Type 0) → (IsTrue old.is_open → IsNewKey name key old.now values ⊎ Taken)
        → (e : Error) → ExecutesInside 0 text params old new (Err e)
        → FailsWith old new (OrShut old (IsTooLarge old.now table values))
        (IsSome old.step_limit ⊎ (HasNoRowidLeft old.now table ⊎ Taken)) (failure_of e)
    insert_fails Taken free e h =
        our_write_fails name columns key old new existing text count params _ (λ at tree. refl) given is
        (IsTooLarge old.now table values) (IsSome old.step_limit ⊎ (HasNoRowidLeft old.now table ⊎ Taken))
        (λ up exists. insert_stops name columns key old.now (under.of_store up).sound exists values typed (present _)
        Taken (free up) old.step_limit params terms width accepts (made _)) e h
