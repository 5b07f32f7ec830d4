-- A failure after some of the store's tables were made is a failure to make them all.
use Rattle.std.proofs.Common.{◌≡◌, ◌⊎◌, inl, inr, ◌≤◌, ◌+◌, ℕ, List, [], ◌∷◌, ◌++◌, map, Bool, true, false, refl, sym}
use Rattle.std.proofs.Common.{ap, subst, ◌∙◌, arith, IsTrue, length-append, ◌&&◌, Result, Ok, Err}
use Rattle.std.specs.Prelude.{fold, max, IfErr}
use Rattle.std.specs.Result.{IsErrAnd}
use Rattle.std.specs.List.{list_all}
use Rattle.std.proofs.lemmas.Bool.{or_left, or_right}
use Rattle.std.proofs.lemmas.List.Folds.{list_any-append}
use Rattle.sqlite_rules.proofs.ListLemmas.{test_has, some_has, some_from}
use Rattle.sqlite_schema.specs.declared.schema.Column.{Column}
use Rattle.sqlite_schema.specs.declared.schema.Schema.{Schema}
use Rattle.sqlite_schema.specs.declared.schema.Table.{Table}
use Rattle.sqlite_schema.specs.declared.schema.Index.{Index}
use Rattle.sqlite_catalog.specs.Change.{created, next_tree, past_views, is_used}
use Rattle.sqlite_catalog.specs.Listing.{automatic}
use Rattle.sqlite_catalog.proofs.ListFacts.{most_from, most_below, most_push}
use Rattle.sqlite_catalog.proofs.StepLemmas.{no_table, no_index, no_view, index_below}
use Rattle.sqlite.specs.State.{State}
use Rattle.tables_sql.specs.declared.failure.Failed.{Failed}
use Rattle.tables_sql.specs.declared.failure.Failed.TheVariants.{Memory, Size, Disk}
use Rattle.tables_schema.specs.Forms.{strict}
use Rattle.tables_sql.specs.Contents.{Bytes}
use Rattle.tables_make.specs.NewTables.{Makes, index_of, all_created, is_clear, have_distinct_names, RunsOutOfTrees}
use Rattle.tables_make.specs.NewTables.{IsIndexNameUsed, FailsToMakeThese}
use Rattle.tables_make.proofs.Creates.{IsUnused, unused_after}
use Rattle.tables_sql.proofs.Truths.{and_so}
use Rattle.tables_make.proofs.Placed.{Parts, table_of}
use Rattle.tables_make.proofs.MakingFailures.{none_used}

-- ---- numbers

-- a table that is made takes two
pub two_more : (s : Schema) (title : Bytes) (cs : List Column) (key : List ℕ)
    → next_tree (created s (strict title cs key)) ≤ next_tree s + 2
two_more s title cs key =
    let n = next_tree s in
    let table : Table = record (strict title cs key) { tree = n } in
    let tables = fold (λ k (t : Table). max k (t.tree + 1)) (past_views s) s.tables in
    let low : tables ≤ n = most_from (λ (i : Index). i.tree) tables s.indexes in
    let first =
    most_below (λ (i : Index). i.tree) (max tables (n + 1)) (n + 1) s.indexes (omega (arith, low))
    (λ i present. omega (arith, index_below s i present)) in
    let more =
    ap (λ m. fold (λ k (i : Index). max k (i.tree + 1)) m (created s (strict title cs key)).indexes)
    (most_push (λ (t : Table). t.tree) (past_views s) s.tables table) in
    omega (
      arith,
      first,
      more,
      most_push (λ (i : Index). i.tree) (max tables (n + 1)) s.indexes
          (automatic table 0 key (n + 1)),
    )

-- ---- names

unused_if : (s : Schema) (name : Bytes) → is_used s name ≡ false → IsUnused s name
unused_if s name h = (no_table s name h, no_index s name h, no_view s name h)

module _ (s : Schema) (title : Bytes) (cs : List Column) (key : List ℕ) where
  abbrev after : Schema
  after = created s (strict title cs key)

  -- a name that is taken then, and is none of the table's, was taken before
  used_before : (name : Bytes) → is_clear title name ≡ true → is_used after name ≡ true → is_used s name ≡ true
  used_before name clear h = go (is_used s name) refl
    where
      go : (b : Bool) → is_used s name ≡ b → b ≡ true
      go true is = refl
      go false is =
          absurd (let no = sym (none_used after name (unused_after s title cs key name clear (unused_if s name is)))
          ∙ h in cc)

  names_before : (us : List Table) → list_all (λ u. is_clear title u.name && is_clear title (index_of u.name)) us ≡ true
      → IsIndexNameUsed after us → IsIndexNameUsed s us
  names_before us clear h =
      let used = some_has (λ (u : Table). is_used after (index_of u.name)) us h in
      let apart =
      and_so _ _ (test_has (λ (u : Table). is_clear title u.name && is_clear title (index_of u.name)) us used.0
      clear used.1) in
      some_from (λ (u : Table). is_used s (index_of u.name)) us used.0 used.1
      (used_before (index_of used.0.name) apart.1 used.2)

  abbrev Lacks : Schema → List Table → Type 0
  Lacks of tables = RunsOutOfTrees of tables ⊎ IsIndexNameUsed of tables

  -- what the others lack then, they lacked together with it
  lacks_before : (us : List Table) → list_all (λ u. is_clear title u.name && is_clear title (index_of u.name)) us ≡ true
      → Lacks after us → Lacks s (strict title cs key ∷ us)
  lacks_before us clear (inl few) = inl (omega (arith, two_more s title cs key, few))
  lacks_before us clear (inr loaded) = inr (or_right (is_used s (index_of title)) _ (names_before us clear loaded))

abbrev pub part : Table → Parts
part t = (t.name, (t.columns, t.primary))

misses_then : (fs : List Parts) (us : List Table) (s : Schema) → have_distinct_names (map table_of fs ++ us) ≡ true
    → RunsOutOfTrees (all_created s (map table_of fs)) us ⊎ IsIndexNameUsed (all_created s (map table_of fs)) us
    → RunsOutOfTrees s (map table_of fs ++ us) ⊎ IsIndexNameUsed s (map table_of fs ++ us)
misses_then [] us s clear h = h
misses_then (f ∷ fs) us s clear h = let b =
    and_so _ _ clear in lacks_before s f.0 f.1.0 f.1.1 (map table_of fs ++ us) b.0
    (misses_then fs us (created s (table_of f)) b.1 h)

-- ---- failures

module _ (large refused : Type 0) (a b c : State) where
  -- after these were made
  pub fails_then : (fs : List Parts) (us : List Table) → have_distinct_names (map table_of fs ++ us) ≡ true
      → IsTrue a.is_open → b.now.schema ≡ all_created a.now.schema (map table_of fs) → IsTrue b.is_open
      → a.faults ≤ b.faults
      → (f : Failed) → FailsToMakeThese us large refused b c f
      → FailsToMakeThese (map table_of fs ++ us) large refused a c f
  fails_then fs us clear was_open made is_open rise Memory h = tt
  fails_then fs us clear was_open made is_open rise Size h = (h.0, was_open)
  fails_then fs us clear was_open made is_open rise Disk (inl (inl more)) = inl (inl (omega (arith, rise, more)))
  fails_then fs us clear was_open made is_open rise Disk (inl (inr shut)) = absurd (let no = sym is_open ∙ shut in cc)
  fails_then fs us clear was_open made is_open rise Disk (inr (inl why)) = inr (inl why)
  fails_then fs us clear was_open made is_open rise Disk (inr (inr lacks)) =
      inr (inr (misses_then fs us a.now.schema clear
      (subst (λ s. RunsOutOfTrees s us ⊎ IsIndexNameUsed s us) made lacks)))

  -- for another reason too, and the call that fails may note more faults
  pub fails_wider : (large_too refused_too : Type 0) → (large → large_too) → (refused → refused_too)
      → (ts us : List Table) → b.faults ≤ c.faults → (f : Failed) → FailsToMakeThese ts large refused a b f
      → FailsToMakeThese (ts ++ us) large_too refused_too a c f
  fails_wider large_too refused_too grows more ts us rise Memory h = tt
  fails_wider large_too refused_too grows more ts us rise Size h = (grows h.0, h.1)
  fails_wider large_too refused_too grows more ts us rise Disk (inl (inl faults)) =
      inl (inl (omega (arith, rise, faults)))
  fails_wider large_too refused_too grows more ts us rise Disk (inl (inr shut)) = inl (inr shut)
  fails_wider large_too refused_too grows more ts us rise Disk (inr (inl why)) = inr (inl (more why))
  fails_wider large_too refused_too grows more ts us rise Disk (inr (inr (inl few))) =
      inr (inr (inl (omega (arith, length-append ts us, few))))
  fails_wider large_too refused_too grows more ts us rise Disk (inr (inr (inr loaded))) =
      inr (inr (inr (list_any-append (λ (t : Table). is_used a.now.schema (index_of t.name)) ts us
      ∙ or_left _ _ loaded)))

-- one of several, after these were made, where the whole may fail for further reasons
pub fails_after : (large refused : Type 0) (a b c : State) (fs : List Parts) (ts us : List Table)
    → have_distinct_names (map table_of fs ++ (ts ++ us)) ≡ true → IsTrue a.is_open
    → b.now.schema ≡ all_created a.now.schema (map table_of fs) → IsTrue b.is_open → a.faults ≤ b.faults
    → (f : Failed) → FailsToMakeThese ts ⊥ ⊥ b c f
    → FailsToMakeThese (map table_of fs ++ (ts ++ us)) large refused a c f
fails_after large refused a b c fs ts us clear was_open made is_open rise f h =
    fails_then large refused a b c fs (ts ++ us) clear was_open made is_open rise f
    (fails_wider ⊥ ⊥ b c c large refused (λ no. absurd no) (λ no. absurd no) ts us (omega arith) f h)

-- the same for the same reasons
pub fails_among : (large refused : Type 0) (a b c : State) (fs : List Parts) (ts us : List Table)
    → have_distinct_names (map table_of fs ++ (ts ++ us)) ≡ true → Makes (map table_of fs) a b → a.faults ≤ b.faults
    → (f : Failed) → FailsToMakeThese ts large refused b c f
    → FailsToMakeThese (map table_of fs ++ (ts ++ us)) large refused a c f
fails_among large refused a b c fs ts us clear made rise f h =
    fails_then large refused a b c fs (ts ++ us) clear made.was_open made.schema made.is_open rise f
    (fails_wider large refused b c c large refused (λ x. x) (λ x. x) ts us (omega arith) f h)

-- an error that becomes a failure
pub becomes : {T : Type 0} (r : Result T Failed) (R P : Failed → Type 0) → IsErrAnd r R → ((f : Failed) → R f → P f)
    → IfErr r P
becomes (Ok x) R P is so = tt
becomes (Err f) R P is so = so f is
