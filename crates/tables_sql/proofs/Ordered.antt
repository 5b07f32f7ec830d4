-- What a SELECT means that shows columns of one table of the store and rises by the first of them, whatever the table.
use Rattle.std.proofs.Common.{◌≡◌, ℕ, zero, suc, ◌+◌, pos, negsuc, List, [], ◌∷◌, ◌++◌, Some, None, Option, true, false}
use Rattle.std.proofs.Common.{Bool, Ok, refl, length, map, append_assoc, append-nil, slice_get, take}
use Rattle.std.specs.Prelude.{nat_lt, nat_le, ◌-◌}
use Rattle.std.specs.List.{AllByRecursion}
use Rattle.sqlite_value.specs.declared.value.Value.TheVariants.{Int}
use Rattle.sqlite_value.specs.declared.keys.Collation.{Collation}
use Rattle.sqlite_value.specs.declared.keys.Collation.TheVariants.{Binary}
use Rattle.sqlite_value.specs.declared.keys.Key.{Key}
use Rattle.sqlite_value.specs.Keys.{ascending}
use Rattle.sqlite_ast.specs.declared.Core.{out-Core}
use Rattle.sqlite_ast.specs.declared.Expr.{Expr, out-Expr}
use Rattle.sqlite_ast.specs.declared.Expr.TheOpen.{Expr-F, Shown-F}
use Rattle.sqlite_ast.specs.declared.Select.{Select as Written, out-Select}
use Rattle.sqlite_ast.specs.declared.Shown.{Shown, out-Shown}
use Rattle.sqlite_ast.specs.declared.Sort.{Sort, out-Sort}
use Rattle.sqlite_ast.specs.declared.Source.{Source, out-Source}
use Rattle.sqlite_ast.specs.declared.Origin.TheVariants as origin
use Rattle.sqlite_schema.specs.declared.schema.Schema.{Schema}
use Rattle.sqlite_schema.specs.declared.schema.Column.{Column}
use Rattle.sqlite_schema.specs.declared.program.Program.{Program}
use Rattle.sqlite_schema.specs.declared.command.Command.TheVariants.{Select}
use Rattle.sqlite_schema.specs.Names.{column_named, table_named}
use Rattle.sqlite_sql.specs.Term.{Term, lit, col}
use Rattle.sqlite_sql.specs.Query.{Query, inner, end}
use Rattle.sqlite_draft.specs.declared.query.Draft.{Draft}
use Rattle.sqlite_draft.specs.declared.join.Step.TheVariants.{Inner}
use Rattle.sqlite_draft.specs.Join.{chain}
use Rattle.sqlite_resolve.specs.declared.scope.Bound.{Bound}
use Rattle.sqlite_resolve.specs.declared.scope.Found.TheVariants as found_as
use Rattle.sqlite_resolve.specs.declared.scope.Output.{Output}
use Rattle.sqlite_resolve.specs.Body.{bounds, bound, table_in, outputs, outputs_from, shown, heading, is_column}
use Rattle.sqlite_resolve.specs.Body.{declared, tests, result}
use Rattle.sqlite_resolve.specs.Expr.{lower}
use Rattle.sqlite_resolve.specs.Lowering.{alone, fresh, max_budget, take_slot}
use Rattle.sqlite_resolve.specs.Order.{sorts, sorts_from, peeled}
use Rattle.sqlite_resolve.specs.Program.{program, sources, query_to}
use Rattle.sqlite_resolve.specs.Scope.{Name, Context, column_at, find as found_in, in_level, only, hit, column_in}
use Rattle.sqlite_resolve.specs.Scope.{is_among}
use Rattle.sqlite_resolve.specs.Select.{constant_or, paging, outermost}
use Rattle.tables_schema.specs.Forms.{strict}
use Rattle.tables_schema.specs.Intact.{IsKnown}
use Rattle.tables_sql.specs.Queries.{IsSelect}
use Rattle.tables_sql.proofs.Means.{IsBare, matching_is, scan_means, sort_is, lower_column, plain_state, shown_column}
use Rattle.tables_sql.proofs.Scans.{IsScan}
use Rattle.tables_sql.proofs.Statements.{Compiles}

-- ---- columns

-- a column: its name, and its place, counted from 0
abbrev pub Place : Type 0
Place = Name × ℕ

-- the results that show them
abbrev pub outputs_of : List Place → List Output
outputs_of = map (λ (c : Place). shown_column c.0 (c.1 + 1))

-- what a query rises by
abbrev pub key_of : Place → Term × Key
key_of c = (col 1 (c.1 + 1), ascending Binary)

-- the query of these results over a table, in the order of those columns
abbrev pub query_of : List Output → List Place → List Term → ℕ → Query
query_of results by filter tree = record {
  from = inner tree end;
  filter = filter;
  group = None;
  project = map (λ o. o.term) results;
  distinct = false;
  collations = [];
  order = map key_of by;
  limit = lit (Int (negsuc 0));
  offset = lit (Int (pos 0));
}

-- of these columns, in the order of the first of them
abbrev pub query_on : List Place → ℕ → List Term → ℕ → Query
query_on shown n = query_of (outputs_of shown) (take n shown)

abbrev pub names_on : List Place → List Name
names_on shown = map (λ o. o.name) (outputs_of shown)

pub scan_of : (results : List Output) (by : List Place) (filter : List Term) (tree : ℕ)
    → IsScan (query_of results by filter tree) tree
scan_of results by filter tree = record { from = refl; group = refl; distinct = refl; whole = λ params rows. refl }

abbrev pub whole : (ℕ → Query) → ℕ → Program
whole query tree = record { lets = []; body = query tree }

-- what a query of one table is before its columns are typed
abbrev pub draft : (ℕ → Query) → ℕ → Draft
draft query tree =
    record {
      from = chain (Inner tree ∷ []);
      filter = (query tree).filter;
      group = None;
      project = (query tree).project;
      distinct = false;
      collations = [];
      order = (query tree).order;
      limit = lit (Int (negsuc 0));
      offset = lit (Int (pos 0));
    }

-- so much of a budget is left, and N of the budgets on the way are above 1
abbrev pub spent : ℕ → ℕ → ℕ
spent zero budget = budget
spent (suc n) budget = spent n (budget - 1)

abbrev pub AreAbove : ℕ → ℕ → Type 0
AreAbove zero budget = Unit {0}
AreAbove (suc n) budget = (nat_lt 1 budget ≡ true) × AreAbove n (budget - 1)

-- the collation that was read last
abbrev pub last_of : List Place → Option Collation → Option Collation
last_of [] last = last
last_of (c ∷ cs) last = last_of cs (Some Binary)

-- each is shown by its name alone, and each sorts so
abbrev pub AreShown : List Shown → List Place → Type 0
AreShown [] [] = Unit {0}
AreShown (s ∷ ss) (c ∷ cs) =
    ((e : Expr) × (text : Name) × (out-Shown s ≡ Shown-F.One e None text) × (out-Expr e ≡ Expr-F.Column None c.0))
    × AreShown ss cs
AreShown _ _ = ⊥

abbrev pub AreSorts : List Output → List Sort → List Place → Type 0
AreSorts shown [] [] = Unit {0}
AreSorts shown (x ∷ xs) (c ∷ cs) =
    (IsBare shown x × (out-Expr (peeled (out-Sort x).key) ≡ Expr-F.Column None c.0) × ((out-Sort x).descending ≡ false))
    × AreSorts shown xs cs
AreSorts shown _ _ = ⊥

-- the text reads one table as a whole
abbrev pub IsOfOne : Name → Written → Source → Type 0
IsOfOne name select source =
    ((out-Core (out-Select select).first).from ≡ source ∷ []) × ((out-Source source).origin ≡ origin.Table name)
    × ((out-Source source).alias ≡ None) × ((out-Source source).using ≡ []) × ((out-Source source).is_left ≡ false)
    × ((out-Source source).on ≡ None)
    × ((out-Select select).with ≡ []) × ((out-Select select).others ≡ []) × ((out-Select select).limit ≡ None)
    × ((out-Select select).offset ≡ None) × ((out-Core (out-Select select).first).group ≡ [])
    × ((out-Core (out-Select select).first).having ≡ None) × ((out-Core (out-Select select).first).distinct ≡ false)
    × ((s : Schema) → sources (query_to 15) s (out-Core (out-Select select).first).from [] ≡ Ok (s, []))

idle_is : alone (record { collation = Some Binary; is_written = false }) ≡ Binary
unfolding alone
idle_is = refl

paging_is : (s : Schema) (select : Written) → (out-Select select).limit ≡ None → (out-Select select).offset ≡ None
    → paging s select ≡ Ok (lit (Int (negsuc 0)), lit (Int (pos 0)))
unfolding paging constant_or
paging_is s select limit offset = rw (limit, offset)

pub prefixes : {X : Type 0} (P : X → Type 0) (n : ℕ) (xs : List X) → AllByRecursion P xs → AllByRecursion P (take n xs)
prefixes P zero xs h = tt
prefixes P (suc n) [] h = tt
prefixes P (suc n) (x ∷ xs) h = (h.0, prefixes P n xs h.1)

-- FROM names one table
bounds_are : (schema : Schema) (sources : List Source) {source : Source} → sources ≡ source ∷ []
    → (name : Name) (at : ℕ) → (out-Source source).origin ≡ origin.Table name → (out-Source source).alias ≡ None
    → (out-Source source).using ≡ []
    → table_named schema name ≡ Some at → bounds schema sources (fresh 1 max_budget)
    ≡ Ok (record { name = name; table = at; slot = 1; shared = [] } ∷ [], plain_state 100000 None)
unfolding bounds bound table_in take_slot
bounds_are schema sources is name at from alias using named = rw (is, from, named, alias, using)

module _ (name : Name) (columns : List Column) (key : List ℕ) where
  -- such a column is there, and compares bytes
  abbrev pub IsColumn : Place → Type 0
  IsColumn c =
      (column_named (strict name columns key) c.0 ≡ Some c.1)
      × ((k : Column) × (slice_get columns c.1 ≡ Some k) × (k.collation ≡ Binary) × (k.name ≡ c.0))

  -- where its name is read
  abbrev pub context : Schema → ℕ → List Output → Bool → Context
  context s at results grouped =
      record {
        schema = s;
        levels =
            record { tables = record { name = name; table = at; slot = 1; shared = [] } ∷ []; shown = results } ∷ [];
        may_aggregate = grouped;
        may_alias = true;
      }

  module _ (s : Schema) (at tree : ℕ)
      (present : slice_get s.tables at ≡ Some (record (strict name columns key) { tree = tree })) where
    pub found : (results : List Output) (grouped : Bool) (c : Place) → IsColumn c
        → found_in (context s at results grouped) None c.0 ≡ Ok (found_as.Column 1 at c.1)
    unfolding found_in in_level only hit column_in is_among
    found results grouped c is = rw (present, is.0)

    pub column : (c : Place) → IsColumn c
        → column_at s 1 at c.1 ≡ Ok (col 1 (c.1 + 1), record { collation = Some Binary; is_written = false })
    unfolding column_at
    column c is = rw (present, is.1.1, is.1.2)

    heads : (c : Place) → IsColumn c → declared s at (Some c.1) ≡ Some c.0
    unfolding declared
    heads c is = rw (present, is.1.1, is.1.3)

    shows : (results : List Output) (grouped : Bool) (tables : List Bound) (done : List Output) (x : Shown) (c : Place)
        → IsColumn c → (e : Expr) (text : Name) → out-Shown x ≡ Shown-F.One e None text
        → out-Expr e ≡ Expr-F.Column None c.0 → (last : Option Collation) (budget : ℕ) → nat_lt 1 budget ≡ true
        → shown lower (context s at results grouped) tables done x (plain_state budget last)
        ≡ Ok (done ++ shown_column c.0 (c.1 + 1) ∷ [], plain_state (budget - 1) (Some Binary))
    unfolding shown heading is_column
    shows results grouped tables done x c is e text one names last budget enough =
        rw (
          one,
          lower_column (context s at results grouped) e c.0 at c.1 (col 1 (c.1 + 1)) (Some Binary) last budget
              names (found results grouped c is) (column c is) enough,
          names,
          found results grouped c is,
          heads c is,
        )

    shows_all : (results : List Output) (grouped : Bool) (tables : List Bound) (done : List Output) (xs : List Shown)
        (cs : List Place) → AreShown xs cs → AllByRecursion IsColumn cs → (last : Option Collation) (budget : ℕ)
        → AreAbove (length cs) budget
        → outputs_from lower (context s at results grouped) tables done xs (plain_state budget last)
        ≡ Ok (done ++ outputs_of cs, plain_state (spent (length cs) budget) (last_of cs last))
    shows_all results grouped tables done [] [] each are last budget enough = rw (append-nil done) refl
    shows_all results grouped tables done [] (c ∷ cs) each are last budget enough = absurd each
    shows_all results grouped tables done (x ∷ xs) [] each are last budget enough = absurd each
    shows_all results grouped tables done (x ∷ xs) (c ∷ cs) each are last budget enough =
        let e = each.0 in
        let o = shown_column c.0 (c.1 + 1) in
        rw (
          shows results grouped tables done x c are.0 e.0 e.1 e.2 e.3 last budget enough.0,
          shows_all results grouped tables (done ++ o ∷ []) xs cs each.1 are.1 (Some Binary) (budget - 1) enough.1,
          append_assoc done (o ∷ []) (outputs_of cs),
        ) refl

    sorts_all : (results : List Output) (done : List (Term × Key)) (xs : List Sort) (cs : List Place)
        → AreSorts results xs cs → AllByRecursion IsColumn cs → (last : Option Collation) (budget : ℕ)
        → AreAbove (length cs) budget
        → sorts_from lower (context s at results false) results done xs (plain_state budget last)
        ≡ Ok (done ++ map key_of cs, plain_state (spent (length cs) budget) (last_of cs last))
    sorts_all results done [] [] each are last budget enough = rw (append-nil done) refl
    sorts_all results done [] (c ∷ cs) each are last budget enough = absurd each
    sorts_all results done (x ∷ xs) [] each are last budget enough = absurd each
    sorts_all results done (x ∷ xs) (c ∷ cs) each are last budget enough =
        let e = each.0 in
        let cx = context s at results false in
        let lowered =
        lower_column cx _ c.0 at c.1 (col 1 (c.1 + 1)) (Some Binary) last budget e.1 (found results false c are.0)
        (column c are.0) enough.0 in
        rw (
          sort_is cx results done x (col 1 (c.1 + 1)) (plain_state budget last)
              (plain_state (budget - 1) (Some Binary)) Binary e.0.0 e.0.1 e.0.2 e.0.3 refl lowered idle_is,
          e.2,
          sorts_all results (done ++ key_of c ∷ []) xs cs each.1 are.1 (Some Binary) (budget - 1) enough.1,
          append_assoc done (key_of c ∷ []) (map key_of cs),
        ) refl

  ordered : (s : Schema) (at tree : ℕ)
      (present : slice_get s.tables at ≡ Some (record (strict name columns key) { tree = tree })) (outs : List Output)
      (xs : List Sort) (by : List Place) → AreSorts outs xs by → AllByRecursion IsColumn by
      → (last : Option Collation) (budget : ℕ) → AreAbove (length by) budget
      → sorts lower (context s at outs false) outs xs (plain_state budget last)
      ≡ Ok (map key_of by, plain_state (spent (length by) budget) (last_of by last))
  unfolding sorts
  ordered s at tree present outs xs by sorted rise last budget more =
      sorts_all s at tree present outs [] xs by sorted rise last budget more

  -- a text that shows these results of the table, where they meet a condition, and rises by some columns
  pub selects_by : (text : List ℕ) {count : ℕ} (outs : List Output) (by : List Place) → AllByRecursion IsColumn by
      → (reads : IsSelect text) {source : Source} → IsOfOne name reads.4 source
      → AreSorts outs (out-Select reads.4).order by
      → (seen last : Option Collation) (left budget : ℕ)
      → ((s : Schema) (at tree : ℕ) → IsKnown s name at (record (strict name columns key) { tree = tree })
      → outputs lower (context s at [] true) (record { name = name; table = at; slot = 1; shared = [] } ∷ [])
      (out-Core (out-Select reads.4).first).shown (plain_state max_budget None)
      ≡ Ok (outs, plain_state left seen))
      → (filter : List Term) → AreAbove (length by) budget
      → ((s : Schema) (at tree : ℕ) → IsKnown s name at (record (strict name columns key) { tree = tree })
      → tests lower (context s at outs false) [] (out-Core (out-Select reads.4).first).filter
      (plain_state left seen) ≡ Ok (filter, plain_state budget last))
      → ((s : Schema) (at tree : ℕ) → IsKnown s name at (record (strict name columns key) { tree = tree })
      → program s [] (draft (query_of outs by filter) tree) ≡ Ok (whole (query_of outs by filter) tree))
      → nat_le (length text) reads.3 ≡ true → length reads.0 ≡ count
      → Compiles name columns key text count
      (λ at tree. Select (whole (query_of outs by filter) tree) (map (λ o. o.name) outs))
  unfolding result
  selects_by text outs by rise reads {source} one sorted seen last left budget displayed filter more tested typed ends
      given s at tree known =
      let present = known.named.1 in
      let core = (out-Select reads.4).first in (
        _,
        scan_means text reads.5 s (record { name = name; table = at; slot = 1; shared = [] } ∷ []) outs
            (record { steps = Inner tree ∷ []; filter = filter }) (map key_of by)
            (lit (Int (negsuc 0)), lit (Int (pos 0)))
            (plain_state max_budget None) (plain_state left seen) (plain_state budget last)
            (plain_state (spent (length by) budget) (last_of by last)) (whole (query_of outs by filter) tree)
            one.6 one.7 (paging_is s reads.4 one.8 one.9) (one.13 s) one.10 one.11 one.12
            (bounds_are s (out-Core core).from one.0 name at one.1 one.2 one.3 known.named.0)
            (displayed s at tree known)
            (matching_is (outermost s) name at 1 outs core source (record (strict name columns key) { tree = tree })
            filter (plain_state left seen) (plain_state budget last) one.0 one.4 one.5 one.3 present
            (tested s at tree known))
            (ordered s at tree present outs (out-Select reads.4).order by sorted rise last budget more)
            (typed s at tree known),
        refl,
        refl,
        refl,
        ends,
        given,
      )

  -- which are columns of its own, and the first of them
  pub selects : (text : List ℕ) {count : ℕ} (cs : List Place) (n : ℕ) → AllByRecursion IsColumn cs
      → (reads : IsSelect text) {source : Source} → IsOfOne name reads.4 source
      → AreShown (out-Core (out-Select reads.4).first).shown cs
      → AreSorts (outputs_of cs) (out-Select reads.4).order (take n cs)
      → (filter : List Term) (last : Option Collation) (budget : ℕ) → AreAbove (length cs) max_budget
      → AreAbove (length (take n cs)) budget
      → ((s : Schema) (at tree : ℕ) → IsKnown s name at (record (strict name columns key) { tree = tree })
      → tests lower (context s at (outputs_of cs) false) [] (out-Core (out-Select reads.4).first).filter
      (plain_state (spent (length cs) max_budget) (last_of cs None)) ≡ Ok (filter, plain_state budget last))
      → ((s : Schema) (at tree : ℕ) → IsKnown s name at (record (strict name columns key) { tree = tree })
      → program s [] (draft (query_on cs n filter) tree) ≡ Ok (whole (query_on cs n filter) tree))
      → nat_le (length text) reads.3 ≡ true → length reads.0 ≡ count
      → Compiles name columns key text count (λ at tree. Select (whole (query_on cs n filter) tree) (names_on cs))
  unfolding outputs
  selects text cs n are reads one displayed sorted filter last budget enough more tested typed ends given =
      selects_by text (outputs_of cs) (take n cs) (prefixes IsColumn n cs are) reads one sorted (last_of cs None) last
      (spent (length cs) max_budget) budget
      (λ s at tree known. shows_all s at tree known.named.1 [] true
      (record { name = name; table = at; slot = 1; shared = [] } ∷ []) []
      (out-Core (out-Select reads.4).first).shown cs displayed are None max_budget enough)
      filter more tested typed ends given
