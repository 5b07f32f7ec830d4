-- What a text means in any schema in which its table is found by name: lookups are the only stuck part, and are
-- rewritten.
use Rattle.std.proofs.Common.{◌≡◌, ◌+◌, ℕ, List, [], ◌∷◌, ◌∙◌, ap, subst, sym, Some, None, Option, slice_get, refl}
use Rattle.std.proofs.Common.{true, false, Ok}
use Rattle.sqlite_schema.specs.declared.schema.Schema.{Schema}
use Rattle.sqlite_schema.specs.declared.schema.Table.{Table}
use Rattle.sqlite_schema.specs.declared.command.Source.{Source}
use Rattle.sqlite_schema.specs.declared.command.Command.{Command}
use Rattle.sqlite_schema.specs.declared.command.Command.TheVariants.{Delete, Insert, Select}
use Rattle.sqlite_ast.specs.declared.Rows.{Rows}
use Rattle.sqlite_ast.specs.declared.Conflict.TheVariants as conflict
use Rattle.sqlite_ast.specs.declared.Statement.TheVariants as written
use Rattle.sqlite_syntax.specs.declared.statement.Parsed.{Parsed}
use Rattle.sqlite_resolve.specs.Scope.{Name, Context, column, term_of, find as found_in, column_at}
use Rattle.sqlite_resolve.specs.Compile.{first, compiled, planned, meaning, timed, returning, shows, command}
use Rattle.sqlite_resolve.specs.Compile.{insert_or_abort, insert, new_rows, small, with_command, read, delete}
use Rattle.sqlite.specs.Listing.{understood, reads_listing}
use Rattle.sqlite.proofs.Callers.{command_of, IsPlain}
use Rattle.sqlite_sql.specs.Term.{col, reads_below, Term}
use Rattle.sqlite_schema.specs.declared.schema.Column.{Column}
use Rattle.sqlite_resolve.specs.declared.compiled.Compiled.{Compiled}
use Rattle.tables_schema.specs.Forms.{strict}
use Rattle.tables_schema.specs.Intact.{IsNamed}
use Rattle.sqlite_value.specs.declared.keys.Collation.TheVariants.{Binary}
use Rattle.sqlite_ast.specs.declared.Select as written_select
use Rattle.sqlite_ast.specs.declared.Core.{Core, out-Core}
use Rattle.sqlite_draft.specs.Join.{chain}
use Rattle.sqlite_resolve.specs.Program.{Shown, Building, query, query_to, level, with, whole, alone as alone_in}
use Rattle.sqlite_resolve.specs.Program.{single, viewing, sources, program}
use Rattle.sqlite_ast.specs.declared.Sort.{Sort, out-Sort}
use Rattle.sqlite_ast.specs.declared.Select.{out-Select}
use Rattle.sqlite_resolve.specs.Select.{named, parts, assembled, ungrouped, having, paging, outermost, inside}
use Rattle.sqlite_resolve.specs.Order.{keys, sorts, sort, key, peeled, collation_of, alias_in, is_numeral, written_on}
use Rattle.sqlite_resolve.specs.Order.{placed}
use Rattle.sqlite_value.specs.declared.keys.Collation.{Collation}
use Rattle.sqlite_resolve.specs.Lowering.{alone, fresh, max_budget, spend, begin, finish}
use Rattle.sqlite_resolve.specs.declared.scope.Bound.{Bound}
use Rattle.sqlite_resolve.specs.declared.scope.Output.{Output}
use Rattle.sqlite_resolve.specs.declared.body.Joined.{Joined}
use Rattle.sqlite_resolve.specs.Body.{body, bounds, result, matching, joins, join, inner_join, shared, within, tests}
use Rattle.sqlite_ast.specs.declared.Source.{Source as From, out-Source}
use Rattle.sqlite_value.specs.declared.keys.Key.{Key}
use Rattle.std.specs.Prelude.{suc, map, ◌++◌, nat_lt, nat_le, length, ◌-◌}
use Rattle.sqlite_schema.specs.declared.program.Table.{Table as Let}
use Rattle.sqlite_ast.specs.declared.Expr.{Expr, out-Expr}
use Rattle.sqlite_draft.specs.declared.join.Step.TheVariants.{Inner}
use Rattle.sqlite_resolve.specs.declared.state.State.{State}
use Rattle.sqlite_resolve.specs.Expr.{lower, lower_to, node, opened, passes}
use Rattle.sqlite_ast.specs.declared.Expr.TheOpen.{Expr-F}
use Rattle.sqlite_resolve.specs.declared.scope.Found.TheVariants as found_as
use Rattle.sqlite_resolve.specs.Write.{over, simple, deleted, picked}
use Rattle.sqlite_schema.specs.declared.program.Program.{Program}

-- a text is this command, and no query on sqlite_schema
abbrev pub Means : Schema → List ℕ → Compiled → Type 0
Means s text c = (understood s text ≡ Ok c) × (reads_listing s text ≡ false)

insert_planned : (s : Schema) (names : List Name) (start end tail : ℕ) (name : Name) (columns : List Name) (rows : Rows)
    (at : ℕ) (title : List ℕ) (cs : List Column) (key : List ℕ) (tree : ℕ) (source : Source)
    → IsNamed s name at (record (strict title cs key) { tree = tree })
    → new_rows s (record (strict title cs key) { tree = tree }) (small names + small []) columns rows ≡ Ok source
    → planned s (record {
      statement = written.Insert conflict.Abort name columns rows [] [];
      names = names;
      formats = [];
      start = start;
      end = end;
      tail = tail;
    }) ≡ Ok ([], (Insert at source, None))
unfolding planned meaning timed returning shows command insert_or_abort insert
insert_planned s names start end tail name columns rows at title cs key tree source found made =
    rw (found.0, found.1, made)

compiled_as : (s : Schema) (text : List ℕ) (p : Parsed) (plan : _) → first text ≡ Ok p → planned s p ≡ Ok plan
    → compiled s text ≡ Ok (with_command p plan)
unfolding compiled
compiled_as s text p plan one two = rw (one, two)

pub understood_as : (s : Schema) (text : List ℕ) (p : Parsed) (plan : _) → first text ≡ Ok p → planned s p ≡ Ok plan
    → Means s text (with_command p plan)
unfolding understood
understood_as s text p plan one two = (rw (compiled_as s text p plan one two), rw (compiled_as s text p plan one two))

pub insert_means : (text : List ℕ) {names : List Name} {start end tail : ℕ} {name : Name} {columns : List Name}
    {rows : Rows} → first text ≡ Ok
    (record {
      statement = written.Insert conflict.Abort name columns rows [] [];
      names = names;
      formats = [];
      start = start;
      end = end;
      tail = tail;
    })
    → (s : Schema) (at : ℕ) (title : List ℕ) (cs : List Column) (key : List ℕ) (tree : ℕ) (source : Source)
    → IsNamed s name at (record (strict title cs key) { tree = tree })
    → new_rows s (record (strict title cs key) { tree = tree }) (small names + small []) columns rows ≡ Ok source
    → Means s text (record {
      command = Insert at source;
      returning = None;
      names = names;
      formats = [];
      start = start;
      end = end;
      tail = tail;
    })
insert_means text one s at title cs key tree source found made =
    understood_as s text _ _ one (insert_planned s _ _ _ _ _ _ _ at title cs key tree source found made)

delete_planned : (s : Schema) (names : List Name) (start end tail : ℕ) (name : Name) (test : Option Expr) (at : ℕ)
    (title : List ℕ) (cs : List Column) (key : List ℕ) (tree : ℕ) (filter : List Term) (st : State) (q : Program)
    → IsNamed s name at (record (strict title cs key) { tree = tree })
    → tests lower (over s at title) [] test (fresh 2 max_budget) ≡ Ok (filter, record st { steps = [] })
    → program s [] (simple (Inner tree ∷ []) filter (col 1 0 ∷ [])) ≡ Ok q
    → planned s (record {
      statement = written.Delete name test [];
      names = names;
      formats = [];
      start = start;
      end = end;
      tail = tail;
    }) ≡ Ok ([], (Delete at q, None))
unfolding planned meaning timed returning shows command delete deleted picked
delete_planned s names start end tail name test at title cs key tree filter st q found tested typed =
    rw (found.0, found.1, tested, typed)

pub delete_means : (text : List ℕ) {names : List Name} {start end tail : ℕ} {name : Name} {test : Option Expr}
    → first text ≡ Ok (record {
      statement = written.Delete name test [];
      names = names;
      formats = [];
      start = start;
      end = end;
      tail = tail;
    })
    → (s : Schema) (at : ℕ) (title : List ℕ) (cs : List Column) (key : List ℕ) (tree : ℕ) (filter : List Term)
    (st : State) (q : Program)
    → IsNamed s name at (record (strict title cs key) { tree = tree })
    → tests lower (over s at title) [] test (fresh 2 max_budget) ≡ Ok (filter, record st { steps = [] })
    → program s [] (simple (Inner tree ∷ []) filter (col 1 0 ∷ [])) ≡ Ok q
    → Means s text (record {
      command = Delete at q;
      returning = None;
      names = names;
      formats = [];
      start = start;
      end = end;
      tail = tail;
    })
delete_means text one s at title cs key tree filter st q found tested typed =
    understood_as s text _ _ one (delete_planned s _ _ _ _ _ _ at title cs key tree filter st q found tested typed)

select_planned : (s : Schema) (names : List Name) (start end tail : ℕ) (sel : written_select.Select) (shown : Shown)
    (lets : List Let) (q : Program) → query s sel ≡ Ok (shown, lets) → program s lets shown.0 ≡ Ok q
    → planned s (record {
      statement = written.Select sel;
      names = names;
      formats = [];
      start = start;
      end = end;
      tail = tail;
    }) ≡ Ok ([], (Select q shown.1, None))
unfolding planned meaning timed returning command read
select_planned s names start end tail sel shown lets q got typed = rw (got, typed)

pub select_means : (text : List ℕ) {names : List Name} {start end tail : ℕ} {sel : written_select.Select}
    → first text ≡ Ok (record {
      statement = written.Select sel;
      names = names;
      formats = [];
      start = start;
      end = end;
      tail = tail;
    })
    → (s : Schema) (shown : Shown) (lets : List Let) (q : Program) → query s sel ≡ Ok (shown, lets)
    → program s lets shown.0 ≡ Ok q
    → Means s text (record {
      command = Select q shown.1;
      returning = None;
      names = names;
      formats = [];
      start = start;
      end = end;
      tail = tail;
    })
select_means text one s shown lets q got typed =
    understood_as s text _ _ one (select_planned s _ _ _ _ _ shown lets q got typed)

viewing_is : (again : Schema → written_select.Select → Building Shown) (outer schema : Schema) (core : Core)
    (order : List Sort) (page : Term × Term) (n : ℕ) (shown : Shown) (lets : List Let)
    → named schema core order page ≡ Ok shown
    → viewing again outer core order page (suc n) schema lets ≡ Ok ((shown, schema), lets)
unfolding viewing
viewing_is again outer schema core order page n shown lets is = rw is

single_is : (again : Schema → written_select.Select → Building Shown) (schema : Schema) (core : Core)
    (order : List Sort) (page : Term × Term) (shown : Shown)
    → sources again schema (out-Core core).from [] ≡ Ok (schema, []) → named schema core order page ≡ Ok shown
    → single again schema core order page [] ≡ Ok ((shown, schema), [])
unfolding single
single_is again schema core order page shown plain is =
    rw (plain, viewing_is again schema schema core order page 63 shown [] is)

level_is : (again : Schema → written_select.Select → Building Shown) (schema : Schema) (sel : written_select.Select)
    (page : Term × Term) (shown : Shown) → (out-Select sel).with ≡ [] → (out-Select sel).others ≡ []
    → paging schema sel ≡ Ok page → sources again schema (out-Core (out-Select sel).first).from [] ≡ Ok (schema, [])
    → named schema (out-Select sel).first (out-Select sel).order page ≡ Ok shown
    → level again schema sel [] ≡ Ok (shown, [])
unfolding level with whole alone_in
level_is again schema sel page shown bare one paged plain is =
    rw (bare, paged, one, single_is again schema (out-Select sel).first (out-Select sel).order page shown plain is)

query_to_is : (depth : ℕ) (schema : Schema) (sel : written_select.Select)
    → query_to (suc depth) schema sel ≡ level (query_to depth) schema sel
unfolding query_to
query_to_is depth schema sel = refl

pub query_is : (schema : Schema) (sel : written_select.Select) (page : Term × Term) (shown : Shown)
    → (out-Select sel).with ≡ [] → (out-Select sel).others ≡ []
    → paging schema sel ≡ Ok page → sources (query_to 15) schema (out-Core (out-Select sel).first).from []
    ≡ Ok (schema, []) → named schema (out-Select sel).first (out-Select sel).order page ≡ Ok shown
    → query schema sel ≡ Ok (shown, [])
unfolding query
query_is schema sel page shown bare one paged plain is =
    ap (λ (f : Building Shown). f []) (query_to_is 15 schema sel)
    ∙ level_is (query_to 15) schema sel page shown bare one paged plain is

body_is : (cx : Context) (core : Core) (tables : List Bound) (columns : List Output) (joined : Joined)
    (s0 s1 s2 s3 : State) → bounds cx.schema (out-Core core).from s0 ≡ Ok (tables, s1)
    → result lower cx (record { tables = tables; shown = [] }) core s1 ≡ Ok (columns, s2)
    → matching lower cx (record { tables = tables; shown = columns }) core s2 ≡ Ok (joined, s3)
    → body lower cx core s0 ≡ Ok (
      record {
        level = record { tables = tables; shown = columns };
        steps = joined.steps;
        filter = joined.filter;
      },
      s3,
    )
unfolding body
body_is cx core tables columns joined s0 s1 s2 s3 one two three = rw (one, two, three)

-- a SELECT with no group and no HAVING
pub named_is : (schema : Schema) (core : Core) (by : List Sort) (page : Term × Term) (tables : List Bound)
    (columns : List Output) (joined : Joined) (order : List (Term × Key)) (s1 s2 s3 s4 : State)
    → (out-Core core).group ≡ [] → (out-Core core).having ≡ None → (out-Core core).distinct ≡ false
    → bounds schema (out-Core core).from (fresh 1 max_budget) ≡ Ok (tables, s1)
    → result lower (outermost schema) (record { tables = tables; shown = [] }) core s1 ≡ Ok (columns, s2)
    → matching lower (outermost schema) (record { tables = tables; shown = columns }) core s2
    ≡ Ok (joined, record s3 { aggregates = [] })
    → sorts lower (inside schema (record { tables = tables; shown = columns }) false) columns by
    (record s3 { aggregates = [] }) ≡ Ok (order, record s4 { steps = [] })
    → named schema core by page ≡ Ok (
      record {
        from = chain (joined.steps ++ []);
        filter = joined.filter;
        group = None;
        project = map (λ o. o.term) columns;
        distinct = false;
        collations = [];
        order = order;
        limit = page.0;
        offset = page.1;
      },
      map (λ o. o.name) columns,
      map (λ o. o.carried.collation) columns,
    )
unfolding named parts assembled ungrouped keys having tests
named_is schema core by page tables columns joined order s1 s2 s3 s4 no_keys every plain one two three four =
    rw (
      body_is (outermost schema) core tables columns joined (fresh 1 max_budget) s1 s2 (record s3 { aggregates = [] })
          one two three,
      no_keys,
      every,
      four,
      plain,
    )

pub scan_means : (text : List ℕ) {names : List Name} {start end tail : ℕ} {sel : written_select.Select}
    → first text ≡ Ok (record {
      statement = written.Select sel;
      names = names;
      formats = [];
      start = start;
      end = end;
      tail = tail;
    })
    → (s : Schema) (tables : List Bound) (columns : List Output) (joined : Joined) (order : List (Term × Key))
    (page : Term × Term) (s1 s2 s3 s4 : State) (q : Program)
    → (out-Select sel).with ≡ [] → (out-Select sel).others ≡ [] → paging s sel ≡ Ok page
    → sources (query_to 15) s (out-Core (out-Select sel).first).from [] ≡ Ok (s, [])
    → (out-Core (out-Select sel).first).group ≡ [] → (out-Core (out-Select sel).first).having ≡ None
    → (out-Core (out-Select sel).first).distinct ≡ false
    → bounds s (out-Core (out-Select sel).first).from (fresh 1 max_budget) ≡ Ok (tables, s1)
    → result lower (outermost s) (record { tables = tables; shown = [] }) (out-Select sel).first s1 ≡ Ok (columns, s2)
    → matching lower (outermost s) (record { tables = tables; shown = columns }) (out-Select sel).first s2
    ≡ Ok (joined, record s3 { aggregates = [] })
    → sorts lower (inside s (record { tables = tables; shown = columns }) false) columns (out-Select sel).order
    (record s3 { aggregates = [] }) ≡ Ok (order, record s4 { steps = [] })
    → program s [] (record {
      from = chain (joined.steps ++ []);
      filter = joined.filter;
      group = None;
      project = map (λ o. o.term) columns;
      distinct = false;
      collations = [];
      order = order;
      limit = page.0;
      offset = page.1;
    }) ≡ Ok q
    → Means s text (record {
      command = Select q (map (λ o. o.name) columns);
      returning = None;
      names = names;
      formats = [];
      start = start;
      end = end;
      tail = tail;
    })
scan_means text {sel = sel} one s tables columns joined order page s1 s2 s3 s4 q bare only paged plain no_keys every
    all_rows a b c d typed =
    select_means text one s _ [] q
    (query_is s sel page _ bare only paged plain
    (named_is s (out-Select sel).first (out-Select sel).order page tables columns joined order s1 s2 s3 s4 no_keys
    every all_rows a b c d)) typed

-- FROM names one table
pub matching_is : (cx : Context) (name : Name) (at slot : ℕ) (shown : List Output) (core : Core) (source : From)
    (table : Table) (filter : List Term) (s0 s1 : State) → (out-Core core).from ≡ source ∷ []
    → (out-Source source).is_left ≡ false → (out-Source source).on ≡ None → (out-Source source).using ≡ []
    → slice_get cx.schema.tables at ≡ Some table
    → tests lower (within cx (record {
      tables = record { name = name; table = at; slot = slot; shared = [] } ∷ [];
      shown = shown;
    }) false) [] (out-Core core).filter s0 ≡ Ok (filter, s1)
    → matching lower cx (record {
      tables = record { name = name; table = at; slot = slot; shared = [] } ∷ [];
      shown = shown;
    }) core s0 ≡ Ok (record { steps = Inner table.tree ∷ []; filter = filter }, s1)
unfolding matching joins join inner_join shared tests
matching_is cx name at slot shown core source table filter s0 s1 from not_left on using present tested =
    rw (from, on, using, present, not_left, tested)

-- a column that is no alias
pub sort_is : (cx : Context) (shown : List Output) (done : List (Term × Key)) (s : Sort) (t : Term) (s0 s1 : State)
    (c : Collation) → alias_in shown (peeled (out-Sort s).key) ≡ None → is_numeral (peeled (out-Sort s).key) ≡ false
    → written_on (out-Sort s).key ≡ None → (out-Sort s).nulls_first ≡ None → reads_below 1 t ≡ false
    → lower cx (peeled (out-Sort s).key) s0 ≡ Ok (t, s1) → alone s1.last ≡ c
    → sort lower cx shown done s s0
    ≡ Ok (done ++ (t, record { collation = c; descending = (out-Sort s).descending }) ∷ [], s1)
unfolding sort key collation_of placed
sort_is cx shown done s t s0 s1 c bare numeral unwritten nulls high lowered how =
    rw (bare, lowered, numeral, high, unwritten, how, nulls)

abbrev pub IsBare : List Output → Sort → Type 0
IsBare shown s =
    (alias_in shown (peeled (out-Sort s).key) ≡ None) × (is_numeral (peeled (out-Sort s).key) ≡ false)
    × (written_on (out-Sort s).key ≡ None) × ((out-Sort s).nulls_first ≡ None)

abbrev pub plain_state : ℕ → Option Collation → State
plain_state budget last =
    record {
      next = 2;
      steps = [];
      aggregates = [];
      budget = budget;
      written = None;
      last = record { collation = last; is_written = false };
    }

abbrev pub shown_column : Name → ℕ → Output
shown_column name at =
    record {
      name = name;
      is_alias = false;
      is_column = true;
      term = col 1 at;
      carried = record { collation = Some Binary; is_written = false };
    }

pub lower_to_column : (n : ℕ) (cx : Context) (e : Expr) (name : Name) (at place : ℕ) (t : Term)
    (c last : Option Collation) (budget : ℕ) → out-Expr e ≡ Expr-F.Column None name
    → found_in cx None name ≡ Ok (found_as.Column 1 at place)
    → column_at cx.schema 1 at place ≡ Ok (t, record { collation = c; is_written = false })
    → nat_lt 1 budget ≡ true → lower_to (suc n) cx e (plain_state budget last) ≡ Ok (t, plain_state (budget - 1) c)
unfolding lower_to node opened column term_of spend begin finish passes
lower_to_column n cx e name at place t c last budget is known reads enough = rw (enough, is, known, reads)

pub lower_column : (cx : Context) (e : Expr) (name : Name) (at place : ℕ) (t : Term) (c last : Option Collation)
    (budget : ℕ) → out-Expr e ≡ Expr-F.Column None name → found_in cx None name ≡ Ok (found_as.Column 1 at place)
    → column_at cx.schema 1 at place ≡ Ok (t, record { collation = c; is_written = false })
    → nat_lt 1 budget ≡ true → lower cx e (plain_state budget last) ≡ Ok (t, plain_state (budget - 1) c)
lower_column = lower_to_column 699

-- in this schema the text is this command, alone in its text, with N parameters
abbrev pub IsMeant : Schema → List ℕ → ℕ → Command → Type 0
IsMeant s text count command =
    (c : Compiled) × Means s text c × (c.command ≡ command) × (c.returning ≡ None) × (c.formats ≡ [])
    × (nat_le (length text) c.tail ≡ true) × (length c.names ≡ count)

-- what a caller's proof takes
pub means_command : (s : Schema) (text : List ℕ) {count : ℕ} (command : Command) → IsMeant s text count command
    → (command_of (understood s text) ≡ command) × IsPlain (understood s text) × (reads_listing s text ≡ false)
means_command s text command m = (ap command_of m.1.0 ∙ m.2, subst IsPlain (sym m.1.0) (m.3, m.4), m.1.1)
