-- The objects of a range of paths: what the text of their query means, in any schema that has their table.
use Rattle.std.proofs.Common.{◌≡◌, ℕ, suc, ◌-◌, List, [], ◌∷◌, codes, Some, None, Option, Ok, true, false, ap, refl}
use Rattle.std.proofs.Common.{slice_get, ◌∙◌}
use Rattle.std.specs.Prelude.{nat_lt, unwrap_or}
use Rattle.std.specs.Ordering.{is_ge, is_le}
use Rattle.sqlite_value.specs.declared.value.Value.{Value}
use Rattle.sqlite_value.specs.declared.value.Value.TheVariants.{Text}
use Rattle.sqlite_value.specs.declared.keys.Collation.{Collation}
use Rattle.sqlite_value.specs.declared.keys.Collation.TheVariants.{Binary}
use Rattle.sqlite_value.specs.Order.{column, bytes}
use Rattle.sqlite_value.proofs.OrderLemmas.{value_cmp-Text}
use Rattle.sqlite_ast.specs.declared.Binary.TheVariants as binary
use Rattle.sqlite_ast.specs.declared.Expr.{Expr, out-Expr}
use Rattle.sqlite_ast.specs.declared.Expr.TheOpen.{Expr-F}
use Rattle.sqlite_ast.specs.declared.Expr.TheVariants as expr
use Rattle.sqlite_ast.specs.declared.Core.{roll-Core}
use Rattle.sqlite_ast.specs.declared.Origin.TheVariants as origin
use Rattle.sqlite_ast.specs.declared.Select.{Select as Written, roll-Select}
use Rattle.sqlite_ast.specs.declared.Shown.{Shown}
use Rattle.sqlite_ast.specs.declared.Shown.TheVariants.{One}
use Rattle.sqlite_ast.specs.declared.Sort.{roll-Sort}
use Rattle.sqlite_ast.specs.declared.Source.{Source, roll-Source}
use Rattle.sqlite_schema.specs.declared.command.Command.TheVariants.{Select}
use Rattle.sqlite_schema.specs.declared.schema.Schema.{Schema}
use Rattle.sqlite_sql.specs.Ops.{binary as by_value, is_true}
use Rattle.sqlite_sql.specs.Term.{Term, col, op2}
use Rattle.sqlite_sql.specs.declared.ops.BinaryOp.TheVariants as by
use Rattle.sqlite_sql.specs.declared.ops.CompareOp.{CompareOp}
use Rattle.sqlite_sql.specs.declared.ops.CompareOp.TheVariants as compare
use Rattle.sqlite_resolve.specs.Body.{tests}
use Rattle.sqlite_resolve.specs.Compare.{affinity_of, compared, converted, is_parameter, may_be_text, of_column}
use Rattle.sqlite_resolve.specs.Compare.{spelled}
use Rattle.sqlite_resolve.specs.Expr.{both, combine, lower, lower_to, node, opened, operation, passes, tests_alias}
use Rattle.sqlite_resolve.specs.Expr.{tests_truth, wanted_truth}
use Rattle.sqlite_resolve.specs.Lowering.{begin, chosen, either, finish, first_found, spend}
use Rattle.sqlite_resolve.specs.Scope.{Context, Name}
use Rattle.sqlite_resolve.specs.declared.scope.Output.{Output}
use Rattle.sqlite_tied.specs.Compute.{everything}
use Rattle.tables_schema.specs.Forms.{object}
use Rattle.tables_sql.specs.Contents.{is_text, texts_cmp}
use Rattle.tables_sql.specs.Queries.{IsSelect}
use Rattle.tables_sql.proofs.Description.{Selection}
use Rattle.tables_sql.proofs.Means.{lower_to_column, plain_state}
use Rattle.tables_rows.proofs.ObjectLemmas.{table, reading, places, places_are}
use Rattle.tables_sql.proofs.Ordered.{Place, column as column_is, context, found, names_on, outputs_of, query_on}
use Rattle.tables_sql.proofs.Ordered.{selects, whole}
use Rattle.tables_sql.proofs.Statements.{Compiles}
use Rattle.tables_sql.proofs.Truths.{both_tests, reported}
use Rattle.tables_sql.proofs.Typed.{base_is}
use Rattle.tables_rows.specs.Ranges.{is_between}

-- ---- as it is written

abbrev pub text : List ℕ
text = codes "SELECT base, nar, hash, deriver, ca FROM object WHERE base >= ?1 AND base <= ?2 ORDER BY base"

abbrev base : Name
base = codes "base"

abbrev shown_as : Place → Shown
shown_as c = One (expr.Column None c.0) None c.0

abbrev source : Source
source =
    roll-Source (record {
      is_left = false;
      origin = origin.Table (codes "object");
      alias = None;
      on = None;
      using = [];
    })

abbrev at_least : Expr
at_least = expr.Binary binary.Ge (expr.Column None base) (expr.Parameter 1)

abbrev at_most : Expr
at_most = expr.Binary binary.Le (expr.Column None base) (expr.Parameter 2)

abbrev condition : Expr
condition = expr.Binary binary.And at_least at_most

abbrev select : Written
select = roll-Select (record {
  with = [];
  first = roll-Core (record {
    distinct = false;
    shown =
        shown_as (codes "base", 0) ∷ shown_as (codes "nar", 1) ∷ shown_as (codes "hash", 2)
        ∷ shown_as (codes "deriver", 3) ∷ shown_as (codes "ca", 4) ∷ [];
    from = source ∷ [];
    filter = Some condition;
    group = [];
    having = None;
  });
  others = [];
  order = roll-Sort (record { key = expr.Column None base; descending = false; nulls_first = None }) ∷ [];
  limit = None;
  offset = None;
})

pub reads : IsSelect text
unfolding everything
reads = (_, _, _, _, select, refl)

-- ---- what the condition stands for

parameter_is : (n : ℕ) (cx : Context) (e : Expr) (j : ℕ) (last : Option Collation) (budget : ℕ)
    → out-Expr e ≡ Expr-F.Parameter j → nat_lt 1 budget ≡ true
    → lower_to (suc n) cx e (plain_state budget last) ≡ Ok (col 0 (j - 1), plain_state (budget - 1) None)
unfolding lower_to node opened spend begin finish passes
parameter_is n cx e j last budget is enough = rw (enough, is)

at_least_is : (n : ℕ) (cx : Context) (e a b : Expr) (x y t : Term) (c d last : Option Collation) (budget k m : ℕ)
    → out-Expr e ≡ Expr-F.Binary binary.Ge a b → nat_lt 1 budget ≡ true
    → lower_to n cx a (plain_state (budget - 1) None) ≡ Ok (x, plain_state k c)
    → lower_to n cx b (plain_state k c) ≡ Ok (y, plain_state m d)
    → compared cx (by.Compare compare.Ge (unwrap_or (either c d) Binary)) x y ≡ t
    → lower_to (suc n) cx e (plain_state budget last) ≡ Ok (t, plain_state m None)
unfolding lower_to node opened operation both combine wanted_truth tests_truth tests_alias chosen first_found spend
    begin finish passes
at_least_is n cx e a b x y t c d last budget k m is enough one two three = rw (enough, is, one, two, three)

at_most_is : (n : ℕ) (cx : Context) (e a b : Expr) (x y t : Term) (c d last : Option Collation) (budget k m : ℕ)
    → out-Expr e ≡ Expr-F.Binary binary.Le a b → nat_lt 1 budget ≡ true
    → lower_to n cx a (plain_state (budget - 1) None) ≡ Ok (x, plain_state k c)
    → lower_to n cx b (plain_state k c) ≡ Ok (y, plain_state m d)
    → compared cx (by.Compare compare.Le (unwrap_or (either c d) Binary)) x y ≡ t
    → lower_to (suc n) cx e (plain_state budget last) ≡ Ok (t, plain_state m None)
unfolding lower_to node opened operation both combine wanted_truth tests_truth tests_alias chosen first_found spend
    begin finish passes
at_most_is n cx e a b x y t c d last budget k m is enough one two three = rw (enough, is, one, two, three)

and_is : (n : ℕ) (cx : Context) (e a b : Expr) (x y : Term) (c d last : Option Collation) (budget k m : ℕ)
    → out-Expr e ≡ Expr-F.Binary binary.And a b → nat_lt 1 budget ≡ true
    → lower_to n cx a (plain_state (budget - 1) None) ≡ Ok (x, plain_state k c)
    → lower_to n cx b (plain_state k c) ≡ Ok (y, plain_state m d)
    → lower_to (suc n) cx e (plain_state budget last) ≡ Ok (op2 by.And x y, plain_state m None)
unfolding lower_to node opened operation both combine wanted_truth tests_truth tests_alias chosen first_found spend
    begin finish passes
and_is n cx e a b x y c d last budget k m is enough one two = rw (enough, is, one, two)

-- the column of bases is compared with a parameter
abbrev by_base : CompareOp → ℕ → Term
by_base op j = op2 (by.Compare op Binary) (col 1 1) (col 0 j)

abbrev pub filter : List Term
filter = by_base compare.Ge 0 ∷ by_base compare.Le 1 ∷ []

abbrev base_place : Place
base_place = (base, 0)

module _ (s : Schema) (at tree : ℕ) (present : slice_get s.tables at ≡ Some (record object { tree = tree }))
    (results : List Output) where
  abbrev cx : Context
  cx = context object.name object.columns object.primary s at results false

  -- as it is, since its table is STRICT
  first_so : (op : CompareOp) → compared cx (by.Compare op Binary) (col 1 1) (col 0 0) ≡ by_base op 0
  unfolding compared affinity_of of_column converted spelled may_be_text is_parameter
  first_so op = rw present

  second_so : (op : CompareOp) → compared cx (by.Compare op Binary) (col 1 1) (col 0 1) ≡ by_base op 1
  unfolding compared affinity_of of_column converted spelled may_be_text is_parameter
  second_so op = rw present

  base_so : (n : ℕ) (last : Option Collation) (budget : ℕ) → nat_lt 1 budget ≡ true
      → lower_to (suc n) cx (expr.Column None base) (plain_state budget last)
      ≡ Ok (col 1 1, plain_state (budget - 1) (Some Binary))
  unfolding everything
  base_so n last budget enough =
      lower_to_column n cx (expr.Column None base) base at 0 (col 1 1) (Some Binary) last budget refl
      (found object.name object.columns object.primary s at tree present results false base_place places_are.0)
      (column_is object.name object.columns object.primary s at tree present base_place places_are.0) enough

  at_least_so : lower_to 699 cx at_least (plain_state 99994 None) ≡ Ok (by_base compare.Ge 0, plain_state 99991 None)
  unfolding everything
  at_least_so =
      at_least_is 698 cx at_least (expr.Column None base) (expr.Parameter 1) (col 1 1) (col 0 0) (by_base compare.Ge 0)
      (Some Binary) None None 99994 99992 99991 refl refl (base_so 697 None 99993 refl)
      (parameter_is 697 cx (expr.Parameter 1) 1 (Some Binary) 99992 refl refl) (first_so compare.Ge)

  at_most_so : lower_to 699 cx at_most (plain_state 99991 None) ≡ Ok (by_base compare.Le 1, plain_state 99988 None)
  unfolding everything
  at_most_so =
      at_most_is 698 cx at_most (expr.Column None base) (expr.Parameter 2) (col 1 1) (col 0 1) (by_base compare.Le 1)
      (Some Binary) None None 99991 99989 99988 refl refl (base_so 697 None 99990 refl)
      (parameter_is 697 cx (expr.Parameter 2) 2 (Some Binary) 99989 refl refl) (second_so compare.Le)

  condition_so : lower cx condition (plain_state 99995 (Some Binary))
      ≡ Ok (op2 by.And (by_base compare.Ge 0) (by_base compare.Le 1), plain_state 99988 None)
  unfolding everything
  condition_so =
      and_is 699 cx condition at_least at_most (by_base compare.Ge 0) (by_base compare.Le 1) None None (Some Binary)
      99995 99991 99988 refl refl at_least_so at_most_so

  -- so it is these two tests
  pub tested : tests lower cx [] (Some condition) (plain_state 99995 (Some Binary))
      ≡ Ok (filter, plain_state 99988 None)
  unfolding tests
  tested = rw condition_so

-- ---- what its tests say of a row

at_least_test : (v : Value) (t : List ℕ) → is_text v ≡ true
    → is_true (by_value (by.Compare compare.Ge Binary) v (Text t)) ≡ is_ge (texts_cmp (bytes v) t)
unfolding by_value
at_least_test (Text x) t h = reported _ ∙ ap is_ge (value_cmp-Text x t)
at_least_test v t h = absurd (let e = h in cc)

at_most_test : (v : Value) (t : List ℕ) → is_text v ≡ true
    → is_true (by_value (by.Compare compare.Le Binary) v (Text t)) ≡ is_le (texts_cmp (bytes v) t)
unfolding by_value
at_most_test (Text x) t h = reported _ ∙ ap is_le (value_cmp-Text x t)
at_most_test v t h = absurd (let e = h in cc)

-- ---- what it asks

compiles : Compiles table.name table.columns table.key text 2
    (λ at tree. Select (whole (query_on places 1 filter) tree) (names_on places))
unfolding everything reads
compiles =
    selects object.name object.columns object.primary text places 1 places_are reads {source = source}
    (refl, refl, refl, refl, refl, refl, refl, refl, refl, refl, refl, refl, refl, λ s. refl)
    ((_, _, refl, refl), ((_, _, refl, refl), ((_, _, refl, refl), ((_, _, refl, refl), ((_, _, refl, refl), tt)))))
    (((refl, refl, refl, refl), refl, refl), tt)
    filter None 99988 (refl, (refl, (refl, (refl, (refl, tt))))) (refl, tt)
    (λ s at tree known. tested s at tree known.named.1 (outputs_of places))
    (λ s at tree known. rw (known.low, known.by_tree))
    refl refl

pub between : (first last : List ℕ) → Selection table reading text (Text first ∷ Text last ∷ []) (is_between first last)
unfolding everything
between first last = record {
  filter = filter;
  is = compiles;
  said =
      λ r kind. both_tests _ _ _ _ (at_least_test (column r 1) first (base_is r kind))
      (at_most_test (column r 1) last (base_is r kind));
  reads = reads;
  accepts = λ s at tree known. rw (known.low, known.by_tree) refl;
}
