-- What a condition means that says that the first columns of a table equal the parameters.
use Rattle.std.proofs.Common.{Bool, List, None, Ok, Option, Some, [], add-one, arith, false, length, refl, slice_get}
use Rattle.std.proofs.Common.{subst, suc, take, true, ℕ, ◌&&◌, ◌+◌, ◌∙◌, ◌∷◌, ◌≡◌}
use Rattle.std.proofs.lemmas.Bool.{ltb-true}
use Rattle.std.specs.List.{AllByRecursion, list_all}
use Rattle.std.specs.Prelude.{if◌then◌else◌, nat_lt, unwrap_or, ◌-◌, ◌==◌}
use Rattle.sqlite_value.specs.declared.keys.Collation.TheVariants.{Binary}
use Rattle.sqlite_value.specs.declared.keys.Collation.{Collation}
use Rattle.sqlite_ast.specs.declared.Binary.TheVariants as binary
use Rattle.sqlite_ast.specs.declared.Expr.TheOpen.{Expr-F}
use Rattle.sqlite_ast.specs.declared.Expr.TheVariants as expr
use Rattle.sqlite_ast.specs.declared.Expr.{Expr, out-Expr}
use Rattle.sqlite_schema.specs.declared.schema.Column.{Column}
use Rattle.sqlite_schema.specs.declared.schema.Schema.{Schema}
use Rattle.sqlite_sql.specs.Term.{Term, col, op2}
use Rattle.sqlite_sql.specs.declared.ops.BinaryOp.TheVariants as by
use Rattle.sqlite_sql.specs.declared.ops.CompareOp.TheVariants as compare
use Rattle.sqlite_resolve.specs.Body.{tests}
use Rattle.sqlite_resolve.specs.Compare.{affinity_of, compared, converted, is_parameter, may_be_text, of_column}
use Rattle.sqlite_resolve.specs.Compare.{of_declared, spelled}
use Rattle.sqlite_resolve.specs.Expr.{both, combine, lower, lower_to, node, opened, operation, passes, tests_alias}
use Rattle.sqlite_resolve.specs.Expr.{tests_truth, wanted_truth}
use Rattle.sqlite_resolve.specs.Lowering.{begin, chosen, either, finish, first_found, spend}
use Rattle.sqlite_resolve.specs.Scope.{Context, Name}
use Rattle.sqlite_resolve.specs.Terms.{conjuncts}
use Rattle.sqlite_resolve.specs.declared.compare.Affinity.TheVariants as affinity
use Rattle.sqlite_resolve.specs.declared.compare.Affinity.{Affinity}
use Rattle.sqlite_resolve.specs.declared.scope.Output.{Output}
use Rattle.sqlite_trees.proofs.ListLemmas.{all-slice_get}
use Rattle.sqlite_tied.specs.Compute.{everything}
use Rattle.tables_schema.specs.Forms.{strict}
use Rattle.tables_sql.proofs.Means.{lower_to_column, plain_state}
use Rattle.tables_sql.proofs.Truths.{and_so}
use Rattle.tables_sql.proofs.Ordered.{IsColumn, Place, column, context, found, prefixes}

-- ---- what an expression stands for

parameter_is : (n : ℕ) (cx : Context) (e : Expr) (j : ℕ) (last : Option Collation) (budget : ℕ)
    → out-Expr e ≡ Expr-F.Parameter j → nat_lt 1 budget ≡ true
    → lower_to (suc n) cx e (plain_state budget last) ≡ Ok (col 0 (j - 1), plain_state (budget - 1) None)
unfolding lower_to node opened spend begin finish passes
parameter_is n cx e j last budget is enough = rw (enough, is)

equal_is : (n : ℕ) (cx : Context) (e a b : Expr) (x y t : Term) (c d last : Option Collation) (budget k m : ℕ)
    → out-Expr e ≡ Expr-F.Binary binary.Eq a b → nat_lt 1 budget ≡ true
    → lower_to n cx a (plain_state (budget - 1) None) ≡ Ok (x, plain_state k c)
    → lower_to n cx b (plain_state k c) ≡ Ok (y, plain_state m d)
    → compared cx (by.Compare compare.Eq (unwrap_or (either c d) Binary)) x y ≡ t
    → lower_to (suc n) cx e (plain_state budget last) ≡ Ok (t, plain_state m None)
unfolding lower_to node opened operation both combine wanted_truth tests_truth tests_alias chosen first_found spend
    begin finish passes
equal_is n cx e a b x y t c d last budget k m is enough one two three = rw (enough, is, one, two, three)

and_is : (n : ℕ) (cx : Context) (e a b : Expr) (x y : Term) (c d last : Option Collation) (budget k m : ℕ)
    → out-Expr e ≡ Expr-F.Binary binary.And a b → nat_lt 1 budget ≡ true
    → lower_to n cx a (plain_state (budget - 1) None) ≡ Ok (x, plain_state k c)
    → lower_to n cx b (plain_state k c) ≡ Ok (y, plain_state m d)
    → lower_to (suc n) cx e (plain_state budget last) ≡ Ok (op2 by.And x y, plain_state m None)
unfolding lower_to node opened operation both combine wanted_truth tests_truth tests_alias chosen first_found spend
    begin finish passes
and_is n cx e a b x y c d last budget k m is enough one two = rw (enough, is, one, two)

abbrev pub equals : Term → Term → Term
equals = op2 (by.Compare compare.Eq Binary)

-- ---- that columns equal parameters

-- a column equals a parameter, which is counted from 1
abbrev pub compares : Place → ℕ → Expr
compares c j = expr.Binary binary.Eq (expr.Column None c.0) (expr.Parameter j)

-- so each of these columns does, the last of which is first here
abbrev compares_all : Place → List Place → Expr
compares_all c [] = compares c 1
compares_all c (d ∷ ds) = expr.Binary binary.And (compares_all d ds) (compares c (length (d ∷ ds) + 1))

abbrev pub condition : List Place → Option Expr
condition [] = None
condition (c ∷ cs) = Some (compares_all c cs)

-- a list from its end, before another
abbrev turned : List Place → List Place → List Place
turned [] done = done
turned (c ∷ cs) done = turned cs (c ∷ done)

-- the first of them, the last of which is first here
abbrev pub first_of_them : List Place → ℕ → List Place
first_of_them cs m = turned (take m cs) []

turned_all : (P : Place → Type 0) (cs done : List Place) → AllByRecursion P cs → AllByRecursion P done
    → AllByRecursion P (turned cs done)
turned_all P [] done h k = k
turned_all P (c ∷ cs) done h k = turned_all P cs (c ∷ done) h.1 (h.0, k)

pub first_all : (P : Place → Type 0) (cs : List Place) (m : ℕ) → AllByRecursion P cs
    → AllByRecursion P (first_of_them cs m)
first_all P cs m h = turned_all P (take m cs) [] (prefixes P m cs h) tt

-- the terms of such a comparison, and of all of them
abbrev test_of : Place → ℕ → Term
test_of c j = equals (col 1 (c.1 + 1)) (col 0 (j - 1))

abbrev whole_test : Place → List Place → Term
whole_test c [] = test_of c 1
whole_test c (d ∷ ds) = op2 by.And (whole_test d ds) (test_of c (length (d ∷ ds) + 1))

abbrev pub filter_by : List Place → List Term
filter_by [] = []
filter_by (c ∷ cs) = conjuncts (whole_test c cs)

-- what is left of a budget, and whether it suffices
abbrev left_after : List Place → ℕ → ℕ
left_after [] budget = budget - 1 - 1 - 1
left_after (d ∷ ds) budget = left_after ds (budget - 1) - 1 - 1 - 1

abbrev suffices_once : ℕ → Bool
suffices_once budget = nat_lt 1 budget && (nat_lt 1 (budget - 1) && nat_lt 1 (budget - 1 - 1))

abbrev suffices : List Place → ℕ → Bool
suffices [] budget = suffices_once budget
suffices (d ∷ ds) budget = nat_lt 1 budget && (suffices ds (budget - 1) && suffices_once (left_after ds (budget - 1)))

abbrev pub left_by : List Place → ℕ → ℕ
left_by [] budget = budget
left_by (c ∷ cs) budget = left_after cs budget

abbrev pub last_by : List Place → Option Collation → Option Collation
last_by [] last = last
last_by (c ∷ cs) last = None

abbrev pub suffices_for : List Place → ℕ → Bool
suffices_for [] budget = true
suffices_for (c ∷ cs) budget = suffices cs budget && nat_lt (length cs) 698

-- N levels deeper
abbrev deeper : List Place → ℕ → ℕ
deeper [] n = n
deeper (d ∷ ds) n = suc (deeper ds n)

deeper_is : (ds : List Place) (n : ℕ) → deeper ds n ≡ length ds + n
deeper_is [] n = omega arith
deeper_is (d ∷ ds) n = let e = deeper_is ds n in omega (arith, e)

-- a column is compared with a parameter as it is, as each of a STRICT table is
abbrev is_firm : Affinity → Bool
is_firm affinity.Loose = false
is_firm _ = true

abbrev pub are_firm : List Column → Bool
are_firm = list_all (λ k. is_firm (of_declared k))

converted_so : (x : Affinity) → is_firm x ≡ true → (at j : ℕ)
    → op2 (by.Compare compare.Eq Binary) (converted x affinity.None (col 1 at)) (converted affinity.None x (col 0 j))
    ≡ equals (col 1 at) (col 0 j)
unfolding converted spelled may_be_text is_parameter
converted_so affinity.Numeric h at j = refl
converted_so affinity.Loose h at j = cc
converted_so affinity.Text h at j = refl
converted_so affinity.Blob h at j = refl
converted_so affinity.None h at j = refl

firm_at : (ks : List Column) (at : ℕ) (k : Column) → are_firm ks ≡ true → slice_get ks at ≡ Some k
    → is_firm (of_declared k) ≡ true
firm_at ks at k h present = all-slice_get (λ k. is_firm (of_declared k) ≡ true) ks at k present (each ks h)
  where
    each : (ks : List Column) → are_firm ks ≡ true → AllByRecursion (λ k. is_firm (of_declared k) ≡ true) ks
    each [] h = tt
    each (k ∷ ks) h = let b = and_so _ _ h in (b.0, each ks b.1)

module _ (name : Name) (columns : List Column) (key : List ℕ) (firm : are_firm columns ≡ true)
    (s : Schema) (at tree : ℕ) (present : slice_get s.tables at ≡ Some
    (record (strict name columns key) { tree = tree })) (results : List Output) where
  abbrev cx : Context
  cx = context name columns key s at results false

  affinity_is : (c : Place) (is : IsColumn name columns key c) → affinity_of cx (col 1 (c.1 + 1)) ≡ of_declared is.1.0
  unfolding affinity_of of_column
  affinity_is c is = rw (add-one c.1, present, is.1.1)

  no_affinity : (j : ℕ) → affinity_of cx (col 0 j) ≡ affinity.None
  unfolding affinity_of of_column
  no_affinity j =
      elim (j == 0) as (λ b. (if b then affinity.None else affinity.None) ≡ affinity.None) [
        | true ↦ refl
        | false ↦ refl
      ]

  compared_so : (c : Place) → IsColumn name columns key c → (j : ℕ)
      → compared cx (by.Compare compare.Eq Binary) (col 1 (c.1 + 1)) (col 0 j) ≡ equals (col 1 (c.1 + 1)) (col 0 j)
  unfolding compared
  compared_so c is j =
      rw (affinity_is c is, no_affinity j)
      (converted_so (of_declared is.1.0) (firm_at columns c.1 is.1.0 firm is.1.1) (c.1 + 1) j)

  one_so : (n : ℕ) (c : Place) → IsColumn name columns key c → (j : ℕ) (last : Option Collation) (budget : ℕ)
      → suffices_once budget ≡ true
      → lower_to (suc (suc n)) cx (compares c j) (plain_state budget last)
      ≡ Ok (test_of c j, plain_state (budget - 1 - 1 - 1) None)
  unfolding everything
  one_so n c is j last budget enough =
      let b = and_so _ _ enough in
      let d = and_so _ _ b.1 in
      let lowered =
      lower_to_column n cx (expr.Column None c.0) c.0 at c.1 (col 1 (c.1 + 1)) (Some Binary) None (budget - 1) refl
      (found name columns key s at tree present results false c is) (column name columns key s at tree present c is)
      d.0 in
      equal_is (suc n) cx (compares c j) (expr.Column None c.0) (expr.Parameter j) (col 1 (c.1 + 1)) (col 0 (j - 1))
      (test_of c j) (Some Binary) None last budget (budget - 1 - 1) (budget - 1 - 1 - 1) refl b.0
      lowered (parameter_is n cx (expr.Parameter j) j (Some Binary) (budget - 1 - 1) refl d.1)
      (compared_so c is (j - 1))

  all_so : (n : ℕ) (c : Place) (ds : List Place) → IsColumn name columns key c
      → AllByRecursion (IsColumn name columns key) ds → (last : Option Collation) (budget : ℕ)
      → suffices ds budget ≡ true
      → lower_to (suc (suc (deeper ds n))) cx (compares_all c ds) (plain_state budget last)
      ≡ Ok (whole_test c ds, plain_state (left_after ds budget) None)
  unfolding everything
  all_so n c [] is are last budget enough = one_so n c is 1 last budget enough
  all_so n c (d ∷ ds) is are last budget enough =
      let b = and_so _ _ enough in
      let f = and_so _ _ b.1 in
      and_is (suc (suc (deeper ds n))) cx (compares_all c (d ∷ ds)) (compares_all d ds)
      (compares c (length (d ∷ ds) + 1)) (whole_test d ds) (test_of c (length (d ∷ ds) + 1)) None None last budget
      (left_after ds (budget - 1)) (left_after (d ∷ ds) budget) refl b.0
      (all_so n d ds are.0 are.1 None (budget - 1) f.0)
      (one_so (deeper ds n) c is (length (d ∷ ds) + 1) None (left_after ds (budget - 1)) f.1)

  -- in any schema that has the table, such a condition is these tests
  pub tested : (cs : List Place) → AllByRecursion (IsColumn name columns key) cs
      → (last : Option Collation) (budget : ℕ) → suffices_for cs budget ≡ true
      → tests lower cx [] (condition cs) (plain_state budget last)
      ≡ Ok (filter_by cs, plain_state (left_by cs budget) (last_by cs last))
  unfolding tests
  tested [] are last budget enough = refl
  tested (c ∷ cs) are last budget enough =
      let b = and_so (suffices cs budget) (nat_lt (length cs) 698) enough in
      let depth : deeper cs (698 - length cs) ≡ 698 =
      deeper_is cs (698 - length cs) ∙ omega (arith, ltb-true _ _ b.1) in
      let lowered : lower cx (compares_all c cs) (plain_state budget last)
      ≡ Ok (whole_test c cs, plain_state (left_after cs budget) None) =
      subst (λ n. lower_to (suc (suc n)) cx (compares_all c cs) (plain_state budget last)
      ≡ Ok (whole_test c cs, plain_state (left_after cs budget) None)) depth
      (all_so (698 - length cs) c cs are.0 are.1 last budget b.0) in
      rw lowered
