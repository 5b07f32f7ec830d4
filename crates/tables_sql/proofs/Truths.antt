-- SQL's tests of equal values, and truths of two.
use Rattle.std.proofs.Common.{◌≡◌, List, ℕ, ℤ, Bool, true, false, not, ◌&&◌, ◌||◌, cond, Some, refl, ap, ◌∙◌}
use Rattle.std.specs.Ordering.{is_eq, eq_by_cmp, int_cmp}
use Rattle.sqlite_value.specs.declared.value.Value.{Value}
use Rattle.sqlite_value.specs.declared.value.Value.TheVariants.{Null, Int, Text}
use Rattle.sqlite_value.specs.declared.keys.Collation.TheVariants.{Binary}
use Rattle.sqlite_value.proofs.OrderLemmas.{value_cmp-Text, value_cmp-Int}
use Rattle.sqlite_value.specs.Order.{bytes}
use Rattle.sqlite_sql.specs.Ops.{unary, binary, is_true, from_truth}
use Rattle.sqlite_sql.specs.declared.ops.BinaryOp.TheVariants.{Compare}
use Rattle.sqlite_sql.specs.declared.ops.CompareOp.TheVariants.{Eq}
use Rattle.sqlite_schema.specs.declared.schema.Kind.TheVariants.{Integer}
use Rattle.sqlite_rules.specs.Cast.{cast}
use Rattle.sqlite_rules.specs.Edit.{id_in}
use Rattle.sqlite_trees.specs.View.{is_int}
use Rattle.tables_sql.specs.Contents.{is_text, texts_cmp}

either : (b : Bool) (x : Value) → cond b x x ≡ x
either true x = refl
either false x = refl

-- NULL and an integer are kept as they are
pub cast_null : cast Integer Null ≡ Null
unfolding unary
cast_null = either _ Null

pub cast_int : (n : ℤ) → cast Integer (Int n) ≡ Int n
unfolding unary
cast_int n = either _ (Int n)

pub reported : (b : Bool) → is_true (from_truth (Some b)) ≡ b
reported true = refl
reported false = refl

-- a text against a text
pub text_test : (v : Value) (t : List ℕ) → is_text v ≡ true
    → is_true (binary (Compare Eq Binary) v (Text t)) ≡ eq_by_cmp texts_cmp (bytes v) t
unfolding binary
text_test (Text s) t h = reported _ ∙ ap is_eq (value_cmp-Text s t)
text_test v t h = absurd (let e = h in cc)

-- an integer against an integer
pub int_test : (v : Value) (n : ℤ) → is_int v ≡ true
    → is_true (binary (Compare Eq Binary) v (Int n)) ≡ eq_by_cmp int_cmp (id_in v) n
unfolding binary
int_test (Int m) n h = reported _ ∙ ap is_eq (value_cmp-Int m n)
int_test v n h = absurd (let e = h in cc)

pub and_so : (a b : Bool) → (a && b) ≡ true → (a ≡ true) × (b ≡ true)
and_so true b h = (refl, h)
and_so false b h = cc

pub and_one : (a : Bool) → (a && true) ≡ a
and_one true = refl
and_one false = refl

-- a row that is not taken
pub free_of : (b c : Bool) → (not b && c) ≡ true → b ≡ false
free_of true c h = cc
free_of false c h = refl

pub not_so : (b : Bool) → not b ≡ true → b ≡ false
not_so true h = cc
not_so false h = refl

-- two tests, and three, of a list
pub both_tests : (a b x y : Bool) → a ≡ x → b ≡ y → (a && (b && true)) ≡ (x && y)
both_tests a b x y e f = rw (e, f) (ap (λ z. x && z) (and_one y))

pub all_tests : (a b c x y z : Bool) → a ≡ x → b ≡ y → c ≡ z → (a && (b && (c && true))) ≡ (x && (y && z))
all_tests a b c x y z e f g = rw (e, f, g) (ap (λ w. x && (y && w)) (and_one z))

-- neither of two
pub neither : (a b : Bool) → (a || b) ≡ false → (a ≡ false) × (b ≡ false)
neither true b h = cc
neither false b h = (refl, h)
