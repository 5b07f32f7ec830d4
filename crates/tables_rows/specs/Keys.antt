-- The entries of a map whose keys pass a test, and the tests of keys.
use Rattle.std.specs.Prelude.{Bool, not, ℤ}
use Rattle.std.specs.declared.cmp.Ordering.{Ordering}
use Rattle.std.specs.Ordering.{eq_by_cmp, int_cmp}
use Rattle.std.specs.FinMap as finite
use Rattle.tables_sql.specs.Contents.{Bytes, texts_cmp}

-- two texts are the same
abbrev pub same : Bytes → Bytes → Bool
same = eq_by_cmp texts_cmp

-- two numbers are the same
abbrev pub same_number : ℤ → ℤ → Bool
same_number = eq_by_cmp int_cmp

module _ {K X : Type 0} {order : K → K → Ordering} where
  -- the entries whose keys pass a test
  abbrev pub with_keys : finite.FinMap order X → (K → Bool) → finite.FinMap order X
  with_keys = finite.retain_keys

  -- the entries whose keys don't pass a test
  abbrev pub without_keys : finite.FinMap order X → (K → Bool) → finite.FinMap order X
  without_keys entries test = finite.retain_keys entries (λ k. not (test k))
