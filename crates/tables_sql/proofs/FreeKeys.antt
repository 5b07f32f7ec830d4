-- No row has a key which the map of the rows lacks.
use Rattle.std.proofs.Common.{◌≡◌, List, [], ◌∷◌, Bool, true, false, ◌&&◌, map, filter, None, sym, ap, ◌∙◌, Ordering}
use Rattle.std.specs.Cmp.{IsTotalOrder, tied_itself, Equal-is}
use Rattle.std.specs.FinMap as finite
use Rattle.std.proofs.lemmas.Bool.{and_parts}
use Rattle.sqlite_value.specs.declared.value.Value.{Value}
use Rattle.sqlite_value.specs.declared.value.Value.TheVariants.{Null, Int, Real, Text, Blob}
use Rattle.sqlite_value.specs.declared.keys.Collation.TheVariants.{Binary}
use Rattle.sqlite_value.specs.Keys.{plain}
use Rattle.sqlite_value.specs.Order.{Row, column, bytes}
use Rattle.sqlite_trees.specs.View.{is_int}
use Rattle.sqlite_schema.specs.Rules.{agree, equal}
use Rattle.sqlite_rules.specs.Lists.{Has}
use Rattle.sqlite_rules.specs.Edit.{id_in}
use Rattle.sqlite_rules.proofs.ListLemmas.{has_kept}
use Rattle.sqlite_rules.proofs.ProbeLemmas.{mapped_has}
use Rattle.tables_sql.specs.Contents.{is_text, map_of}
use Rattle.tables_sql.proofs.Orders.{texts_antisymmetric, tied_some}
use Rattle.tables_sql.proofs.Truths.{text_test, int_test}
use Rattle.tables_sql.proofs.UniqueKeys.{binary_first}

-- ---- values that are equal to SQL

-- a value is a text or a number as this one is, and then that one
abbrev pub is_like : Value → Value → Bool
is_like (Text t) v = is_text v
is_like (Int n) v = is_int v
is_like _ v = false

abbrev pub IsThat : Value → Value → Type 0
IsThat (Text t) v = bytes v ≡ t
IsThat (Int n) v = id_in v ≡ n
IsThat _ v = ⊥

same_value : (p v : Value) → is_like p v ≡ true → equal Binary v p ≡ true → IsThat p v
same_value Null v is h = cc
same_value (Int n) v is h = finite.int_cmp-IsAntisymmetric (id_in v) n ((Equal-is _).0 (sym (int_test v n is) ∙ h))
same_value (Real x) v is h = cc
same_value (Text t) v is h = texts_antisymmetric (bytes v) t ((Equal-is _).0 (sym (text_test v t is) ∙ h))
same_value (Blob b) v is h = cc

-- a row that has the key of another has its values
pub agreed_one : (p id : Value) (more r : Row) → is_like p (column r 1) ≡ true
    → agree plain (1 ∷ []) r (1 ∷ []) (id ∷ p ∷ more) ≡ true → IsThat p (column r 1)
agreed_one p id more r like h = let e =
    and_parts (equal Binary (column r 1) p) true (rw binary_first at h) in same_value p (column r 1) like e.0

pub agreed_two : (p q id : Value) (more r : Row) → (is_like p (column r 1) ≡ true) × (is_like q (column r 2) ≡ true)
    → agree plain (1 ∷ 2 ∷ []) r (1 ∷ 2 ∷ []) (id ∷ p ∷ q ∷ more) ≡ true → IsThat p (column r 1) × IsThat q (column r 2)
agreed_two p q id more r like h =
    let e = and_parts (equal Binary (column r 1) p) (equal Binary (column r 2) q && true) (rw binary_first at h) in
    let f = and_parts (equal Binary (column r 2) q) true e.1 in
    (same_value p (column r 1) like.0 e.0, same_value q (column r 2) like.1 f.0)

pub agreed_three : (p q w id : Value) (more r : Row)
    → (is_like p (column r 1) ≡ true) × (is_like q (column r 2) ≡ true) × (is_like w (column r 3) ≡ true)
    → agree plain (1 ∷ 2 ∷ 3 ∷ []) r (1 ∷ 2 ∷ 3 ∷ []) (id ∷ p ∷ q ∷ w ∷ more) ≡ true
    → IsThat p (column r 1) × IsThat q (column r 2) × IsThat w (column r 3)
agreed_three p q w id more r like h =
    let e =
    and_parts (equal Binary (column r 1) p) (equal Binary (column r 2) q && (equal Binary (column r 3) w && true))
    (rw binary_first at h) in
    let f = and_parts (equal Binary (column r 2) q) (equal Binary (column r 3) w && true) e.1 in
    let g = and_parts (equal Binary (column r 3) w) true f.1 in
    (same_value p (column r 1) like.0 e.0, same_value q (column r 2) like.1 f.0, same_value w (column r 3) like.2 g.0)

-- ---- a key that the map lacks

module _ {K X : Type 0} {R : K → K → Ordering} (o : IsTotalOrder R) (same : finite.IsAntisymmetric R)
    (kind : Row → Bool) (entry : Row → K × X) (rows : List Row) (k : K)
    (none : finite.get (map_of R kind entry rows) k ≡ None) where
  pub lacks : (r : Row) → Has rows r → kind r ≡ true → (entry r).0 ≡ k → ⊥
  unfolding map_of
  lacks r present is e =
      tied_some o same k (entry r).0 (map entry (filter kind rows)) (entry r).1
      (mapped_has entry (filter kind rows) r (has_kept kind rows r present is))
      (ap (λ l. R k l) e ∙ tied_itself o k)
      (sym (finite.get-from_entries o (map entry (filter kind rows)) k) ∙ none)
