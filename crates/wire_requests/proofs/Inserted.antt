-- A router after one more route.
use Rattle.std.proofs.Common.{◌≡◌, ◌⊎◌, ℕ, List, [], ◌∷◌, ◌++◌, Result, Ok, Err, Bool, true, false, cond, inl, inr, sym}
use Rattle.std.proofs.Common.{ap, subst, ◌∙◌, ◌+◌, ◌<◌, length, take, get_or}
use Rattle.std.specs.Prelude.{map}
use Rattle.std.proofs.lemmas.List.{take_more, map-append}
use Rattle.matchit.specs.Rows.{RowsOf, comes_before}
use Rattle.matchit.specs.Order.{placed}
use Rattle.matchit.specs.Route.{Scan}
use Rattle.matchit.specs.Router.{RouteOf, InsertsRead, route_from}
use Rattle.matchit.specs.declared.error.InsertError.{InsertError}
use Rattle.matchit.specs.declared.error.InsertError.TheVariants.{OutOfMemory}
use Rattle.wire_requests.specs.declared.requests.Requests.{Requests}
use Rattle.wire_requests.specs.Rows.{Has, AreRows, read_row}

module _ {K : Type 0} where
  placed_has : (r x : List ℕ × K) (rs : RowsOf K) → Has x (placed r rs) → (r ≡ x) ⊎ Has x rs
  placed_has r x [] (inl e) = inl e
  placed_has r x [] (inr h) = absurd h
  placed_has r x (y ∷ rs) has = by (comes_before r.0 y.0) has (placed_has r x rs)
    where
      by : (v : Bool) → Has x (cond v (r ∷ y ∷ rs) (y ∷ placed r rs)) → (Has x (placed r rs) → (r ≡ x) ⊎ Has x rs)
          → (r ≡ x) ⊎ Has x (y ∷ rs)
      by true (inl e) ih = inl e
      by true (inr h) ih = inr h
      by false (inl e) ih = inr (inl e)
      by false (inr h) ih = elim (ih h) [ inl e ↦ inl e | inr g ↦ inr (inr g) ]

  has_placed : (r x : List ℕ × K) (rs : RowsOf K) → (r ≡ x) ⊎ Has x rs → Has x (placed r rs)
  has_placed r x [] (inl e) = inl e
  has_placed r x [] (inr h) = absurd h
  has_placed r x (y ∷ rs) has = by (comes_before r.0 y.0) has (has_placed r x rs)
    where
      by : (v : Bool) → (r ≡ x) ⊎ Has x (y ∷ rs) → ((r ≡ x) ⊎ Has x rs → Has x (placed r rs))
          → Has x (cond v (r ∷ y ∷ rs) (y ∷ placed r rs))
      by true (inl e) ih = inl e
      by true (inr h) ih = inr h
      by false (inl e) ih = inr (ih (inl e))
      by false (inr (inl e)) ih = inl e
      by false (inr (inr h)) ih = inr (ih (inr h))

module _ {A : Type 0} where
  last_has : (x y : A) (xs : List A) → Has x (xs ++ y ∷ []) → Has x xs ⊎ (y ≡ x)
  last_has x y [] (inl e) = inr e
  last_has x y [] (inr h) = absurd h
  last_has x y (z ∷ xs) (inl e) = inl (inl e)
  last_has x y (z ∷ xs) (inr h) = elim (last_has x y xs h) [ inl g ↦ inl (inr g) | inr e ↦ inr e ]

  has_last : (x y : A) (xs : List A) → Has x xs ⊎ (y ≡ x) → Has x (xs ++ y ∷ [])
  has_last x y [] (inl h) = absurd h
  has_last x y [] (inr e) = inl e
  has_last x y (z ∷ xs) (inl (inl e)) = inl e
  has_last x y (z ∷ xs) (inl (inr h)) = inr (has_last x y xs (inl h))
  has_last x y (z ∷ xs) (inr e) = inr (has_last x y xs (inr e))

pub no_rows : AreRows [] []
no_rows = record { each = λ row has. has; all = λ row has. has }

ok_no_error : (u : Unit {0}) (e : InsertError) → Ok u ≡ Err e → ⊥
ok_no_error u e h = cc

-- one more route of the table
pub one_row : (p : Result Scan InsertError) (requests : Requests) (old new table : RowsOf (RouteOf Requests))
    (u : Unit {0})
    → InsertsRead p requests old new (Ok u) → AreRows old table → AreRows new (table ++ read_row p requests ∷ [])
one_row (Err e) requests old new table u (same, inl h) rows = absurd (ok_no_error u e h)
one_row (Err e) requests old new table u (same, inr h) rows = absurd (ok_no_error u OutOfMemory h)
one_row (Ok s) requests old new table u (free, is) rows =
    let r : List ℕ × RouteOf Requests = (s.pattern, route_from s requests) in
    let rows' : AreRows (placed r old) (table ++ r ∷ []) = record {
      each = λ row has. elim (placed_has r row old has) [
        | inl e ↦ has_last row r table (inr e)
        | inr h ↦ has_last row r table (inl (rows.each row h))
      ];
      all = λ row has. elim (last_has row r table has) [
        | inl h ↦ has_placed r row old (inr (rows.all row h))
        | inr e ↦ has_placed r row old (inl e)
      ];
    } in
    subst (λ x. AreRows x (table ++ r ∷ [])) (sym is) rows'

-- one more row, read
pub map_more : {X Y : Type 0} (g : X → Y) (xs : List X) (i : ℕ) (d : X) → i < length xs
    → map g (take (i + 1) xs) ≡ map g (take i xs) ++ g (get_or xs i d) ∷ []
map_more g xs i d h = ap (map g) (take_more xs i d h) ∙ map-append g (take i xs) (get_or xs i d ∷ [])
