-- A route that conflicts with none of a router's is refused only for memory.
use Rattle.std.proofs.Common.{◌≡◌, ℕ, List, [], ◌∷◌, ◌++◌, Some, None, Option, Result, Ok, Err, true, false, cond, not}
use Rattle.std.proofs.Common.{◌+◌, ◌<◌, zero, suc, length, take, get_or, inl, inr, refl, sym, ap, ◌∙◌, arith}
use Rattle.std.proofs.Common.{append_assoc, append-nil, subst}
use Rattle.std.specs.Borrow.{Bor}
use Rattle.std.specs.Prelude.{map}
use Rattle.std.proofs.lemmas.List.{map-append}
use Rattle.std.specs.List.{list_all}
use Rattle.matchit.specs.Rows.{RowsOf}
use Rattle.matchit.specs.Conflict.{conflicts}
use Rattle.matchit.specs.Order.{common_len}
use Rattle.matchit.specs.Route.{Scan, parse_route}
use Rattle.matchit.specs.Router.{RouteOf, InsertsRead, Refused, nearest, nearest_from, nearer}
use Rattle.matchit.specs.declared.error.InsertError.{InsertError}
use Rattle.matchit.specs.declared.error.InsertError.TheVariants.{Conflict, InvalidParam, InvalidParamSegment}
use Rattle.matchit.specs.declared.error.InsertError.TheVariants.{InvalidCatchAll, OutOfMemory}
use Rattle.wire_requests.specs.declared.requests.Requests.{Requests}
use Rattle.wire_requests.specs.Rows.{Has, AreRows, can_add, can_add_all, row_of, text_of}
use Rattle.wire_requests.proofs.Inserted.{map_more}
use Rattle.wire_requests.proofs.Texts.{and_first, and_last, not_true}

module _ {K : Type 0} (p : List ℕ) where
  -- no row conflicts, so none is nearest
  nearest_none : (rs : RowsOf K) → ((t : List ℕ) (k : K) → Has (t, k) rs → conflicts p t ≡ false) → nearest p rs ≡ None
  nearest_none [] free = refl
  nearest_none ((t, k) ∷ rest) free =
      ap (λ v. nearest_from p (cond v (nearer (None, 0) (common_len p t) k) (None, 0)) rest) (free t k (inl refl))
      ∙ nearest_none rest (λ t' k' has. free t' k' (inr has))

free_row : (p : List ℕ) (table : RowsOf (RouteOf Requests)) (row : List ℕ × RouteOf Requests)
    → list_all (λ other. not (conflicts p other.0)) table ≡ true → Has row table
    → conflicts p row.0 ≡ false
free_row p [] row e has = absurd has
free_row p (other ∷ table) row e (inl is) =
    ap (λ r. conflicts p r.0) (sym is)
    ∙ not_true (conflicts p other.0)
    (and_first (not (conflicts p other.0)) (list_all (λ o. not (conflicts p o.0)) table) e)
free_row p (other ∷ table) row e (inr has) =
    free_row p table row (and_last (not (conflicts p other.0)) (list_all (λ o. not (conflicts p o.0)) table) e) has

some_none : {A : Type 0} (x : A) (o : Option A) → o ≡ None → o ≡ Some x → ⊥
some_none x o none some = let both : None ≡ Some x = sym none ∙ some in cc

pub only_memory : (p : Result Scan InsertError) (requests : Requests) (old new table : RowsOf (RouteOf Requests))
    (e : InsertError)
    → AreRows old table → can_add p table ≡ true → InsertsRead p requests old new (Err e) → e ≡ OutOfMemory
only_memory (Err f) requests old new table e rows can is = let h : false ≡ true = can in cc
only_memory (Ok s) requests old new table e rows can is =
    by e is.1 (nearest_none s.pattern old (λ t k has. free_row s.pattern table (t, k) can (rows.each (t, k) has)))
  where
    by : (f : InsertError) → Refused s.pattern old f → nearest s.pattern old ≡ None → f ≡ OutOfMemory
    by (Conflict with) (n, is, text) none = absurd (some_none n (nearest s.pattern old) none is)
    by OutOfMemory refused none = refl
    by InvalidParamSegment refused none = absurd refused
    by InvalidParam refused none = absurd refused
    by InvalidCatchAll refused none = absurd refused

-- each route can be added after those before it
pub can_at : (table : RowsOf (RouteOf Requests)) (rows : List (Bor (List ℕ) × Requests)) (i : ℕ)
    (d : Bor (List ℕ) × Requests) → can_add_all table (map text_of rows) ≡ true → i < length rows
    → can_add (parse_route (get_or rows i d).0.now) (table ++ map row_of (map text_of (take i rows))) ≡ true
can_at table [] i d e below = absurd (omega (arith, below))
can_at table (row ∷ rows) zero d e below =
    subst (λ t. can_add (parse_route row.0.now) t ≡ true) (sym (append-nil table))
    (and_first (can_add (parse_route row.0.now) table)
    (can_add_all (table ++ row_of (text_of row) ∷ []) (map text_of rows)) e)
can_at table (row ∷ rows) (suc i) d e below =
    let rest =
    and_last (can_add (parse_route row.0.now) table)
    (can_add_all (table ++ row_of (text_of row) ∷ []) (map text_of rows)) e in
    subst (λ t. can_add (parse_route (get_or rows i d).0.now) t ≡ true)
    (append_assoc table (row_of (text_of row) ∷ []) (map row_of (map text_of (take i rows))))
    (can_at (table ++ row_of (text_of row) ∷ []) rows i d rest (omega (arith, below)))

-- one more row, read
pub rows_more : (rows : List (Bor (List ℕ) × Requests)) (i : ℕ) (d : Bor (List ℕ) × Requests) → i < length rows
    → map row_of (map text_of (take (i + 1) rows))
    ≡ map row_of (map text_of (take i rows)) ++ row_of (text_of (get_or rows i d)) ∷ []
rows_more rows i d below =
    ap (map row_of) (map_more text_of rows i d below)
    ∙ map-append row_of (map text_of (take i rows)) (text_of (get_or rows i d) ∷ [])
