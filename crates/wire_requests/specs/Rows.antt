-- The routes of a table that a router has.
use Rattle.std.specs.Prelude.{◌≡◌, ◌⊎◌, ◌&&◌, ℕ, Bool, true, false, not, List, [], ◌∷◌, ◌++◌, Result, Ok, Err, map}
use Rattle.std.specs.List.{list_all}
use Rattle.std.specs.Borrow.{Bor}
use Rattle.matchit.specs.Conflict.{conflicts}
use Rattle.matchit.specs.Rows.{RowsOf}
use Rattle.matchit.specs.Router.{RouteOf, route_from}
use Rattle.matchit.specs.Route.{Scan, parse_route}
use Rattle.matchit.specs.declared.error.InsertError.{InsertError}
use Rattle.wire_requests.specs.Table.{routes}
use Rattle.wire_requests.specs.declared.requests.Requests.{Requests}

-- an item is among others
abbrev pub Has : {A : Type 0} → A → List A → Type 0
Has r [] = ⊥
Has r (x ∷ rs) = (x ≡ r) ⊎ Has r rs

-- the rows are those of the table, whatever their order
pub record AreRows (rs table : RowsOf (RouteOf Requests)) : Type 0 where
  pub each : (row : List ℕ × RouteOf Requests) → Has row rs → Has row table
  pub all : (row : List ℕ × RouteOf Requests) → Has row table → Has row rs

-- the row of a route's text, which has the names of its parameters, with its requests
abbrev pub read_row : Result Scan InsertError → Requests → List ℕ × RouteOf Requests
read_row (Ok s) requests = (s.pattern, route_from s requests)
read_row (Err e) requests = ([], record { pattern = []; text = []; names = []; value = requests })

abbrev pub row_of : List ℕ × Requests → List ℕ × RouteOf Requests
row_of row = read_row (parse_route row.0) row.1

-- the row of each route
unfoldable pub rows : RowsOf (RouteOf Requests)
rows = map row_of routes

-- one more route after those of a table
abbrev pub AddsRow : List ℕ → Requests → RowsOf (RouteOf Requests) → RowsOf (RouteOf Requests) → Type 0
AddsRow text requests old new =
    (table : RowsOf (RouteOf Requests)) → AreRows old table → AreRows new (table ++ row_of (text, requests) ∷ [])

-- the borrowed text of a route, with its requests
abbrev pub text_of : Bor (List ℕ) × Requests → List ℕ × Requests
text_of row = (row.0.now, row.1)

-- a route's text reads well, and its pattern conflicts with none of a table's
abbrev pub can_add : Result Scan InsertError → RowsOf (RouteOf Requests) → Bool
can_add (Ok s) table = list_all (λ row. not (conflicts s.pattern row.0)) table
can_add (Err e) table = false

-- each of these routes can be added to a table that has those before it
abbrev pub can_add_all : RowsOf (RouteOf Requests) → List (List ℕ × Requests) → Bool
can_add_all table [] = true
can_add_all table (row ∷ rows) = can_add (parse_route row.0) table && can_add_all (table ++ row_of row ∷ []) rows
