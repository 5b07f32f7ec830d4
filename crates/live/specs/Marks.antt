-- What a walk marks, and what it costs.
use Rattle.std.specs.Prelude.{◌≡◌, ℕ, ◌+◌, ◌<◌, ◌≤◌, ◌-◌, ◌^◌, min, if◌then◌else◌, nat_lt, Bool, false, true, IsTrue}
use Rattle.std.specs.Prelude.{List, [], ◌∷◌, length, map, Option, Some, None}
use Rattle.std.specs.List.{slice_index, slice_index_or, slice_set, fold}
use Rattle.live.specs.Graph.{Keep}
use Rattle.live.specs.Places.{Entries, counting, Reaches}

-- a number of steps as it is reported: it stays at the largest number once there
abbrev pub reported : ℕ → ℕ
reported n = min n (2 ^ 64 - 1)

-- an item of a list was read, which is one step more
pub record IsRead (xs : List ℕ) (i before after item : ℕ) : Type 0 where
  pub value : item ≡ slice_index xs i
  pub counted : after ≡ reported (before + 1)

-- what one object costs: itself, and each of its entries that counts
abbrev pub cost : Keep → Entries → ℕ
cost keep e = 1 + length (counting keep e)

-- the costs of the marked: a mark below `none` is the place of a root
abbrev pub marked_cost : ℕ → List ℕ → List ℕ → ℕ
marked_cost none [] marks = 0
marked_cost none (w ∷ ws) [] = 0
marked_cost none (w ∷ ws) (m ∷ ms) = (if nat_lt m none then w else 0) + marked_cost none ws ms

-- what a walk leaves: for each place the first root, or the number of roots where there is none; and the steps that it
-- took
pub record Marking : Type 0 where
  pub first : List ℕ
  pub none : ℕ
  pub steps : ℕ

-- the first root of a place, if there is one
abbrev pub first_of : Marking → ℕ → Option ℕ
first_of m i = if nat_lt (slice_index m.first i) m.none then Some (slice_index m.first i) else None

-- a marking of a graph by the targets of the roots, in their order
pub record IsMarking (keep : Keep) (rows : List Entries) (targets : List ℕ) (m : Marking) : Type 0 where
  pub places : length m.first ≡ length rows
  pub roots : m.none ≡ length targets
  pub few : length rows < 2 ^ 64
  -- a mark is a root that reaches the place
  pub reaches : (i : ℕ) → i < length rows → slice_index m.first i < m.none
      → Reaches keep rows (slice_index targets (slice_index m.first i)) i
  -- no lesser root does; where there is no mark, no root does
  pub least : (i k : ℕ) → i < length rows → k < length targets → Reaches keep rows (slice_index targets k) i
      → slice_index m.first i ≤ k
  -- a step for each root, for each live object and for each of its entries that count
  pub steps : m.steps ≡ reported (length targets + marked_cost m.none (map (cost keep) rows) m.first)

-- ---- the walk

-- the marks so far, and which of the marked places have objects that have still to be visited
pub record Frontier : Type 0 where
  pub first : List ℕ
  pub waiting : List Bool

-- a place waits
abbrev pub Waits : List Bool → ℕ → Type 0
Waits waiting i = IsTrue (slice_index_or waiting i false)

abbrev pub NoneWaits : List Bool → Type 0
NoneWaits waiting = (i : ℕ) → Waits waiting i → ⊥

-- a place that waited waits no longer
pub record IsDequeued (old new : List Bool) (place : ℕ) : Type 0 where
  pub waited : Waits old place
  pub left : new ≡ slice_set old place false

-- the walk goes on at a place that waited: it waits no longer, and the marks stay
pub record IsTaken (old new : Frontier) (place : ℕ) : Type 0 where
  pub first : new.first ≡ old.first
  pub waiting : IsDequeued old.waiting new.waiting place

-- nothing waits, and the walk stays as it was
pub record IsDone (old new : Frontier) : Type 0 where
  pub first : new.first ≡ old.first
  pub waiting : new.waiting ≡ old.waiting
  pub none : NoneWaits new.waiting

-- a place that has no mark is marked, and has to be visited
abbrev pub reached : ℕ → ℕ → Frontier → ℕ → Frontier
reached none root f place =
    if nat_lt (slice_index f.first place) none then f
    else record { first = slice_set f.first place root; waiting = slice_set f.waiting place true }

abbrev pub all_reached : ℕ → ℕ → Frontier → List ℕ → Frontier
all_reached none root f places = fold (reached none root) f places
