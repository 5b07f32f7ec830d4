-- What a collection up to a limit has left after each step, by places.
use Rattle.std.proofs.Common.{Vec, Global}
use Rattle.std.specs.Prelude.{nat_lt, ◌-◌, ◌≡◌, ℕ, ◌+◌, ◌<◌, ◌==◌, ◌&&◌, Bool, false, not, if◌then◌else◌, List, [], ◌∷◌}
use Rattle.std.specs.Prelude.{length, map, IsTrue, Contains}
use Rattle.std.specs.List.{slice_index, slice_index_or, filter, sum_by, count_by, range_with_len}
use Rattle.std.specs.Option.{option_map_or}
use Rattle.std.specs.Ordering.{nat_cmp}
use Rattle.std.specs.BinaryHeap.{IsHeap}
use Rattle.std.specs.declared.cmp.Ordering.{Ordering}
use Rattle.std.specs.declared.cmp.Reverse.{Reverse}
use Rattle.live.specs.Graph.{Path, Graph}
use Rattle.live.specs.Places.{Entries, entries_at}
use Rattle.live.specs.Limited.{next_group, without}
use Rattle.live.specs.Numbering.{Row, Rise, numbered, path_at, paths_of}

-- the places that are dead, and those that are left; how many references of others left there are to each; and places
-- to which there are none, in a heap with the least on top
pub record Remaining : Type 0 where
  pub dead : List Bool
  pub left : List Bool
  pub referrers : List ℕ
  pub ready : List (Reverse ℕ)

abbrev pub least_first : Reverse ℕ → Reverse ℕ → Ordering
least_first x y = nat_cmp y.0 x.0

abbrev pub at : ℕ → Reverse ℕ
at i = record { 0 = i }

abbrev pub is_in : List Bool → ℕ → Bool
is_in marks i = slice_index_or marks i false

-- how often a place other than the referrer itself is among references
abbrev pub times_in : ℕ → List ℕ → ℕ → ℕ
times_in referrer references t = if referrer == t then 0 else count_by (λ x. x == t) references

abbrev pub times : List Entries → ℕ → ℕ → ℕ
times es q t = times_in q (entries_at es q).references t

abbrev pub times_left : List Entries → List Bool → ℕ → ℕ → ℕ
times_left es left t q = if is_in left q then times es q t else 0

-- how many references of others left there are to a place
abbrev pub referred : List Entries → List Bool → ℕ → ℕ
referred es left t = sum_by (times_left es left t) (range_with_len 0 (length left))

-- What is left is right, but that some references still count whose object was deleted.
pub record IsRemaining (es : List Entries) (owed : ℕ → ℕ) (s : Remaining) : Type 0 where
  pub deads : length s.dead ≡ length es
  pub places : length s.left ≡ length es
  pub counts : length s.referrers ≡ length es
  pub counted : (t : ℕ) → t < length es → slice_index s.referrers t ≡ referred es s.left t + owed t
  -- what waits in the heap has no referrer
  pub waits : (r : Reverse ℕ) → Contains s.ready r → (r.0 < length es) × (slice_index s.referrers r.0 ≡ 0)
  -- whatever is dead, left and without referrer waits
  pub complete : (t : ℕ) → t < length es → IsTrue (is_in s.dead t) → IsTrue (is_in s.left t)
      → slice_index s.referrers t ≡ 0 → Contains s.ready (at t)
  pub ordered : IsHeap least_first s.ready

abbrev pub nothing_owed : ℕ → ℕ
nothing_owed t = 0

-- what is left is right, with a place of an object
pub record IsRemainingAt (es : List Entries) (owed : ℕ → ℕ) (i : ℕ) (s : Remaining) : Type 0 where
  pub place : i < length es
  pub remaining : IsRemaining es owed s

-- what is left is right, and each path has a size
pub record IsSized (es : List Entries) (bytes : List ℕ) (s : Remaining) : Type 0 where
  pub sizes : length bytes ≡ length es
  pub remaining : IsRemaining es nothing_owed s

-- the same paths are dead, and what is left is right
pub record StaysDead (es : List Entries) (old new : Remaining) : Type 0 where
  pub dead : new.dead ≡ old.dead
  pub remaining : IsRemaining es nothing_owed new

-- the same paths are dead, and the same are left
pub record StaysLeft (es : List Entries) (old new : Remaining) : Type 0 where
  pub dead : new.dead ≡ old.dead
  pub left : new.left ≡ old.left
  pub remaining : IsRemaining es nothing_owed new

-- the same paths are dead, and of those left the ones that pass a test were deleted
pub record Deletes (es : List Entries) (test : ℕ → Bool) (old new : Remaining) : Type 0 where
  pub dead : new.dead ≡ old.dead
  pub left : (i : ℕ) → i < length es → is_in new.left i ≡ (is_in old.left i && not (test i))
  pub remaining : IsRemaining es nothing_owed new

-- the places left, in order
abbrev pub places_left : List Bool → List ℕ
places_left left = filter (is_in left) (range_with_len 0 (length left))

-- the least place that is dead, left and without referrer
pub record IsNextUnreferred (s : Remaining) (p : ℕ) : Type 0 where
  pub place : p < length s.left
  pub is_left : IsTrue (is_in s.left p)
  pub is_dead : IsTrue (is_in s.dead p)
  pub unreferred : slice_index s.referrers p ≡ 0
  pub least : (t : ℕ) → t < p → IsTrue (is_in s.dead t) → IsTrue (is_in s.left t) → slice_index s.referrers t ≡ 0 → ⊥

-- each place that is dead and left has a referrer
abbrev pub NoneUnreferred : Remaining → Type 0
NoneUnreferred s =
    (t : ℕ) → t < length s.left → IsTrue (is_in s.dead t) → IsTrue (is_in s.left t) → slice_index s.referrers t ≡ 0 → ⊥

-- the least place that is dead and left
pub record IsLeastDead (s : Remaining) (p : ℕ) : Type 0 where
  pub place : p < length s.left
  pub is_left : IsTrue (is_in s.left p)
  pub is_dead : IsTrue (is_in s.dead p)
  pub least : (t : ℕ) → t < p → IsTrue (is_in s.dead t) → IsTrue (is_in s.left t) → ⊥

abbrev pub NoneDead : Remaining → Type 0
NoneDead s = (t : ℕ) → t < length s.left → IsTrue (is_in s.dead t) → IsTrue (is_in s.left t) → ⊥

-- what the places stand for: rows, which paths are dead, and the sizes of paths
pub record Represents (es : List Entries) (dead : List Bool) (sizes : List ℕ) (rows_of : List Row)
    (is_dead : Path → Bool) (size_of : Path → ℕ) : Type 0 where
  pub rise : Rise (paths_of rows_of)
  pub rows : es ≡ numbered rows_of
  pub deads : (i : ℕ) → i < length rows_of → is_dead (path_at rows_of i) ≡ is_in dead i
  pub size : (i : ℕ) → i < length rows_of → size_of (path_at rows_of i) ≡ slice_index sizes i

-- the paths of the places of a group
abbrev pub group_at : List Row → Vec ℕ Global → List Path
group_at rows v = map (path_at rows) v.items

-- ---- what the groups that go leave, by paths

-- the paths left after the groups that are deleted in some turns
unfoldable pub left_after : Graph → (Path → Bool) → (Path → ℕ) → (turns : List Path) → List Path → ℕ → List Path
left_after g dead size [] left wanted = left
left_after g dead size (turn ∷ turns) left wanted =
    if nat_lt 0 wanted
    then option_map_or
    (λ group. left_after g dead size turns (without group left) (wanted - sum_by size group))
    (next_group g dead left) left
    else left
