-- The room that a tree's archive leaves below the limit, if the tree is legal and not too deep: what the test of a
-- tree computes.
use Rattle.std.specs.Prelude.{ℕ, ◌+◌, ◌-◌, List, length, Bool, true, false, Option, Some, None, nat_lt, ◌&&◌}
use Rattle.std.specs.Prelude.{if◌then◌else◌, option_and_then}
use Rattle.std.specs.List.{list_all}
use Rattle.nar.specs.String.{size_of}
use Rattle.nar.specs.Tree.{Tree, regular, symlink, directory, Entries, no_entries, entry, is_name, rises}

-- whether each number is a byte
abbrev pub are_bytes : List ℕ → Bool
are_bytes s = list_all (λ b. nat_lt b 256) s

-- the room after a number of bytes, if they fit
abbrev pub less : ℕ → ℕ → Option ℕ
less room size = if nat_lt room size then None else Some (room - size)

-- the bytes of a regular file besides its contents
abbrev pub file_size : Bool → ℕ
file_size true = 112
file_size false = 80

-- whether an entry of this name may follow the last one, in a directory that is the given node inside one another
abbrev pub may_enter : ℕ → Option (List ℕ) → List ℕ → Bool
may_enter depth last n = (are_bytes n && is_name n) && (rises last n && nat_lt depth 256)

-- what a node leaves of the room, being the given one inside one another
abbrev mutual
  pub room_after : ℕ → ℕ → Tree → Option ℕ
  room_after depth room (regular executable contents) =
      if are_bytes contents then less room (file_size executable + size_of (length contents)) else None
  room_after depth room (symlink target) = if are_bytes target then less room (80 + size_of (length target)) else None
  room_after depth room (directory entries) =
      option_and_then (λ left. entries_room depth None left entries) (less room 72)

  pub entries_room : ℕ → Option (List ℕ) → ℕ → Entries → Option ℕ
  entries_room depth last room no_entries = Some room
  entries_room depth last room (entry n t entries) =
      if may_enter depth last n
      then option_and_then
      (λ left. option_and_then (λ more. entries_room depth (Some n) more entries) (room_after (depth + 1) left t))
      (less room (80 + size_of (length n)))
      else None
