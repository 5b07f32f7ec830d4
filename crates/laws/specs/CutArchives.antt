-- The archive of an object, read off the rows one piece after another.
use Rattle.std.specs.Prelude.{◌≡◌, ℕ, ◌+◌, pos, List, [], ◌∷◌, ◌++◌, Some, None}
use Rattle.std.specs.List.{concat}
use Rattle.std.specs.FinMap as finite
use Rattle.tables_sql.specs.Contents.{Contents, Stored}
use Rattle.model.specs.World.{Path, Object}
use Rattle.tables_schema.specs.declared.schema.Schema.{Schema}
use Rattle.tables_world.specs.Worlds.{world_in, IsSoundBy}

-- the further pieces of a path from a number on: one row after another, until a number has none
abbrev pub FollowFrom : Contents → Path → ℕ → List (List ℕ) → Type 0
FollowFrom c p n [] = finite.get c.pieces (p, pos n) ≡ None
FollowFrom c p n (piece ∷ pieces) = (finite.get c.pieces (p, pos n) ≡ Some piece) × FollowFrom c p (n + 1) pieces

-- the archive of a path and its object's row: the bytes of the row, and those of the further pieces, from the first on
pub record HasArchive (c : Contents) (p : Path) (o : Stored) (nar : List ℕ) : Type 0 where
  pub pieces : List (List ℕ)
  pub follow : FollowFrom c p 1 pieces
  pub whole : nar ≡ o.nar ++ concat pieces

-- where rows are sound, the object of a path has this archive
abbrev pub ArchivesAreReadWhole : Type 0
ArchivesAreReadWhole =
    (schema : Schema) (dir : List ℕ) (c : Contents) → IsSoundBy schema dir c → (p : Path) (o : Stored) (nar : List ℕ)
    → finite.get c.objects p ≡ Some o → HasArchive c p o nar
    → (x : Object) × (finite.get (world_in c).objects p ≡ Some x) × (x.nar ≡ nar)
