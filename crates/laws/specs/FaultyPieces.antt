-- Faults of how archives are cut, said of the rows of objects and of further pieces.
use Rattle.std.specs.Prelude.{◌≡◌, ◌≢◌, ℕ, ◌+◌, ◌<◌, ◌≤◌, ℤ, pos, ◌<ℤ◌, List, [], length, Some, None, IsTrue}
use Rattle.std.specs.FinMap as finite
use Rattle.tables_sql.specs.Contents.{Contents, Stored}
use Rattle.model.specs.World.{Path}
use Rattle.tables_schema.specs.declared.schema.Schema.TheVariants.{V2, V3}
use Rattle.tables_world.specs.Worlds.{IsSoundBy}
use Rattle.laws.specs.FaultyRows.{AreUnsound}

-- what the table of pieces has of a path
pub record ExcludesFaultyPieces (c : Contents) (p : Path) : Type 0 where
  pub of_no_object : (n : ℤ) → IsTrue (finite.contains_key c.pieces (p, n)) → finite.get c.objects p ≡ None
      → AreUnsound c
  pub below_1 : (n : ℤ) → IsTrue (finite.contains_key c.pieces (p, n)) → n <ℤ pos 1 → AreUnsound c
  pub gap : (n : ℕ) → 1 ≤ n → finite.get c.pieces (p, pos n) ≡ None
      → IsTrue (finite.contains_key c.pieces (p, pos (n + 1))) → AreUnsound c
  pub empty : (n : ℤ) → finite.get c.pieces (p, n) ≡ Some [] → AreUnsound c
  pub too_long : (n : ℤ) (piece : List ℕ) → finite.get c.pieces (p, n) ≡ Some piece → 65536 < length piece
      → AreUnsound c
  pub short_before_another : (n : ℕ) (piece : List ℕ) → finite.get c.pieces (p, pos n) ≡ Some piece
      → IsTrue (finite.contains_key c.pieces (p, pos (n + 1)))
      → length piece ≢ 65536 → AreUnsound c

-- an object's row: where there is a table of pieces it has at most 65,536 bytes of the archive, and all of these before
-- the first piece
pub record ExcludesFaultyCuts (c : Contents) (p : Path) (o : Stored) : Type 0 where
  pub too_long : 65536 < length o.nar → (dir : List ℕ) → (¬ (IsSoundBy V2 dir c)) × (¬ (IsSoundBy V3 dir c))
  pub short_before_a_piece : IsTrue (finite.contains_key c.pieces (p, pos 1)) → length o.nar ≢ 65536 → AreUnsound c

abbrev pub FaultyCutsAreUnsound : Type 0
FaultyCutsAreUnsound =
    (c : Contents) (p : Path) (o : Stored) → finite.get c.objects p ≡ Some o → ExcludesFaultyCuts c p o
