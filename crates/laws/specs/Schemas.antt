-- Laws of the schemas: what sound rows of each have.
use Rattle.std.specs.Prelude.{◌≡◌, ℕ, ◌≤◌, ℤ, pos, List, codes, Some, IsTrue}
use Rattle.std.specs.FinMap as finite
use Rattle.paths.specs.Names.{is_plain_name}
use Rattle.model.specs.World.{Path}
use Rattle.tables_world.specs.Rows.{SessionPath, Rows, IsSoundRows}
use Rattle.tables_schema.specs.declared.schema.Schema.{Schema}
use Rattle.tables_schema.specs.declared.schema.Schema.TheVariants.{V1, V2, V3}

-- the settings name the store directory and the number of the schema
pub record NamesSchema (number dir : List ℕ) (c : Rows) : Type 0 where
  pub schema : finite.get c.meta (codes "schema") ≡ Some number
  pub directory : finite.get c.meta (codes "store-dir") ≡ Some dir

-- The first schema has the number 1, no further pieces and no temporary roots; the second has the number 2 and no
-- temporary roots; the third has the number 3.
pub record SchemasDiffer (dir : List ℕ) (c : Rows) : Type 0 where
  pub first : IsSoundRows V1 dir c
      → NamesSchema (codes "1") dir c × (c.pieces ≡ finite.empty) × (c.temp_roots ≡ finite.empty)
  pub second : IsSoundRows V2 dir c → NamesSchema (codes "2") dir c × (c.temp_roots ≡ finite.empty)
  pub third : IsSoundRows V3 dir c → NamesSchema (codes "3") dir c

-- a further piece has a number of 1 or more, whatever the schema is
abbrev pub PiecesCountFromOne : Type 0
PiecesCountFromOne = (schema : Schema) (dir : List ℕ) (c : Rows) → IsSoundRows schema dir c
    → (p : Path) (n : ℤ) → IsTrue (finite.contains_key c.pieces (p, n)) → (m : ℕ) × (n ≡ pos m) × (1 ≤ m)

-- what a session keeps: its owner is a plain name, its number is 1 to 4,194,304, and the path is an object's
pub record KeepsInBounds (c : Rows) (k : SessionPath) : Type 0 where
  pub owner : IsTrue (is_plain_name k.0)
  pub number : ℕ
  pub is_number : k.1 ≡ pos number
  pub lowest : 1 ≤ number
  pub highest : number ≤ 4194304
  pub target : IsTrue (finite.contains_key c.objects k.2)

abbrev pub SessionsKeepInBounds : Type 0
SessionsKeepInBounds =
    (schema : Schema) (dir : List ℕ) (c : Rows) → IsSoundRows schema dir c → (k : SessionPath)
    → IsTrue (finite.contains_key c.temp_roots k) → KeepsInBounds c k
