-- The world that the rows of the tables have, by each of the three schemas, and when they are sound.
use Rattle.std.specs.Prelude.{◌≡◌, ℕ, ℤ, pos, negsuc, ◌&&◌, List, ◌++◌, map, codes, Option, Some}
use Rattle.std.specs.Prelude.{None, IsTrue, IsFalse, IsSome}
use Rattle.std.specs.List.{filter, flat_map}
use Rattle.std.specs.declared.cmp.Ordering.{Ordering}
use Rattle.std.specs.Ordering.{on, then_cmp, eq_by_cmp, nat_cmp, int_cmp}
use Rattle.std.specs.FinMap as finite
use Rattle.sha2.specs.Sha256.{sha256}
use Rattle.paths.specs.Names.{is_store_dir}
use Rattle.paths.specs.Root.{bytes_cmp, Set, set_of}
use Rattle.paths.specs.ContentAddress.{ContentAddress, address_of}
use Rattle.tables_schema.specs.declared.schema.Schema.{Schema}
use Rattle.tables_schema.specs.declared.schema.Schema.TheVariants.{V1, V2, V3}
use Rattle.tables_schema.specs.Schemas.{schema_text, has_pieces, has_temporary}
use Rattle.tables_sql.specs.Contents.{Stored, triple_cmp}
use Rattle.model.specs.World.{Path, Pair, pair_cmp, Object, Profile, Temporary, temporary_cmp, World}
use Rattle.model.specs.Sound.{IsSound}
use Rattle.tables_world.specs.Pieces.{joined, IsCut, row_part, further_pieces}

-- ---- the tables

-- a path and the number of a piece, by path and then by number
abbrev pub Piece : Type 0
Piece = Path × ℤ

abbrev pub piece_cmp : Piece → Piece → Ordering
piece_cmp = then_cmp (on (λ p. p.0) bytes_cmp) (on (λ p. p.1) int_cmp)

-- the owner and the number of a session, and a path that it keeps
abbrev pub SessionPath : Type 0
SessionPath = List ℕ × ℤ × Path

abbrev pub session_path_cmp : SessionPath → SessionPath → Ordering
session_path_cmp = then_cmp (on (λ k. k.0) bytes_cmp) (then_cmp (on (λ k. k.1) int_cmp) (on (λ k. k.2) bytes_cmp))

-- what the eleven tables hold; a table that a schema doesn't have holds nothing
pub record Rows : Type 0 where
  pub meta : finite.FinMap bytes_cmp (List ℕ)
  pub objects : finite.FinMap bytes_cmp Stored
  pub refs : Set pair_cmp
  pub outs : finite.FinMap pair_cmp Path
  pub permanent : finite.FinMap bytes_cmp Path
  pub user_roots : finite.FinMap pair_cmp Path
  pub profiles : finite.FinMap pair_cmp ℤ
  pub generations : finite.FinMap triple_cmp Path
  pub runtime : Set pair_cmp
  -- a path and a number, and the bytes of that piece of its archive
  pub pieces : finite.FinMap piece_cmp (List ℕ)
  pub temp_roots : Set session_path_cmp

-- the two settings of a database of a store directory
abbrev pub settings : Schema → List ℕ → finite.FinMap bytes_cmp (List ℕ)
settings schema dir =
    finite.insert (finite.insert finite.empty (codes "schema") (schema_text schema)) (codes "store-dir") dir

-- the rows of a database that was just made
abbrev pub new_rows : Schema → List ℕ → Rows
new_rows schema dir = record {
  meta = settings schema dir;
  objects = finite.empty;
  refs = finite.empty;
  outs = finite.empty;
  permanent = finite.empty;
  user_roots = finite.empty;
  profiles = finite.empty;
  generations = finite.empty;
  runtime = finite.empty;
  pieces = finite.empty;
  temp_roots = finite.empty;
}

-- ---- the world that they have

-- the paths that a path refers to
abbrev pub references_in : Rows → Path → Set bytes_cmp
references_in c p =
    finite.from_entries (map (λ e. (e.0.1, e.1)) (filter (λ e. eq_by_cmp bytes_cmp p e.0.0) (finite.entries c.refs)))

-- the outputs of a path, by their names
abbrev pub outputs_in : Rows → Path → finite.FinMap bytes_cmp Path
outputs_in c p =
    finite.from_entries (map (λ e. (e.0.1, e.1)) (filter (λ e. eq_by_cmp bytes_cmp p e.0.0) (finite.entries c.outs)))

-- the further pieces of a path's archive, by their numbers
abbrev pub pieces_in : Rows → Path → finite.FinMap int_cmp (List ℕ)
pieces_in c p =
    finite.from_entries (map (λ e. (e.0.1, e.1)) (filter (λ e. eq_by_cmp bytes_cmp p e.0.0) (finite.entries c.pieces)))

-- the archive of a path: what its object's row holds, and its pieces in their order
abbrev pub archive_in : Rows → Path → Stored → List ℕ
archive_in c p o = o.nar ++ joined (finite.entries (pieces_in c p))

-- the address that a text is, if there is one
abbrev pub address_in : Option (List ℕ) → Option ContentAddress
address_in None = None
address_in (Some text) = address_of text

-- an object with its archive, its references, its outputs and its address
abbrev pub object_in : Rows → Path → Stored → Object
object_in c p o =
    record {
      nar = archive_in c p o;
      references = references_in c p;
      deriver = o.deriver;
      ca = address_in o.ca;
      outputs = outputs_in c p;
    }

-- a number that isn't negative, as sound rows have it
abbrev pub number_in : ℤ → ℕ
number_in (pos n) = n
number_in (negsuc n) = 0

-- the generations of a profile, by their numbers
abbrev pub generations_in : Rows → Pair → finite.FinMap nat_cmp Path
generations_in c owned = finite.from_entries (map (λ e. (number_in e.0.2, e.1))
    (filter (λ e. eq_by_cmp bytes_cmp owned.0 e.0.0 && eq_by_cmp bytes_cmp owned.1 e.0.1)
    (finite.entries c.generations)))

-- a profile with its generations and the number of the current one
abbrev pub profile_in : Rows → Pair → ℤ → Profile
profile_in c owned current = record { generations = generations_in c owned; current = number_in current }

-- what a session keeps
abbrev pub temporary_in : SessionPath → Temporary
temporary_in k = record { owner = k.0; session = number_in k.1; path = k.2 }

-- the world of the rows: each row of an object with its pieces, references and outputs, each row of a profile with its
-- generations
abbrev pub world_of : Rows → World
world_of c = record {
  objects = finite.from_entries (map (λ e. (e.0, object_in c e.0 e.1)) (finite.entries c.objects));
  permanent = c.permanent;
  user_roots = c.user_roots;
  profiles = finite.from_entries (map (λ e. (e.0, profile_in c e.0 e.1)) (finite.entries c.profiles));
  runtime = c.runtime;
  temporary = set_of temporary_cmp (map temporary_in (finite.keys c.temp_roots));
}

-- ---- sound rows

-- rows that are those of a database of a store directory, in the form of a schema
pub record IsSoundRows (schema : Schema) (dir : List ℕ) (c : Rows) : Type 0 where
  -- the settings are the two of a database of this directory, and no others
  pub directory : IsTrue (is_store_dir dir)
  pub settings_are : c.meta ≡ settings schema dir
  -- a table that the schema doesn't have holds nothing
  pub no_pieces : IsFalse (has_pieces schema) → c.pieces ≡ finite.empty
  pub no_temporary : IsFalse (has_temporary schema) → c.temp_roots ≡ finite.empty
  -- each archive is cut the right way, and each digest is that of the archive; what is recorded as an address is one
  pub cut : IsTrue (has_pieces schema) → (p : Path) (o : Stored) → finite.get c.objects p ≡ Some o
      → IsCut o.nar (finite.entries (pieces_in c p))
  pub hash : (p : Path) (o : Stored) → finite.get c.objects p ≡ Some o → o.hash ≡ sha256 (archive_in c p o)
  pub address : (p : Path) (o : Stored) (text : List ℕ) → finite.get c.objects p ≡ Some o → o.ca ≡ Some text
      → IsSome (address_of text)
  -- each piece, each reference and each output belongs to an object, and each generation to a profile
  pub pieces : (p : Path) (n : ℤ) → IsTrue (finite.contains_key c.pieces (p, n))
      → IsTrue (finite.contains_key c.objects p)
  pub references : (p r : Path) → IsTrue (finite.contains_key c.refs (p, r)) → IsTrue (finite.contains_key c.objects p)
  pub outputs : (p : Path) (name : List ℕ) → IsTrue (finite.contains_key c.outs (p, name))
      → IsTrue (finite.contains_key c.objects p)
  pub generations : (owner name : List ℕ) (n : ℤ) → IsTrue (finite.contains_key c.generations (owner, name, n))
      → IsTrue (finite.contains_key c.profiles (owner, name))
  -- no number is negative
  pub numbers : (owner name : List ℕ) (n : ℤ) → IsTrue (finite.contains_key c.generations (owner, name, n))
      → (m : ℕ) × (n ≡ pos m)
  pub current : (owned : Pair) (n : ℤ) → finite.get c.profiles owned ≡ Some n → (m : ℕ) × (n ≡ pos m)
  pub sessions : (k : SessionPath) → IsTrue (finite.contains_key c.temp_roots k) → (m : ℕ) × (k.1 ≡ pos m)
  -- the world that they have is sound
  pub world : IsSound dir (world_of c)

-- ---- migration

-- an object's row with the first part of its archive
abbrev pub cut_row : Rows → Path → Stored → Stored
cut_row c p o = record o { nar = row_part (archive_in c p o) }

-- the further pieces of a path's archive, as rows
abbrev pub cut_pieces : Rows → Path → Stored → List (Piece × List ℕ)
cut_pieces c p o = map (λ e. ((p, e.0), e.1)) (further_pieces (archive_in c p o))

-- What a migration to the third schema makes of the rows of a store directory: from the first, each archive is cut;
-- from the second, all stay but the settings. There are no temporary roots.
abbrev pub migrated : Schema → List ℕ → Rows → Rows
migrated V1 dir c = record c {
  meta = settings V3 dir;
  objects = finite.from_entries (map (λ e. (e.0, cut_row c e.0 e.1)) (finite.entries c.objects));
  pieces = finite.from_entries (flat_map (λ e. cut_pieces c e.0 e.1) (finite.entries c.objects));
}
migrated V2 dir c = record c { meta = settings V3 dir }
migrated V3 dir c = c
