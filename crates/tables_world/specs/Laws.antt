-- Laws of objects and of rows: which outputs are recorded, how archives are cut, what world rows have, and that a
-- migration keeps it.
use Rattle.std.specs.Prelude.{◌≡◌, ◌↔◌, ℕ, ℤ, pos, Bool, List, ◌++◌, Some, None, IsTrue, IsFalse, Contains}
use Rattle.std.specs.FinMap as finite
use Rattle.nar.specs.Tree.{regular}
use Rattle.nar.specs.Archive.{IsArchive}
use Rattle.paths.specs.StorePath.{is_derivation}
use Rattle.paths.specs.ContentAddress.{ContentAddress, IsAddressText}
use Rattle.drv.specs.Derivation.{Records}
use Rattle.tables_sql.specs.Contents.{Contents, Stored}
use Rattle.model.specs.World.{Path, Pair, Object, Profile, Temporary, World}
use Rattle.model.specs.Objects.{outputs_at}
use Rattle.tables_world.specs.Pieces.{piece_size, joined, IsCut, row_part, further_pieces}
use Rattle.tables_world.specs.Rows.{Rows, pieces_in, world_of, IsSoundRows, migrated}
use Rattle.tables_schema.specs.declared.schema.Schema.{Schema}
use Rattle.tables_schema.specs.declared.schema.Schema.TheVariants.{V3}
use Rattle.tables_world.specs.Worlds.{rows_of, world_in}

-- Each archive can be cut the right way, and in one way alone: a row and pieces that are cut right are those of the
-- archive that they have.
pub record CutsOneWay (nar : List ℕ) : Type 0 where
  pub size : piece_size ≡ 65536
  pub right : IsCut (row_part nar) (further_pieces nar)
  pub whole : row_part nar ++ joined (further_pieces nar) ≡ nar
  pub one : (row : List ℕ) (pieces : List (ℤ × List ℕ)) → IsCut row pieces → row ++ joined pieces ≡ nar
      → (row ≡ row_part nar) × (pieces ≡ further_pieces nar)

-- What an object is, by the rows that have its path: a reference for each row of `refs`, an output for each of `outs`,
-- and the address of which its row has the text.
pub record DescribesObject (c : Rows) (p : Path) (o : Stored) (x : Object) : Type 0 where
  pub archive : x.nar ≡ o.nar ++ joined (finite.entries (pieces_in c p))
  pub piece : (n : ℤ) → finite.get (pieces_in c p) n ≡ finite.get c.pieces (p, n)
  pub reference : (r : Path) → finite.contains_key x.references r ≡ finite.contains_key c.refs (p, r)
  pub output : (name : List ℕ) → finite.get x.outputs name ≡ finite.get c.outs (p, name)
  pub deriver : x.deriver ≡ o.deriver
  pub address : (ca : ContentAddress) → (x.ca ≡ Some ca)
      ↔ ((text : List ℕ) × (o.ca ≡ Some text) × IsAddressText ca text)

-- what a profile is: a generation for each row of `generation` that has its owner and its name
pub record DescribesProfile (c : Rows) (owner name : List ℕ) (x : Profile) : Type 0 where
  pub generation : (n : ℕ) → finite.get x.generations n ≡ finite.get c.generations (owner, name, pos n)
  pub current : finite.get c.profiles (owner, name) ≡ Some (pos x.current)

-- the world of sound rows, entry by entry
pub record DescribesWorld (c : Rows) (w : World) : Type 0 where
  pub no_object : (p : Path) → finite.get c.objects p ≡ None → finite.get w.objects p ≡ None
  pub object : (p : Path) (o : Stored) → finite.get c.objects p ≡ Some o
      → (x : Object) × (finite.get w.objects p ≡ Some x) × DescribesObject c p o x
  pub no_profile : (owned : Pair) → finite.get c.profiles owned ≡ None → finite.get w.profiles owned ≡ None
  pub profile : (owner name : List ℕ) → IsTrue (finite.contains_key c.profiles (owner, name))
      → (x : Profile) × (finite.get w.profiles (owner, name) ≡ Some x) × DescribesProfile c owner name x
  pub permanent : (name : List ℕ) → finite.get w.permanent name ≡ finite.get c.permanent name
  pub user_root : (owned : Pair) → finite.get w.user_roots owned ≡ finite.get c.user_roots owned
  pub runtime : (pair : Pair) → finite.contains_key w.runtime pair ≡ finite.contains_key c.runtime pair
  pub temporary : (t : Temporary)
      → finite.contains_key w.temporary t ≡ finite.contains_key c.temp_roots (t.owner, pos t.session, t.path)

abbrev pub RowsDescribeTheWorld : Type 0
RowsDescribeTheWorld =
    (schema : Schema) (dir : List ℕ) (c : Rows) → IsSoundRows schema dir c → DescribesWorld c (world_of c)

-- What the store's tables hold is the rows, each table its own, and they have the world of these.
pub record AreRowsOf (c : Contents) (r : Rows) : Type 0 where
  pub meta : r.meta ≡ c.meta
  pub objects : r.objects ≡ c.objects
  pub refs : r.refs ≡ c.refs
  pub outs : r.outs ≡ c.outs
  pub permanent : r.permanent ≡ c.permanent
  pub user_roots : r.user_roots ≡ c.user_roots
  pub profiles : r.profiles ≡ c.profiles
  pub generations : r.generations ≡ c.generations
  pub runtime : r.runtime ≡ c.runtime
  pub pieces : r.pieces ≡ c.pieces
  pub temp_roots : r.temp_roots ≡ c.temp_roots
  pub world : world_in c ≡ world_of r

abbrev pub TablesAreRows : Type 0
TablesAreRows = (c : Contents) → AreRowsOf c (rows_of c)

-- rows that are sound by a schema are sound by the third once they are migrated, and have the same world
abbrev pub MigratesSoundly : Type 0
MigratesSoundly = (schema : Schema) (dir : List ℕ) (c : Rows) → IsSoundRows schema dir c
    → IsSoundRows V3 dir (migrated schema dir c) × (world_of (migrated schema dir c) ≡ world_of c)

-- What an object records: nothing where its name doesn't end in `.drv`; else, of its derivation text, each output that
-- has a path, with that path by its name, and no other.
pub record RecordsOutputs (dir : List ℕ) (p : Path) (nar : List ℕ) : Type 0 where
  pub none : IsFalse (is_derivation p) → outputs_at dir p nar ≡ finite.empty
  pub of : IsTrue (is_derivation p) → (executable : Bool) (contents : List ℕ) (found : List (List ℕ × Path))
      → IsArchive (regular executable contents) nar → Records dir contents found
      → (name : List ℕ) (base : Path) → (finite.get (outputs_at dir p nar) name ≡ Some base)
      ↔ Contains found (name, base)

abbrev pub OutputsAreRecorded : Type 0
OutputsAreRecorded = (dir : List ℕ) (p : Path) (nar : List ℕ) → RecordsOutputs dir p nar
