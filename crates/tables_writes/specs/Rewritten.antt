-- Rows that are added, one after another, and rows that are deleted.
use Rattle.std.specs.Prelude.{⊤, ◌≡◌, ◌<◌, List, [], ◌∷◌, ℕ, ℤ, false, not, pos, Some, None, IsTrue}
use Rattle.std.specs.declared.cmp.Ordering.{Ordering}
use Rattle.std.specs.FinMap as finite
use Rattle.std.specs.List.{AllByRecursion}
use Rattle.std.specs.Ordering.{eq_by_cmp}
use Rattle.live.specs.Graph.{same, holds}
use Rattle.tables_sql.specs.Contents.{Pair, PairSet, Contents, Stored, pair_cmp, numbered_cmp}
use Rattle.model.specs.World.{Path}
use Rattle.model.specs.World as world
use Rattle.tables_world.specs.Pieces.{piece_size}
use Rattle.tables_outline.specs.Outline.{OutlineValue, Outlined}

-- a set of references, and some of this path
abbrev pub put_references : Path → List Path → PairSet → PairSet
put_references p [] m = m
put_references p (r ∷ rs) m = put_references p rs (finite.insert m (p, r) tt)

-- entries whose keys begin with a path, and some of this path
abbrev pub put_part : {L X : Type 0} {R : Path × L → Path × L → Ordering} → Path → List (L × X) → finite.FinMap R X
    → finite.FinMap R X
put_part p [] m = m
put_part p (e ∷ es) m = put_part p es (finite.insert m (p, e.0) e.1)

-- outputs, and some of this path
abbrev pub put_outputs : Path → List (List ℕ × Path) → finite.FinMap pair_cmp Path → finite.FinMap pair_cmp Path
put_outputs = put_part

-- pieces, and some of this path's archive
abbrev pub put_pieces : Path → List (ℤ × List ℕ) → finite.FinMap numbered_cmp (List ℕ)
    → finite.FinMap numbered_cmp (List ℕ)
put_pieces = put_part

-- the rows of an object: its own, and those of its references, its outputs and the further pieces of its archive
abbrev pub put_object : Path → Stored → List Path → List (List ℕ × Path) → List (ℤ × List ℕ) → Contents → Contents
put_object p o references outputs pieces c = record c {
  objects = finite.insert c.objects p o;
  refs = put_references p references c.refs;
  outs = put_outputs p outputs c.outs;
  pieces = put_pieces p pieces c.pieces;
}

-- no row belongs to an object of this path
pub record HasNoObject (p : Path) (c : Contents) : Type 0 where
  pub object : finite.get c.objects p ≡ None
  pub references : (r : Path) → finite.get c.refs (p, r) ≡ None
  pub outputs : (name : List ℕ) → finite.get c.outs (p, name) ≡ None
  pub pieces : (n : ℤ) → finite.get c.pieces (p, n) ≡ None

-- keys in an order, each different from those after it
abbrev pub AreDistinct : {K : Type 0} → (K → K → Ordering) → List K → Type 0
AreDistinct R [] = ⊤
AreDistinct R (k ∷ ks) = AllByRecursion (λ j. eq_by_cmp R j k ≡ false) ks × AreDistinct R ks

-- distinct keys, none of which a map has
pub record AreFree {K X : Type 0} {R : K → K → Ordering} (m : finite.FinMap R X) (ks : List K) : Type 0 where
  pub distinct : AreDistinct R ks
  pub free : AllByRecursion (λ k. finite.get m k ≡ None) ks

-- a set of pairs, and some more
abbrev pub put_pairs : List Pair → PairSet → PairSet
put_pairs [] m = m
put_pairs (p ∷ ps) m = put_pairs ps (finite.insert m p tt)

-- the rows of a profile with a path at a number, and with this current number
abbrev pub put_generation : world.Pair → ℕ → Path → ℕ → Contents → Contents
put_generation owned n t current c =
    record c {
      profiles = finite.insert c.profiles owned (pos current);
      generations = finite.insert c.generations (owned.0, owned.1, pos n) t;
    }

-- the rows without those of one path's object
abbrev pub without_object : Path → Contents → Contents
without_object p c = record c {
  objects = finite.retain_keys c.objects (λ k. not (same k p));
  refs = finite.retain_keys c.refs (λ k. not (same k.0 p));
  outs = finite.retain_keys c.outs (λ k. not (same k.0 p));
  pieces = finite.retain_keys c.pieces (λ k. not (same k.0 p));
}

-- the rows without those of the objects of some paths
abbrev pub without_objects : List Path → Contents → Contents
without_objects ps c = record c {
  objects = finite.retain_keys c.objects (λ k. not (holds ps k));
  refs = finite.retain_keys c.refs (λ k. not (holds ps k.0));
  outs = finite.retain_keys c.outs (λ k. not (holds ps k.0));
  pieces = finite.retain_keys c.pieces (λ k. not (holds ps k.0));
}

-- What rows have besides those of objects, an outline lists: each reference, output or further piece is an object's
-- that has this reference, this output, or more bytes of its archive than its row holds.
pub record Covers (outline : OutlineValue) (c : Contents) : Type 0 where
  pub references : (p r : Path) → IsTrue (finite.contains_key c.refs (p, r))
      → (x : Outlined) × (finite.get outline.objects p ≡ Some x) × IsTrue (finite.contains_key x.references r)
  pub outputs : (p : Path) (name : List ℕ) → IsTrue (finite.contains_key c.outs (p, name))
      → (x : Outlined) × (finite.get outline.objects p ≡ Some x) × IsTrue (finite.contains_key x.outputs name)
  pub pieces : (p : Path) (n : ℤ) → IsTrue (finite.contains_key c.pieces (p, n))
      → (x : Outlined) × (finite.get outline.objects p ≡ Some x) × (piece_size < x.size)
