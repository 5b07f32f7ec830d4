-- Laws of adds, deletions and collections that are done: exactly what comes, what is deleted, and what is answered.
use Rattle.std.specs.Prelude.{◌≡◌, ◌↔◌, ℕ, ◌+◌, false, Bool, List, [], ◌∷◌, length, Option, Some, None, IsTrue, IsFalse}
use Rattle.std.specs.Prelude.{Contains}
use Rattle.std.specs.List.Sorted.{IsStrictlySortedBy}
use Rattle.std.specs.FinMap as finite
use Rattle.nar.specs.Tree.{regular}
use Rattle.nar.specs.Archive.{archive, spelling}
use Rattle.paths.specs.Root.{bytes_cmp}
use Rattle.paths.specs.Path.{text_path, source_path}
use Rattle.paths.specs.ContentAddress.{ContentAddress, text_address, source_address}
use Rattle.live.specs.Laws.{RefersToAny}
use Rattle.model.specs.World.{Path, Object, World, has}
use Rattle.model.specs.Objects.{outputs_at}
use Rattle.policy.specs.Settings.{Settings}
use Rattle.policy.specs.Caller.{Caller}
use Rattle.model.specs.Request.{Imported, Request, delete}
use Rattle.model.specs.Reply.{Answer, Reply, path, freed, done}
use Rattle.model.specs.Liveness.{graph_of}
use Rattle.model.specs.Step.{Step}
use Rattle.model.specs.Reply.{IsDone}
use Rattle.model.specs.Collection.{KeepsRoots}

-- ---- adds

-- what an add passes: a path, references in any order and perhaps twice, a deriver and an address if there are, an
-- archive
pub record Submitted : Type 0 where
  pub path : Path
  pub references : List Path
  pub deriver : Option Path
  pub ca : Option ContentAddress
  pub nar : List ℕ

-- with a text: the archive of the file with these contents that isn't executable
abbrev pub with_text : List ℕ → List ℕ → List Path → List ℕ → Submitted
with_text dir name refs contents =
    record {
      path = text_path dir name refs contents;
      references = refs;
      deriver = None;
      ca = Some (text_address contents);
      nar = spelling (archive (regular false contents));
    }

-- with an archive
abbrev pub with_source : List ℕ → List ℕ → List Path → List ℕ → Submitted
with_source dir name refs nar =
    record {
      path = source_path dir name refs nar;
      references = refs;
      deriver = None;
      ca = Some (source_address nar);
      nar = nar;
    }

-- with an object: all that is given
abbrev pub with_import : Imported → Submitted
with_import i = record { path = i.path; references = i.refs; deriver = i.deriver; ca = i.ca; nar = i.nar }

-- the object that was passed: the same archive, references, deriver and address, and the outputs that the archive
-- records
pub record IsAsSubmitted (dir : List ℕ) (a : Submitted) (o : Object) : Type 0 where
  pub nar : o.nar ≡ a.nar
  pub references : (r : Path) → IsTrue (finite.contains_key o.references r) ↔ Contains a.references r
  pub deriver : o.deriver ≡ a.deriver
  pub ca : o.ca ≡ a.ca
  pub outputs : o.outputs ≡ outputs_at dir a.path a.nar

-- From the one world to the other its object came: none where the path was valid already, and else this one alone; each
-- other object, and all roots and profiles, are as they were.
pub record Gains (dir : List ℕ) (a : Submitted) (w new : World) : Type 0 where
  pub present : IsTrue (has w a.path) → new ≡ w
  pub fresh : IsFalse (has w a.path) → (o : Object) × (finite.get new.objects a.path ≡ Some o) × IsAsSubmitted dir a o
  pub others : (p : Path) → (p ≡ a.path → ⊥) → finite.get new.objects p ≡ finite.get w.objects p
  pub roots : KeepsRoots w new

-- an add that is done answers the path, and gains what was passed
abbrev pub AddsExactly : Settings → Request → Submitted → Type 0
AddsExactly s q a = (w : World) (c : Caller) (reply : Reply) (new : World) → Step s w c q reply new → IsDone reply
    → (reply ≡ done (path a.path)) × Gains s.store_dir a w new

-- ---- deletions

-- From the one world to the other exactly those were deleted that reach one of the named by references, named or not;
-- each other object, and all roots and profiles, are as they were.
pub record DeletesExactly (named : List Path) (w new : World) : Type 0 where
  pub deleted : (p : Path) → RefersToAny (graph_of w) named p → IsFalse (has new p)
  pub kept : (p : Path) → (RefersToAny (graph_of w) named p → ⊥) → finite.get new.objects p ≡ finite.get w.objects p
  pub roots : KeepsRoots w new

-- a deletion that is done deletes exactly
abbrev pub Deletes : Type 0
Deletes = (s : Settings) (w : World) (c : Caller) (named : List Path) (ignores : Bool) (reply : Reply) (new : World)
    → Step s w c (delete named ignores) reply new → IsDone reply → DeletesExactly named w new

-- ---- what is said to be freed

-- a number is the sum of the bytes of the archives at these paths, all of them valid
abbrev pub Weigh : World → List Path → ℕ → Type 0
Weigh w [] n = n ≡ 0
Weigh w (p ∷ ps) n =
    (o : Object) × (rest : ℕ) × (finite.get w.objects p ≡ Some o) × Weigh w ps rest × (n ≡ length o.nar + rest)

-- The answer is exactly what was deleted: in order and each once, the paths that were valid before and aren't after,
-- and the bytes of their archives. What is left is as it was.
pub record ReportsDeleted (w new : World) (a : Answer) : Type 0 where
  pub removed : List Path
  pub bytes : ℕ
  pub reported : a ≡ freed removed bytes
  pub listed : (p : Path) → Contains removed p ↔ (IsTrue (has w p) × IsFalse (has new p))
  pub in_order : IsStrictlySortedBy bytes_cmp removed
  pub weight : Weigh w removed bytes
  pub left : (p : Path) → IsTrue (has new p) → finite.get new.objects p ≡ finite.get w.objects p

-- a request that is done is answered by what was deleted
abbrev pub FreesAsReported : Settings → Request → Type 0
FreesAsReported s q =
    (w : World) (c : Caller) (a : Answer) (new : World) → Step s w c q (done a) new → ReportsDeleted w new a
