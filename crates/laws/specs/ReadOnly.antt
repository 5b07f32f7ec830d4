-- Laws of answers that change nothing: a record and an archive, listings, roots, the report.
use Rattle.std.specs.Prelude.{◌≡◌, ◌↔◌, ℕ, ◌+◌, List, length, codes, Some, IsTrue, IsFalse, Contains}
use Rattle.std.specs.List.Sorted.{IsStrictlySortedBy}
use Rattle.std.specs.FinMap as finite
use Rattle.sha2.specs.Sha256.{sha256}
use Rattle.nar.specs.Tree.{Tree}
use Rattle.nar.specs.Archive.{IsArchive}
use Rattle.nar.specs.Listing.{listing}
use Rattle.paths.specs.Root.{bytes_cmp, Root, root_cmp}
use Rattle.live.specs.Reach.{Reaches}
use Rattle.model.specs.World.{Path, Object, World, has, roots_of}
use Rattle.model.specs.Sound.{IsSound}
use Rattle.policy.specs.Settings.{Settings}
use Rattle.policy.specs.Caller.{Caller}
use Rattle.policy.specs.Class.{class_of}
use Rattle.model.specs.Request.{Request, info, nar, ls, list, list_live, list_dead, list_roots, list_roots_of, report}
use Rattle.model.specs.Reply.{Info, Answer, Reply, record_of, archive_of, listing_of, paths, roots, usage, done}
use Rattle.model.specs.Liveness.{graph_of, keep_of, lives}
use Rattle.model.specs.Seen.{seen}
use Rattle.model.specs.Step.{Step}
use Rattle.model.specs.Reply.{IsDone}
use Rattle.laws.specs.Changes.{Submitted, Weigh}

-- ---- nothing changes

-- the request is for a record, an archive, a listing or the report
abbrev pub OnlyReads : Request → Type 0
OnlyReads (info p) = Unit {0}
OnlyReads (nar p) = Unit {0}
OnlyReads (ls p) = Unit {0}
OnlyReads list = Unit {0}
OnlyReads list_live = Unit {0}
OnlyReads list_dead = Unit {0}
OnlyReads list_roots = Unit {0}
OnlyReads (list_roots_of p) = Unit {0}
OnlyReads report = Unit {0}
OnlyReads _ = ⊥

-- a request that only reads changes nothing
abbrev pub ReadingChangesNothing : Type 0
ReadingChangesNothing =
    (s : Settings) (w : World) (c : Caller) (q : Request) (reply : Reply) (new : World) → Step s w c q reply new
    → OnlyReads q → new ≡ w

-- ---- objects

-- a record says exactly what an object has: each reference once, in the order of paths
pub record ReportsObject (p : Path) (o : Object) (a : Answer) : Type 0 where
  pub record_ : Info
  pub reported : a ≡ record_of record_
  pub path : record_.path ≡ p
  pub hash : record_.hash ≡ sha256 o.nar
  pub size : record_.size ≡ length o.nar
  pub references : (r : Path) → Contains record_.references r ↔ IsTrue (finite.contains_key o.references r)
  pub in_order : IsStrictlySortedBy bytes_cmp record_.references
  pub deriver : record_.deriver ≡ o.deriver
  pub ca : record_.ca ≡ o.ca

abbrev pub RecordsAreExact : Type 0
RecordsAreExact =
    (s : Settings) (w : World) (c : Caller) (p : Path) (a : Answer) (new : World) → Step s w c (info p) (done a) new
    → (o : Object) × (finite.get w.objects p ≡ Some o) × ReportsObject p o a

-- an archive that is answered is the object's
abbrev pub ArchivesAreTheObjects : Type 0
ArchivesAreTheObjects =
    (s : Settings) (w : World) (c : Caller) (p : Path) (a : Answer) (new : World) → Step s w c (nar p) (done a) new
    → (o : Object) × (finite.get w.objects p ≡ Some o) × (a ≡ archive_of o.nar)

-- a listing that is answered is that of the tree of which the object's archive is
abbrev pub ListingsAreTheObjects : Type 0
ListingsAreTheObjects =
    (s : Settings) (w : World) (c : Caller) (p : Path) (a : Answer) (new : World) → IsSound s.store_dir w
    → Step s w c (ls p) (done a) new
    → (o : Object) × (t : Tree) × (finite.get w.objects p ≡ Some o) × IsArchive t o.nar
    × (a ≡ listing_of (listing (codes ".") t))

-- a record says exactly what was passed
pub record ReportsSubmitted (h : Submitted) (a : Answer) : Type 0 where
  pub record_ : Info
  pub reported : a ≡ record_of record_
  pub path : record_.path ≡ h.path
  pub hash : record_.hash ≡ sha256 h.nar
  pub size : record_.size ≡ length h.nar
  pub references : (r : Path) → Contains record_.references r ↔ Contains h.references r
  pub in_order : IsStrictlySortedBy bytes_cmp record_.references
  pub deriver : record_.deriver ≡ h.deriver
  pub ca : record_.ca ≡ h.ca

-- after an add that is done of a path that wasn't valid the record says what was passed
abbrev pub RecordsAdds : Settings → Request → Submitted → Type 0
RecordsAdds s q h =
    (w : World) (c : Caller) (reply : Reply) (mid : World) → Step s w c q reply mid → IsDone reply
    → IsFalse (has w h.path)
    → (next : Caller) (a : Answer) (last : World) → Step s mid next (info h.path) (done a) last → ReportsSubmitted h a

-- ---- listings

-- the paths of which something holds, in order and each once
pub record ListsExactly (Holds : Path → Type 0) (a : Answer) : Type 0 where
  pub listed : List Path
  pub reported : a ≡ paths listed
  pub exactly : (p : Path) → Contains listed p ↔ Holds p
  pub in_order : IsStrictlySortedBy bytes_cmp listed

-- the valid paths; those that live; and those that are valid and don't
pub record PathsAreListed (s : Settings) (w : World) (c : Caller) : Type 0 where
  pub all : (a : Answer) (new : World) → Step s w c list (done a) new → ListsExactly (λ p. IsTrue (has w p)) a
  pub live : (a : Answer) (new : World) → Step s w c list_live (done a) new → ListsExactly (λ p. IsTrue (lives s w p)) a
  pub dead : (a : Answer) (new : World) → Step s w c list_dead (done a) new
      → ListsExactly (λ p. IsTrue (has w p) × IsFalse (lives s w p)) a

abbrev pub ListingsAreExact : Type 0
ListingsAreExact = (s : Settings) (w : World) (c : Caller) → PathsAreListed s w c

-- the roots of which something holds, in order and each once, as the caller sees them
pub record ShowsExactly (s : Settings) (c : Caller) (Holds : Root → Type 0) (a : Answer) : Type 0 where
  pub shown : List Root
  pub reported : a ≡ roots (seen (class_of s c) shown)
  pub exactly : (r : Root) → Contains shown r ↔ Holds r
  pub in_order : IsStrictlySortedBy root_cmp shown

-- all roots; and of a path those that reach it
pub record RootsAreListed (s : Settings) (w : World) (c : Caller) : Type 0 where
  pub all : (a : Answer) (new : World) → Step s w c list_roots (done a) new
      → ShowsExactly s c (λ r. Contains (roots_of w) r) a
  pub of : (p : Path) (a : Answer) (new : World) → Step s w c (list_roots_of p) (done a) new
      → ShowsExactly s c (λ r. Contains (roots_of w) r × Reaches (keep_of s) (graph_of w) r.target p) a

abbrev pub RootListingsAreExact : Type 0
RootListingsAreExact = (s : Settings) (w : World) (c : Caller) → RootsAreListed s w c

-- ---- the report

-- the paths that live and the dead ones, each with the bytes of their archives, and their sums, in this order
pub record ReportsUsage (s : Settings) (w : World) (a : Answer) : Type 0 where
  pub live : List Path
  pub dead : List Path
  pub live_bytes : ℕ
  pub dead_bytes : ℕ
  pub reported : a
      ≡ usage (record { paths = length live; bytes = live_bytes }) (record { paths = length dead; bytes = dead_bytes })
      (record { paths = length live + length dead; bytes = live_bytes + dead_bytes })
  pub is_live : (p : Path) → Contains live p ↔ IsTrue (lives s w p)
  pub is_dead : (p : Path) → Contains dead p ↔ (IsTrue (has w p) × IsFalse (lives s w p))
  pub live_weight : Weigh w live live_bytes
  pub dead_weight : Weigh w dead dead_bytes

abbrev pub ReportsAreExact : Type 0
ReportsAreExact =
    (s : Settings) (w : World) (c : Caller) (a : Answer) (new : World) → Step s w c report (done a) new
    → ReportsUsage s w a
