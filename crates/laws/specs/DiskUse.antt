-- Laws of what requests need of the disk.
use Rattle.std.specs.Prelude.{IsTrue, IsFalse}
use Rattle.model.specs.Disk.{reads_disk, touches_disk, puts_rows}
use Rattle.model.specs.Request.{Request, add_text, add_source, import_object, info, nar, ls, list, list_live, list_dead}
use Rattle.model.specs.Request.{list_roots, list_roots_of, set_permanent, drop_permanent, set_user_root, drop_user_root}
use Rattle.model.specs.Request.{set_profile, rollback, switch, delete_generation, replace_runtime, add_temp}
use Rattle.model.specs.Request.{end_session, collect, delete, report}
use Rattle.laws.specs.ReadOnly.{OnlyReads}

-- the request is for an archive or its listing
abbrev pub AsksForArchive : Request → Type 0
AsksForArchive (nar p) = Unit {0}
AsksForArchive (ls p) = Unit {0}
AsksForArchive _ = ⊥

-- the request deletes, and adds nothing
abbrev pub OnlyDeletes : Request → Type 0
OnlyDeletes (add_text name refs contents) = ⊥
OnlyDeletes (add_source name refs b) = ⊥
OnlyDeletes (import_object i) = ⊥
OnlyDeletes (info p) = ⊥
OnlyDeletes (nar p) = ⊥
OnlyDeletes (ls p) = ⊥
OnlyDeletes list = ⊥
OnlyDeletes list_live = ⊥
OnlyDeletes list_dead = ⊥
OnlyDeletes list_roots = ⊥
OnlyDeletes (list_roots_of p) = ⊥
OnlyDeletes (set_permanent name p) = ⊥
OnlyDeletes (drop_permanent name) = Unit {0}
OnlyDeletes (set_user_root owner name p) = ⊥
OnlyDeletes (drop_user_root owner name) = Unit {0}
OnlyDeletes (set_profile owner name p) = ⊥
OnlyDeletes (rollback owner name) = ⊥
OnlyDeletes (switch owner name n) = ⊥
OnlyDeletes (delete_generation owner name n) = Unit {0}
OnlyDeletes (replace_runtime pairs) = ⊥
OnlyDeletes (add_temp owner session p) = ⊥
OnlyDeletes (end_session owner session) = Unit {0}
OnlyDeletes (collect ignores limit) = Unit {0}
OnlyDeletes (delete named ignores) = Unit {0}
OnlyDeletes report = ⊥

-- What a request needs of the disk.
pub record UsesDisk (q : Request) : Type 0 where
  -- what only reads, and asks for no archive, is answered from memory alone
  pub memory : OnlyReads q → (AsksForArchive q → ⊥) → IsFalse (touches_disk q)
  -- what is answered from the disk asks for an archive
  pub archives : IsTrue (reads_disk q) → AsksForArchive q
  -- all else touches the disk
  pub others : (OnlyReads q → ⊥) → IsTrue (touches_disk q)
  -- what puts rows neither reads alone nor deletes alone
  pub puts : IsTrue (puts_rows q) → (OnlyReads q → ⊥) × (OnlyDeletes q → ⊥)

abbrev pub DiskIsUsedForAReason : Type 0
DiskIsUsedForAReason = (q : Request) → UsesDisk q
