-- What is read of the archive of an object, what its listing is, and why an archive that was read can't be listed.
use Rattle.std.specs.Prelude.{◌≡◌, ℕ, List, Result, IfOk, IsOkAnd, IsTrue, codes}
use Rattle.sqlite_trees.specs.declared.store.Store.{Ghosts}
use Rattle.sqlite.specs.State.{HasCleanDisk}
use Rattle.sqlite.specs.Held.{state}
use Rattle.model.specs.World.{Path, World, has}
use Rattle.tables_writes.specs.Writes.{FailsToAsk}
use Rattle.tables_writes.specs.TablesValue.{TablesValue, HasWorld}
use Rattle.store_promises.specs.Meets.{OnlyReads}
use Rattle.nar.specs.Listing.{listing}
use Rattle.nar.specs.Tree.{Tree}
use Rattle.nar.specs.declared.error.NarError.{NarError}
use Rattle.tables_sql.specs.declared.failure.Failed.{Failed}
use Rattle.tables_sql.specs.declared.failure.Failed.TheVariants.{Memory, Size, Disk}

-- the bytes are an archive, and this is the listing of its tree
abbrev pub Lists : Result Tree NarError → List ℕ → Type 0
Lists outcome text = IsOkAnd outcome (λ tree. text ≡ listing (codes ".") tree)

-- memory ran out, or the disk gave back what is no archive
abbrev pub FailsToList : Failed → Result Tree NarError → Type 0
FailsToList Memory outcome = Unit {0}
FailsToList Size outcome = ⊥
FailsToList Disk outcome = IfOk outcome (λ tree. ⊥)

module _ {S : Type 0} (g : Ghosts S) where
  -- Something of the archive of an object was read, and the tables are as they were. Over a clean disk it is that of
  -- each world that they have.
  pub record ReadsArchive {A : Type 0} (path : Path) (result : Result A Failed) (is_of : A → World → Type 0)
      (old new : TablesValue S) : Type 0 where
    pub reads : OnlyReads g old new
    pub value : HasCleanDisk (state g new.connection) → IfOk result (λ a. (w : World) → HasWorld g old w → is_of a w)
    -- in a sound world an object has an archive
    pub cause : (w : World) → HasWorld g old w → IsTrue (has w path) → FailsToAsk g old new result
