-- How a file is opened as a store, or isn't.
use Rattle.std.specs.Prelude.{◌≡◌, ℕ, false, List, IsTrue}
use Rattle.tables_recognize.specs.Disk as disk
use Rattle.tables_recognize.specs.DiskCalls as calls
use Rattle.tables_recognize.specs.Modelled.{Modelled}
use Rattle.tables_recognize.specs.DiskStart.{Ghosts}
use Rattle.sqlite_std_file.specs.declared.host.Host.{Host}
use Rattle.sqlite_wal.specs.Recovery.{Image}
use Rattle.sqlite_store.specs.declared.store.FileStore.{FileStore}
use Rattle.sqlite.specs.State.{HasCleanDisk, Survives}
use Rattle.sqlite.specs.Held.{Held}
use Rattle.sqlite.specs.Start.{FindsIn}
use Rattle.sqlite.specs.Files.{over_files, file_state}
use Rattle.tables_sql.specs.Calls.{IsDurable, KeepsShown}
use Rattle.tables_recognize.specs.Opened.{IsAsOpened, FailsToOpenFile}
use Rattle.tables_writes.specs.TablesValue.{TablesValue}
use Rattle.tables.specs.declared.unopened.Cause.{Cause}
use Rattle.tables.specs.declared.unopened.Unopened.{Unopened}
use Rattle.tables.specs.declared.unopened.Unopened.TheVariants.{File, Store}
use Rattle.tables.specs.Opening.{OpensStore, LeavesOpening, IsCause}

module _ {D : Type 0} {g : disk.Ghosts D} where
  -- The files held this, a connection opened over them, and it was opened as the store of a directory.
  pub record Opens (held : Image) (dir : List ℕ) (t : TablesValue (FileStore D g)) : Type 0 where
    pub was : Held (FileStore D g)
    pub conn : Held (FileStore D g)
    pub opened : IsAsOpened held was conn
    pub found : HasCleanDisk (file_state t.connection) → FindsIn held (file_state conn)
    pub opens : HasCleanDisk (file_state t.connection) → OpensStore over_files dir (file_state conn).now t
    pub durable : IsTrue (file_state t.connection).is_open → IsDurable (file_state t.connection)
    pub survives : Survives (file_state conn) (file_state t.connection) (LeavesOpening dir (file_state conn).now)

  -- The files held this, a connection opened over them, and it isn't opened as the store of a directory, for this
  -- cause: it shows what it showed.
  pub record IsRefused (held : Image) (dir : List ℕ) (left : Held (FileStore D g)) (cause : Cause) : Type 0 where
    pub was : Held (FileStore D g)
    pub conn : Held (FileStore D g)
    pub opened : IsAsOpened held was conn
    pub found : HasCleanDisk (file_state left) → FindsIn held (file_state conn)
    pub because : HasCleanDisk (file_state left) → IsCause dir (file_state conn) (file_state left) cause
    pub idle : left.in_transaction ≡ false
    pub same : HasCleanDisk (file_state left) → KeepsShown (file_state conn) (file_state left)
    pub durable : IsTrue (file_state left).is_open → IsDurable (file_state left)
    pub survives : Survives (file_state conn) (file_state left) (LeavesOpening dir (file_state conn).now)

module _ {S : Type 0} {c : calls.Ghosts Host} {start : Ghosts S} {g : disk.Ghosts (Modelled Host S c start)} where
  -- Why files that held this aren't opened as a store: no connection is opened over them, or one is and the store
  -- isn't.
  abbrev pub IsUnopened : Image → List ℕ → Unopened (FileStore (Modelled Host S c start) g) (Modelled Host S c start) g
      → Type 0
  IsUnopened held dir (File e) = FailsToOpenFile held e
  IsUnopened held dir (Store e) = IsRefused held dir e.conn e.cause
