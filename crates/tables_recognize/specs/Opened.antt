-- What opening a connection says of it, and why a file isn't opened.
use Rattle.std.specs.Prelude.{◌≡◌, ◌≢◌, ◌↔◌, ◌⊎◌, ⊤, Bool, true, false, ℕ, ℤ, List, map, codes, Option, Some, None}
use Rattle.std.specs.Prelude.{IsTrue}
use Rattle.std.specs.List.{AllByRecursion, IsDistinct}
use Rattle.std.specs.Ordering.{eq_by_cmp, int_cmp}
use Rattle.sqlite_value.specs.declared.value.Value.TheVariants.{Int}
use Rattle.sqlite_value.specs.Order.{Row, column}
use Rattle.sqlite_disk.specs.declared.Disk as disk
use Rattle.sqlite_disk.specs.declared.calls.Calls as calls
use Rattle.sqlite_disk.specs.declared.modelled.Modelled.{Modelled}
use Rattle.sqlite_disk.specs.declared.start.Start.{Ghosts}
use Rattle.std.specs.IoError.{error_kind}
use Rattle.std.specs.declared.io.ErrorKind.TheVariants as kind
use Rattle.sqlite_std_file.specs.declared.pair.OpenError.{OpenError}
use Rattle.sqlite_std_file.specs.declared.pair.OpenError.TheVariants as host
use Rattle.sqlite_std_file.specs.File.{IsFresh}
use Rattle.sqlite_std_file.specs.declared.host.Host.{Host}
use Rattle.sqlite_wal.specs.Recovery.{Image}
use Rattle.sqlite_schema.specs.declared.schema.Schema.{Schema}
use Rattle.sqlite_store.specs.FileStore.{view}
use Rattle.sqlite_store.specs.declared.store.FileStore.{FileStore}
use Rattle.sqlite.specs.Effect.{Database}
use Rattle.sqlite.specs.State.{State, HasCleanDisk, Survives}
use Rattle.sqlite.specs.Held.{Held, IsNew}
use Rattle.sqlite.specs.Start.{FindsIn}
use Rattle.sqlite.specs.Opening.{is_open_error}
use Rattle.sqlite.specs.Files.{file_state, IsOpened, IsBlankAs, IsCleanLeft, FailsToOpenFiles, LeavesFiles}
use Rattle.sqlite.specs.declared.file.Leftover.{Leftover}
use Rattle.sqlite.specs.declared.error.Error.{Error}
use Rattle.sqlite.specs.declared.error.Error.TheVariants.{SqliteFailure}
use Rattle.sqlite.specs.declared.error.ErrorCode.TheVariants.{CannotOpen, OutOfMemory, DatabaseBusy}
use Rattle.paths.specs.Names.{begins}
use Rattle.tables_sql.specs.declared.failure.Failed.{Failed}
use Rattle.tables_sql.specs.declared.failure.Failed.TheVariants.{Memory}
use Rattle.tables_recognize.specs.declared.file.UnopenedFile.{UnopenedFile}
use Rattle.tables_recognize.specs.declared.file.UnopenedFile.TheVariants.{Unfound, Refused, Unreadable}
use Rattle.tables_schema.specs.declared.recognition.Recognised.{Recognised}
use Rattle.tables_schema.specs.declared.recognition.Recognised.TheVariants.{Nothing, Tables, Other}
use Rattle.tables_schema.specs.declared.schema.Schema.TheVariants.{V1, V2, V3}
use Rattle.tables_schema.specs.Intact.{IsIntact}
use Rattle.tables_schema.specs.Presence.{HasNone, HasFirst, HasSecond, HasThird}
use Rattle.tables_schema.specs.Forms.{piece, all_tables}
use Rattle.tables_sql.specs.Contents.{contents_of, rows_named}
use Rattle.tables_sql.specs.Texts.{AreReadable}
use Rattle.tables_sql.specs.Calls.{IsKeyed, IsWhole, HasFurther, IsReady, KeepsShown}
use Rattle.tables_sql.specs.Failures.{opening_failure, FailsToTest}

-- The error of `sqlite` for an error of the host at opening: out of memory if it says so, busy if another program has
-- the file open, else that the file can't be opened.
abbrev pub IsOpeningError : OpenError → Error → Type 0
IsOpeningError host.OutOfMemory e = e ≡ SqliteFailure OutOfMemory
IsOpeningError host.Busy e = e ≡ SqliteFailure DatabaseBusy
IsOpeningError host.HotJournal e = e ≡ SqliteFailure CannotOpen
IsOpeningError (host.Io fault) e =
    ((error_kind fault ≡ kind.OutOfMemory) × (e ≡ SqliteFailure OutOfMemory))
    ⊎ ((error_kind fault ≢ kind.OutOfMemory) × (e ≡ SqliteFailure CannotOpen))

-- a path that is a URI for SQLite, and names no file here: it begins with `file:`
abbrev pub is_uri : List ℕ → Bool
is_uri path = begins path (codes "file:")

-- by which schema the store's tables are there, if they are
pub record IsRecognised (r : Recognised) (s : Schema) : Type 0 where
  pub nothing : r ≡ Nothing ↔ HasNone s
  pub first : r ≡ Tables V1 ↔ HasFirst s
  pub second : r ≡ Tables V2 ↔ HasSecond s
  pub third : r ≡ Tables V3 ↔ HasThird s

-- by which schema the database has the store's tables, with texts that can be read; or it has none of them, or is
-- something else
pub record IsBySchema (r : Recognised) (db : Database) : Type 0 where
  pub nothing : r ≡ Nothing ↔ HasNone db.schema
  pub first : r ≡ Tables V1 ↔ HasFirst db.schema × AreReadable (contents_of db)
  pub second : r ≡ Tables V2 ↔ HasSecond db.schema × AreReadable (contents_of db)
  pub third : r ≡ Tables V3 ↔ HasThird db.schema × AreReadable (contents_of db)

-- where the store's tables are there by a schema the connection is ready, and the further tables of that schema can be
-- read and written too
abbrev pub IsReadyBy : Recognised → State → Type 0
IsReadyBy Nothing s = ⊤
IsReadyBy (Tables V1) s = IsReady s
IsReadyBy (Tables V2) s = IsReady s × HasFurther s.now piece
IsReadyBy (Tables V3) s = IsReady s × IsWhole s.now
IsReadyBy Other s = ⊤

-- what the database has of the store's tables was found; if it holds the tables of a schema, it is ready
pub record IsFound (r : Recognised) (s : State) : Type 0 where
  pub by_schema : IsBySchema r s.now
  pub ready : IsReadyBy r s
  pub settled : s.now ≡ s.committed

-- what the rows show first are integers that differ
abbrev pub ShowIds : List Row → Type 0
ShowIds rows = (ids : List ℤ) × (map (λ row. column row 0) rows ≡ map Int ids) × IsDistinct (eq_by_cmp int_cmp) ids

-- the store's tables are there by one of the schemas, and in one of those that are there two rows share a rowid or a
-- rowid is no integer
abbrev pub HasUnkeyed : Database → Type 0
HasUnkeyed db =
    (HasFirst db.schema ⊎ (HasSecond db.schema ⊎ HasThird db.schema))
    × ¬ AllByRecursion (λ t. IsIntact db.schema t → IsKeyed (rows_named db t.name)) all_tables

-- Why opening failed. That is what its test may have found.
abbrev pub FailsToOpen : State → State → Failed → Type 0
FailsToOpen old new = FailsToTest old new (HasUnkeyed old.now)

module _ {D : Type 0} {g : disk.Ghosts D} where
  -- all that `sqlite` says of a connection that it opened over files which held this
  pub record IsOpenedOver (held : Image) (conn : Held (FileStore D g)) : Type 0 where
    pub fresh : IsNew conn
    pub opened : HasCleanDisk (file_state conn) → IsOpened conn
    pub found : HasCleanDisk (file_state conn) → FindsIn held (file_state conn)
    pub sums : HasCleanDisk (file_state conn) → IsBlankAs false held → (view conn.store).has_sums ≡ false
    pub guarded : HasCleanDisk (file_state conn) → (file_state conn).IsShielded

  -- `sqlite` opened it over files which held this, and it is as it was
  pub record IsAsOpened (held : Image) (was now : Held (FileStore D g)) : Type 0 where
    pub opened : IsOpenedOver held was
    pub idle : now.in_transaction ≡ false
    pub same : HasCleanDisk (file_state now) → KeepsShown (file_state was) (file_state now)
    pub survives : Survives (file_state was) (file_state now) (λ _. ⊥)

-- Why no files were opened at a path: out of memory, or no failure, whatever is there. That is all that `sqlite` says.
abbrev pub IsUnfound : Option Failed → Type 0
IsUnfound failure = (failure ≡ None) ⊎ (failure ≡ Some Memory)

module _ {S : Type 0} {c : calls.Ghosts Host} {start : Ghosts S} {g : disk.Ghosts (Modelled Host S c start)} where
  -- all that `sqlite` says of an error of a connection to files that were opened, and of what is left of them
  abbrev pub Refuses : Error → Leftover (Modelled Host S c start) g → Type 0
  Refuses e left =
      IsTrue (is_open_error e)
      × ((files : _) × IsFresh true files.log × IsFresh false files.db
      × (IsCleanLeft left → FailsToOpenFiles files left e × LeavesFiles files left))

  -- Why files that held this weren't opened: there were none at the path; `sqlite` refused them for an error, of which
  -- this is the failure; or it opened them, and what they hold of the store's tables can't be read.
  abbrev pub FailsToOpenFile : Image → UnopenedFile (FileStore (Modelled Host S c start) g) (Modelled Host S c start) g
      → Type 0
  FailsToOpenFile held (Unfound it) = IsUnfound it.failure
  FailsToOpenFile held (Refused failure left) = (e : Error) × (failure ≡ opening_failure e) × Refuses e left
  FailsToOpenFile held (Unreadable it) =
      (was : _) × IsAsOpened held was it.conn
      × (HasCleanDisk (file_state it.conn) → FailsToOpen (file_state was) (file_state it.conn) it.failure)
