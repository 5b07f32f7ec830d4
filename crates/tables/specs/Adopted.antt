-- What each call that opens a connection as a store requires of the connection, and what it promises.
use Rattle.std.specs.Prelude.{◌≡◌, ℕ, false, List, Result, IsTrue, IfOk, IfErr, OnOk, MatchResult}
use Rattle.sqlite_trees.specs.declared.store.Store.{Ghosts}
use Rattle.sqlite.specs.State.{State, HasCleanDisk, IsUnchanged, Survives}
use Rattle.sqlite.specs.Held.{Held, state}
use Rattle.tables_schema.specs.Presence.{HasNone}
use Rattle.tables_schema.specs.declared.recognition.Recognised.{Recognised}
use Rattle.tables_schema.specs.declared.schema.Schema.{Schema}
use Rattle.tables_sql.specs.Calls.{Remains, IsDurable, IsReady, KeepsShown}
use Rattle.tables_rows.specs.Frames.{LeftAsItWas}
use Rattle.tables_recognize.specs.Opened.{IsFound}
use Rattle.tables_writes.specs.TablesValue.{TablesValue}
use Rattle.tables.specs.Opening.{IsFoundBy, AreRead, IsCause}
use Rattle.tables.specs.declared.unopened.Cause.{Cause}
use Rattle.tables.specs.declared.unopened.Unadopted.{Unadopted}
use Rattle.tables.specs.declared.rows.Loaded.{Loaded}

module _ {S : Type 0} (g : Ghosts S) where
  -- no transaction is under way, and the store's tables are those of a schema
  pub record HasTables (schema : Schema) (conn : Held S) : Type 0 where
    pub idle : conn.in_transaction ≡ false
    pub ready : HasCleanDisk (state g conn) → IsReady (state g conn)
    pub found : HasCleanDisk (state g conn) → IsFoundBy schema (state g conn).now

  -- no transaction is under way, none of the store's tables exists, and the rest is committed
  pub record HasNoTables (conn : Held S) : Type 0 where
    pub idle : conn.in_transaction ≡ false
    pub none : HasCleanDisk (state g conn) → HasNone (state g conn).now.schema
    pub settled : HasCleanDisk (state g conn) → (state g conn).now ≡ (state g conn).committed

  -- no transaction is under way, and what was recognised of the store's tables is what the database has of them
  pub record IsRecognisedAs (recognised : Recognised) (conn : Held S) : Type 0 where
    pub idle : conn.in_transaction ≡ false
    pub found : HasCleanDisk (state g conn) → IsFound recognised (state g conn)

  -- The rows are read and tested by a schema. They are those of a directory, or there is a cause. Nothing changes.
  pub record ReadsStore (old new : Held S) (result : Result Loaded Cause) (schema : Schema) (named : List ℕ)
      : Type 0 where
    pub frame : LeftAsItWas g old new
    pub dir : IfOk result (λ r. r.dir ≡ named)
    pub reported : HasCleanDisk (state g new) → IfOk result (λ r. AreRead schema r.dir (state g old).now r.outline)
    pub unchanged : HasCleanDisk (state g new) → OnOk result (IsUnchanged (state g old) (state g new))
    pub cause : HasCleanDisk (state g new) → IfErr result (IsCause named (state g old) (state g new))

  -- A connection in a state is opened as the store of a directory, or isn't.
  pub record Adopts (named : List ℕ) (old : State) (result : Result (TablesValue S) (Unadopted S))
      (shows : TablesValue S → Type 0) (leaves : Remains → Type 0) : Type 0 where
    -- the tables are those of the directory
    pub dir : IfOk result (λ t. t.dir ≡ named)
    -- what they show of the database
    pub opens : IfOk result (λ t. HasCleanDisk (state g t.connection) → shows t)
    -- an error returns the connection outside a transaction
    pub idle : IfErr result (λ e. e.conn.in_transaction ≡ false)
    -- and it has a cause
    pub cause : IfErr result
        (λ e. HasCleanDisk (state g e.conn) → IsCause named old (state g e.conn) e.cause)
    -- the connection shows what it showed
    pub same : IfErr result (λ e. HasCleanDisk (state g e.conn) → KeepsShown old (state g e.conn))
    -- while the connection is open, a crash leaves what its last commit left
    pub durable : MatchResult result (λ t. IsTrue (state g t.connection).is_open → IsDurable (state g t.connection))
        (λ e. IsTrue (state g e.conn).is_open → IsDurable (state g e.conn))
    -- a crash leaves what it could leave before, or this
    pub survives : MatchResult result (λ t. Survives old (state g t.connection) leaves)
        (λ e. Survives old (state g e.conn) leaves)
