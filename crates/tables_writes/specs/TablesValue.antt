-- What the tables keep: a connection, a store directory and an outline, which agree.
use Rattle.std.specs.Prelude.{◌≡◌, ℕ, false, List, IsTrue, refl}
use Rattle.std.specs.Coded.{Coded, code_by, coded×}
use Rattle.sqlite_trees.specs.declared.store.Store.{Ghosts}
use Rattle.sqlite.specs.Effect.{Database}
use Rattle.sqlite.specs.State.{State, HasCleanDisk}
use Rattle.sqlite.specs.Held.{Held, held_code, state}
use Rattle.tables_sql.specs.Contents.{Contents, contents_of}
use Rattle.tables_sql.specs.Frozen.{SparesUnshown}
use Rattle.tables_sql.specs.Calls.{Remains, after_crash, IsWhole, IsReady, KeepsForeignRows}
use Rattle.model.specs.World.{World}
use Rattle.model.specs.Sound.{IsSound}
use Rattle.tables_world.specs.Worlds.{IsSoundContents, world_in}
use Rattle.tables_outline.specs.Outline.{OutlineValue, outline_of, outline_code, bytes_code}
use Rattle.tables_writes.specs.Others.{KeepsOthers}

pub record TablesValue (S : Type 0) : Type 0 where
  pub connection : Held S
  pub dir : List ℕ
  pub outline : OutlineValue

abbrev pub kept_code : {S : Type 0} → Coded S → Coded (TablesValue S)
kept_code {S} store =
    code_by (Held S × (List ℕ × OutlineValue)) (coded× (held_code store) (coded× bytes_code outline_code))
    (λ k. (k.connection, (k.dir, k.outline))) (λ p. record { connection = p.0; dir = p.1.0; outline = p.1.1 })
    (λ _. refl)

-- sound rows of all eleven tables, of which this is the outline
pub record AreOutlined (s : State) (dir : List ℕ) (outline : OutlineValue) : Type 0 where
  pub ready : IsReady s
  pub whole : IsWhole s.now
  pub sound : IsSoundContents dir (contents_of s.now)
  pub same : outline_of (world_in (contents_of s.now)) ≡ outline

module _ {S : Type 0} (g : Ghosts S) where
  -- between calls: no transaction, and unless a fault has shut the connection its rows are sound and outlined
  pub record Agrees (k : TablesValue S) : Type 0 where
    pub idle : k.connection.in_transaction ≡ false
    pub rows : HasCleanDisk (state g k.connection) → IsTrue (state g k.connection).is_open
        → AreOutlined (state g k.connection) k.dir k.outline

  -- A world of the tables: the one of the rows; or, once a fault has shut the connection, any with the outline.
  pub record HasWorld (k : TablesValue S) (w : World) : Type 0 where
    pub outline : outline_of w ≡ k.outline
    pub rows : HasCleanDisk (state g k.connection) → IsTrue (state g k.connection).is_open
        → world_in (contents_of (state g k.connection).now) ≡ w
    pub sound : IsSound k.dir w

  -- Tables that are open over a clean disk have a world.
  abbrev pub HaveAWorld : Type 0
  HaveAWorld =
      (k : TablesValue S) → Agrees k → HasCleanDisk (state g k.connection) → IsTrue (state g k.connection).is_open
      → (w : World) × HasWorld k w

-- ---- what a write does to the connection

-- The change was committed: the schema is as it was, all of the store's tables are there and hold what it makes, the
-- others hold the rows that they had, and the connection is ready again.
pub record IsWritten (old new : State) (change : Contents → Contents) : Type 0 where
  pub was_open : IsTrue old.is_open
  pub is_open : IsTrue new.is_open
  pub schema : new.now.schema ≡ old.now.schema
  pub contents : contents_of new.now ≡ change (contents_of old.now)
  pub foreign_rows : KeepsForeignRows old.now new.now
  pub unshown : SparesUnshown old.now new.now
  pub whole : IsWhole new.now
  pub ready : IsReady new

-- What a crash may leave of a write: sound rows of this world, and what other programs have as it was.
pub record LeavesWorld (dir : List ℕ) (old : Database) (left : Remains) (w : World) : Type 0 where
  pub sound : IsSoundContents dir (contents_of (after_crash old left))
  pub world : world_in (contents_of (after_crash old left)) ≡ w
  pub others : KeepsOthers old (after_crash old left)
