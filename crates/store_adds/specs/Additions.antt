-- What becomes of tables to which an object is added.
use Rattle.std.specs.Prelude.{◌≡◌, Result, Ok, Err, IsTrue}
use Rattle.sqlite_trees.specs.declared.store.Store.{Ghosts}
use Rattle.sqlite.specs.State.{Survives}
use Rattle.sqlite.specs.Held.{state}
use Rattle.model.specs.Disk.{puts_rows, touches_disk}
use Rattle.model.specs.World.{World}
use Rattle.model.specs.Request.{Request}
use Rattle.model.specs.Reply.{path}
use Rattle.model.specs.Adds.{Added}
use Rattle.model.specs.Effects.{with_object}
use Rattle.tables_writes.specs.TablesValue.{TablesValue, HasWorld, LeavesWorld}
use Rattle.store_types.specs.declared.replies.Answer.{Answer}
use Rattle.store_types.specs.declared.replies.Stop.{Stop}
use Rattle.store_types.specs.declared.replies.Stop.TheVariants.{Refused, Failed}
use Rattle.store_types.specs.View.{answer_view}
use Rattle.tables_writes.specs.Reasons.{AreAmong}
use Rattle.store_promises.specs.Causes.{HasCause}
use Rattle.store_promises.specs.RowsPut.{ObjectRowsPut, rows_put}
use Rattle.store_promises.specs.Durability.{LeavesOthers, StaysDurable}
use Rattle.store_promises.specs.Meets.{IsAnswered, IsRefused, reply_to}

module _ {S : Type 0} (g : Ghosts S) where
  -- the path of the object is answered, and the tables have a world with the object; or the call failed, and the tables
  -- have the world that they had
  abbrev pub Adds : Added → Result Answer Stop → World → TablesValue S → Type 0
  Adds a (Ok x) w new = (answer_view x ≡ path a.path) × HasWorld g new (with_object w a)
  Adds a (Err (Failed f)) w new = HasWorld g new w
  Adds a (Err (Refused r)) w new = ⊥

  pub record IsAdded (a : Added) (r : Result Answer Stop) (old new : TablesValue S) : Type 0 where
    pub dir : new.dir ≡ old.dir
    pub world : (w : World) → HasWorld g old w → Adds a r w new
    pub unrefused : IsRefused r → ⊥
    -- a failure has its cause, for each request that puts the object
    pub cause : (q : Request) → IsTrue (touches_disk q) → IsTrue (puts_rows q)
        → AreAmong (ObjectRowsPut a) (rows_put old.dir old.outline q) → HasCause g q (reply_to r) old new
    pub others : LeavesOthers g old new
    pub stays_durable : IsAnswered r → StaysDurable g old new
    pub survives : (w : World) → HasWorld g old w → Survives (state g old.connection) (state g new.connection)
        (λ db. LeavesWorld old.dir (state g old.connection).now db (with_object w a))
