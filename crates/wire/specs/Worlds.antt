-- What a message is answered, by the world of the store.
use Rattle.std.specs.Prelude.{◌≡◌, ℕ, List}
use Rattle.sqlite_trees.specs.declared.store.Store.{Ghosts}
use Rattle.sqlite.specs.State.{HasCleanDisk}
use Rattle.sqlite.specs.Held.{state}
use Rattle.httparse.specs.Grammar.{RequestHead}
use Rattle.policy.specs.Settings.{Settings}
use Rattle.model.specs.World.{World}
use Rattle.model.specs.Reply.{Reply}
use Rattle.model.specs.Step.{Step}
use Rattle.tables_writes.specs.TablesValue.{HasWorld}
use Rattle.store.specs.View.{StoreView}
use Rattle.wire_server.specs.Responses.{Replied}
use Rattle.wire.specs.Replies.{response_to}
use Rattle.wire.specs.Courses.{Course, replies, calls, HasCourse}

-- the reply at once, and the world stays; or a step is made, and the response is that to its reply
abbrev pub LeadsTo : Settings → Course → World → Replied → World → Type 0
LeadsTo s (replies it) w r new = (r ≡ it) × (new ≡ w)
LeadsTo s (calls c q) w r new = (reply : Reply) × Step s w c q reply new × (r ≡ response_to s.store_dir reply)

abbrev pub AnswersFrom : Settings → World → RequestHead → List ℕ → Replied → World → Type 0
AnswersFrom s w h body r new = (course : Course) × HasCourse s h body course × LeadsTo s course w r new

-- the response of a course where nothing is known of the world: some reply
abbrev pub IsSomeReply : Settings → Course → Replied → Type 0
IsSomeReply s (replies it) r = r ≡ it
IsSomeReply s (calls c q) r = (reply : Reply) × (r ≡ response_to s.store_dir reply)

abbrev pub AnswersSome : Settings → Unit {0} → RequestHead → List ℕ → Replied → Unit {0} → Type 0
AnswersSome s old h body r new = (course : Course) × HasCourse s h body course × IsSomeReply s course r

module _ {S : Type 0} (g : Ghosts S) where
  -- From each world of the tables before to one of the tables afterwards; and if the disk of the store is clean then,
  -- this leads from the one to the other.
  abbrev pub LeadsWorlds : StoreView S → StoreView S → (World → World → Type 0) → Type 0
  LeadsWorlds old new leads = (w : World) → HasWorld g old.tables w → (next : World) × HasWorld g new.tables next
      × (HasCleanDisk (state g new.tables.connection) → leads w next)
