-- What a command line does with a store: makes a request, or serves the store.
use Rattle.std.specs.Prelude.{◌≡◌, ◌⊎◌, codes, Option, Some, None, Err, IsTrue}
use Rattle.std.specs.Io.KnownBytes.{Keeps}
use Rattle.clap.specs.Walk.{Text}
use Rattle.sqlite_trees.specs.declared.memory.MemStore.{MemStore}
use Rattle.sqlite_trees.specs.declared.store.Store.{Ghosts}
use Rattle.sqlite.specs.Steps.{over_memory}
use Rattle.model.specs.World.{World, no_world}
use Rattle.model.specs.Reply.{failed, memory}
use Rattle.model.specs.declared.refusal.Refusal.TheVariants.{BadSchema}
use Rattle.policy.specs.Settings.{Settings}
use Rattle.policy.specs.Caller.{Caller}
use Rattle.tables_recognize.specs.Opened.{is_uri}
use Rattle.store.specs.View.{StoreView}
use Rattle.tables.specs.TablesValue.{TablesValue, HasWorld}
use Rattle.wire.specs.Worlds.{LeadsWorlds}
use Rattle.report.specs.Outputs.{Console}
use Rattle.tool_pure.specs.PrintedReply.{IsPrinted}
use Rattle.tool_pure.specs.Stream.{Answers}
use Rattle.tool_pure.specs.declared.stops.Stop.TheVariants.{Refused}
use Rattle.tool_words.specs.declared.line.ServeArguments.{ServeArguments}
use Rattle.tool.specs.Calls.{AnswersIn, AnswersStep, Serves}
use Rattle.tool.specs.Requests.{Ask}
use Rattle.tool.specs.Serving.{ServesStore, ServesWorld}

-- what is done with a store
pub data OnStore : Type 0 where
  -- a caller makes a request
  calls : Caller → Ask → OnStore
  -- the store is served over HTTP
  serves : ServeArguments → OnStore

-- work that is done with a store, which is the other one then
abbrev pub DoesOver : {S : Type 0} → Ghosts S → OnStore → Console → StoreView S → StoreView S → Type 0
DoesOver g (calls c ask) console old new =
    AnswersIn (Serves g c console.written old new) (new ≡ old) ask old.settings.store_dir c console.input
    console.written
DoesOver g (serves a) console old new = ServesStore g a console old new

-- work that leads from one world to the other
abbrev pub DoesIn : Settings → OnStore → Console → World → World → Type 0
DoesIn s (calls c ask) console w next =
    AnswersIn (AnswersStep s w next c console.written) (next ≡ w) ask s.store_dir c console.input console.written
DoesIn s (serves a) console w next = ServesWorld s a console w next

module _ {S : Type 0} (g : Ghosts S) where
  -- work that is done with a store, and so leads from each of its worlds to one of the store then, if the disk is clean
  abbrev pub DoesAt : OnStore → Console → StoreView S → StoreView S → Type 0
  DoesAt d console old new = DoesOver g d console old new × LeadsWorlds g old new (DoesIn old.settings d console)

  -- Work that is done with a store of these tables, which is then closed. What else is done to it before it is closed
  -- can't be said: nothing that is returned shows the store.
  abbrev pub DoesFrom : Settings → TablesValue S → OnStore → Console → Type 0
  DoesFrom s t d console = (new : StoreView S) × DoesAt d console (record { tables = t; settings = s }) new

-- what the tables of a store described before, they describe now
abbrev pub KeepsWorlds : {S : Type 0} → Ghosts S → StoreView S → StoreView S → Type 0
KeepsWorlds g old new = (w : World) → HasWorld g old.tables w → HasWorld g new.tables w

-- what some work does with a store is done
abbrev pub DoesWork : Option OnStore → (OnStore → Console → Type 0) → Console → Type 0
DoesWork work does console = (d : OnStore) → work ≡ Some d → does d console

-- how work is done with some store, under settings
abbrev pub Doing : Type 1
Doing = Settings → OnStore → Console → Type 0

-- The work is done over new, empty tables in memory, and so leads from the empty world to some world. Or memory ran out
-- before they were made, and the input isn't read.
abbrev pub DoesNew : Doing
DoesNew s d console =
    (((next : World) × DoesIn s d console no_world next)
    × ((t : TablesValue MemStore) × HasWorld over_memory t no_world × DoesFrom over_memory s t d console))
    ⊎ (IsPrinted s.store_dir (failed memory) console.written × Keeps console.input.old console.input.new)

-- a path that names no file: `:memory:`, or a URI for SQLite
abbrev pub NamesNoFile : Text → Type 0
NamesNoFile path = (path ≡ codes ":memory:") ⊎ IsTrue (is_uri path)

-- work that is done with the store of the file at a path; a path that names no file is refused
abbrev pub DoesAtPath : Doing → Text → Doing
DoesAtPath of_file path s d console =
    of_file s d console × (NamesNoFile path → Answers (Err (Refused BadSchema)) console.written)

-- work that is done with the store of the file, if one is named, and else with one in memory
unfoldable pub DoesWith : Doing → Option Text → Doing
DoesWith of_file None s d console = DoesNew s d console
DoesWith of_file (Some path) s d console = DoesAtPath of_file path s d console
