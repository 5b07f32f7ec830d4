-- The end of a command that serves a store.
use Rattle.std.specs.Prelude.{◌≡◌, ◌⊎◌, ⊤, ℕ, min, List, Option, None, Result, Ok, Err, IsErrAnd}
use Rattle.std.specs.Io.KnownBytes.{Keeps}
use Rattle.std.specs.declared.io.Error.{Error}
use Rattle.std.specs.IoError.{error_kind}
use Rattle.std.specs.declared.io.ErrorKind.TheVariants.{OutOfMemory}
use Rattle.sqlite_trees.specs.declared.store.Store.{Ghosts}
use Rattle.httparse.specs.Grammar.{RequestHead}
use Rattle.wire_server.specs.Responses.{Replied}
use Rattle.model.specs.declared.failures.Failure.TheVariants.{Input, Memory}
use Rattle.report.specs.Outputs.{Console, RunsOutOfMemory, PrintsFailure, on_writer}
use Rattle.wire_server.specs.Serves.{Served}
use Rattle.wire_server.specs.Sessions.{Says, failure, result_of}
use Rattle.wire_server.specs.ServesAll.{ServesOn}
use Rattle.wire_server.specs.declared.error.WireError.{WireError}
use Rattle.wire_server.specs.declared.connection.End.{End}
use Rattle.store.specs.View.{StoreView}
use Rattle.wire.specs.Answers.{Answers}
use Rattle.wire.specs.Worlds.{AnswersFrom, LeadsWorlds}

-- The status is 1 if a connection failed, or if an accept failed; a line says so.
abbrev pub EndsOn : Result ℕ Error → Option (List ℕ) → Option (List ℕ) → ℕ → Type 0
EndsOn (Ok failed) err err' status = Keeps err err' × (status ≡ min failed 1)
EndsOn (Err fault) err err' status = PrintsFailure Input (on_writer err err' status)

module _ {S : Type 0} where
  -- one connection is served like this, up to the state that its last message left, and the status is 1 where it
  -- failed, which is said; or there was no memory to begin with, nothing was read, and the state stays
  abbrev pub EndsStreams : (S → S → Result ℕ WireError → Type 0) → Console → S → S → Type 0
  EndsStreams serving c old new = (RunsOutOfMemory c.written × Keeps c.input.old c.input.new × (new ≡ old))
      ⊎ ((end : End) × serving old new (result_of end)
      × Says end c.written.errors.old c.written.errors.new × (c.written.status ≡ failure end))

  -- connections of a port are served like this, up to the state that the last message left, with that on the errors; or
  -- there was no memory to begin with, or the port couldn't be bound, and the state stays
  abbrev pub EndsPort : (Option (List ℕ) → S → S → Result ℕ Error → Type 0) → Option (List ℕ) → Option (List ℕ) → S → S
      → ℕ → Type 0
  EndsPort serving err err' old new status =
      (PrintsFailure Memory (on_writer err err' status) × (new ≡ old))
      ⊎ ((PrintsFailure Input (on_writer err err' status) × (new ≡ old))
      ⊎ ((result : Result ℕ Error) × (said : Option (List ℕ)) × serving said old new result
      × EndsOn result said err' status))

module _ {S : Type 0} (answers : S → RequestHead → List ℕ → Replied → S → Type 0) where
  -- what a connection reads, and what it writes for that
  abbrev pub ServedOn : Console → S → S → Result ℕ WireError → Type 0
  ServedOn c = Served answers c.input.old c.input.new c.written.output.old c.written.output.new

  -- one connection is served
  abbrev pub ServesStreams : Console → S → S → Type 0
  ServesStreams c = EndsStreams (ServedOn c) c

  -- a number of connections of a listener are served
  abbrev pub ServesListener : (Error → Type 0) → ℕ → Option (List (List ℕ)) → Option (List (List ℕ))
      → Option (List (List ℕ)) → Option (List (List ℕ)) → Option (List (List ℕ)) → Option (List (List ℕ)) → Option ℕ
      → Option ℕ → Option (List ℕ) → Option (List ℕ) → S → S → ℕ → Type 0
  ServesListener Fails n waiting waiting' closed closed' unread unread' faults faults' err err' old new status =
      (result : Result ℕ Error) × (said : Option (List ℕ))
      × ServesOn answers Fails n waiting waiting' closed closed' unread unread' faults faults' err said old new result
      × EndsOn result said err' status

  -- a number of connections are served of a listener, of which nothing is known
  abbrev pub ServesAny : ℕ → Option (List ℕ) → Option (List ℕ) → S → S → Result ℕ Error → Type 0
  ServesAny n = ServesOn answers (λ _. ⊤) n None None None None None None None None

  -- the same; or there was no memory to begin with
  abbrev pub ServesOver : ℕ → Option (List ℕ) → Option (List ℕ) → S → S → Result ℕ Error → Type 0
  ServesOver n err err' old new result = ServesAny n err err' old new result
      ⊎ (IsErrAnd result (λ fault. error_kind fault ≡ OutOfMemory) × (new ≡ old) × Keeps err err')

  -- a number of connections of a port are served, of which nothing is known
  abbrev pub ServesPort : ℕ → Option (List ℕ) → Option (List ℕ) → S → S → ℕ → Type 0
  ServesPort n err err' = EndsPort (λ said. ServesAny n err said) err err'

-- ---- a store, by the worlds of its tables

module _ {S : Type 0} (g : Ghosts S) where
  -- a connection, from the store before to that afterwards; and by worlds, if the disk is clean then
  abbrev pub ServedByWorlds : Console → StoreView S → StoreView S → Result ℕ WireError → Type 0
  ServedByWorlds c old new result = ServedOn (Answers g) c old new result
      × LeadsWorlds g old new (λ w next. ServedOn (AnswersFrom old.settings) c w next result)

  -- a connection on two streams, likewise
  abbrev pub ServesStreamsByWorlds : Console → StoreView S → StoreView S → Type 0
  ServesStreamsByWorlds c = EndsStreams (ServedByWorlds c) c

  -- the connections of a listener, likewise
  abbrev pub ServesByWorlds : ℕ → Option (List ℕ) → Option (List ℕ) → StoreView S → StoreView S → Result ℕ Error
      → Type 0
  ServesByWorlds n err said old new result = ServesAny (Answers g) n err said old new result
      × LeadsWorlds g old new (λ w next. ServesAny (AnswersFrom old.settings) n err said w next result)

  -- the connections of a port, likewise
  abbrev pub ServesPortByWorlds : ℕ → Option (List ℕ) → Option (List ℕ) → StoreView S → StoreView S → ℕ → Type 0
  ServesPortByWorlds n err err' = EndsPort (ServesByWorlds n err) err err'
