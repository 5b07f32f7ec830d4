-- What is done with a store in a file.
use Rattle.std.specs.Prelude.{◌⊎◌, ℕ, List, Result, Ok, Err}
use Rattle.std.specs.Io.KnownBytes.{Keeps}
use Rattle.tables.specs.Disk as disk
use Rattle.tables.specs.DiskCalls as calls
use Rattle.tables.specs.Modelled.{Modelled}
use Rattle.tables.specs.DiskStart.{Ghosts}
use Rattle.sqlite_std_file.specs.declared.host.Host.{Host}
use Rattle.sqlite_wal.specs.Files.{image_at}
use Rattle.sqlite_store.specs.declared.store.FileStore.{FileStore}
use Rattle.sqlite.specs.Files.{over_files}
use Rattle.sqlite_trees.specs.declared.store.Store as store
use Rattle.tables.specs.TablesValue.{TablesValue}
use Rattle.model.specs.Reply.{failed}
use Rattle.store_types.specs.View.{failure_view}
use Rattle.tables.specs.declared.unopened.Cause.{Cause}
use Rattle.tables.specs.declared.unopened.Cause.TheVariants.{BadSchema, OtherStoreDir, Failed as CauseFailed}
use Rattle.tables.specs.declared.unopened.Unopened.{Unopened}
use Rattle.tables.specs.Causes.{cause_of}
use Rattle.tables.specs.Opened.{IsUnopened, Opens}
use Rattle.model.specs.declared.refusal.Refusal.TheVariants as refusal
use Rattle.tool_pure.specs.PrintedReply.{IsPrinted}
use Rattle.tool_pure.specs.declared.stops.Stop.TheVariants.{Refused}
use Rattle.report.specs.Outputs.{Console, Written}
use Rattle.tool.specs.Works.{Doing, DoesFrom}
use Rattle.tool_pure.specs.Stream.{Answers}

-- the cause is reported: as a refusal, or as the failure of a call
abbrev pub AnswersCause : List ℕ → Cause → Written → Type 0
AnswersCause dir BadSchema w = Answers (Err (Refused refusal.BadSchema)) w
AnswersCause dir OtherStoreDir w = Answers (Err (Refused refusal.OtherStoreDir)) w
AnswersCause dir (CauseFailed f) w = IsPrinted dir (failed (failure_view f)) w

-- the work is done over the tables that an opening gave; or the cause is reported for which it gave none, and the input
-- isn't read
abbrev pub DoesOpening : {S D : Type 0} {h : disk.Ghosts D} → store.Ghosts S
    → Result (TablesValue S) (Unopened S D h) → Doing
DoesOpening g (Ok t) s d console = DoesFrom g s t d console
DoesOpening g (Err e) s d console =
    AnswersCause s.store_dir (cause_of e) console.written × Keeps console.input.old console.input.new

-- `start` is ghost: what a theorem assumes of the file. No code reads it, so the definitions cover every value.
module _ {S : Type 0} {host : calls.Ghosts Host} (start : Ghosts S) (g : disk.Ghosts (Modelled Host S host start)) where
  -- the file was opened as the store of the directory, and the work is done over its tables
  abbrev pub DoesOpened : Doing
  DoesOpened s d console = (t : TablesValue (FileStore (Modelled Host S host start) g))
      × Opens (image_at start) s.store_dir t
      × DoesFrom over_files s t d console

  -- the file isn't opened, the cause is reported, and the input isn't read
  abbrev pub AnswersUnopened : List ℕ → Console → Type 0
  AnswersUnopened dir console = (e : Unopened (FileStore (Modelled Host S host start) g) (Modelled Host S host start) g)
      × IsUnopened (image_at start) dir e × AnswersCause dir (cause_of e) console.written
      × Keeps console.input.old console.input.new

  -- the file is opened and the work is done, or the file isn't opened and the cause is reported
  abbrev pub DoesFile : Doing
  DoesFile s d console = DoesOpened s d console ⊎ AnswersUnopened s.store_dir console
