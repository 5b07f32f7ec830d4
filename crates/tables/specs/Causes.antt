-- Why a file isn't opened as a store.
use Rattle.std.specs.Option.{option_map_or}
use Rattle.tables_recognize.specs.Disk as disk
use Rattle.tables_recognize.specs.declared.file.UnopenedFile.{UnopenedFile}
use Rattle.tables_recognize.specs.declared.file.UnopenedFile.TheVariants as file
use Rattle.tables.specs.declared.unopened.Cause.{Cause}
use Rattle.tables.specs.declared.unopened.Cause.TheVariants.{BadSchema, Failed}
use Rattle.tables.specs.declared.unopened.Unopened.{Unopened}
use Rattle.tables.specs.declared.unopened.Unopened.TheVariants.{File, Store}

module _ {S D : Type 0} {g : disk.Ghosts D} where
  -- no connection was opened: what isn't a database is no store
  abbrev pub file_cause : UnopenedFile S D g → Cause
  file_cause (file.Unfound it) = option_map_or Failed it.failure BadSchema
  file_cause (file.Refused failure left) = option_map_or Failed failure BadSchema
  file_cause (file.Unreadable it) = Failed it.failure

  -- or one was, and it isn't opened as a store
  abbrev pub cause_of : Unopened S D g → Cause
  cause_of (File e) = file_cause e
  cause_of (Store e) = e.cause
