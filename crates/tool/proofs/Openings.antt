-- What is done with the file of a store, by what its opening gave.
use Rattle.std.proofs.Common.{◌≡◌, inl, inr, subst}
use Rattle.std.specs.Prelude.{Result, Ok, Err, IfOk, IfErr, IsErrAnd}
use Rattle.tables.specs.Disk as disk
use Rattle.tables.specs.DiskCalls as calls
use Rattle.tables.specs.Modelled.{Modelled}
use Rattle.tables.specs.DiskStart.{Ghosts}
use Rattle.sqlite_std_file.specs.declared.host.Host.{Host}
use Rattle.sqlite_wal.specs.Files.{image_at}
use Rattle.sqlite_store.specs.declared.store.FileStore.{FileStore}
use Rattle.sqlite.specs.Files.{over_files}
use Rattle.policy.specs.Settings.{Settings}
use Rattle.tables.specs.TablesValue.{TablesValue}
use Rattle.tables.specs.declared.unopened.Cause.{Cause}
use Rattle.tables.specs.declared.unopened.Cause.TheVariants.{BadSchema}
use Rattle.tables.specs.declared.unopened.Unopened.{Unopened}
use Rattle.tables.specs.Causes.{cause_of}
use Rattle.tables.specs.Opened.{IsUnopened, Opens}
use Rattle.report.specs.Outputs.{Console}
use Rattle.tool.specs.Works.{OnStore}
use Rattle.tool.specs.Files.{AnswersCause, DoesFile, DoesOpening}

module _ {S : Type 0} {host : calls.Ghosts Host} (start : Ghosts S) (g : disk.Ghosts (Modelled Host S host start)) where
  pub does_file : (s : Settings) (d : OnStore) (console : Console)
      (r : Result (TablesValue (FileStore (Modelled Host S host start) g))
      (Unopened (FileStore (Modelled Host S host start) g) (Modelled Host S host start) g))
      → IfOk r (λ t. Opens (image_at start) s.store_dir t) → IfErr r (λ e. IsUnopened (image_at start) s.store_dir e)
      → DoesOpening over_files r s d console → DoesFile start g s d console
  does_file s d console (Ok t) opens cause does = inl (t, opens, does)
  does_file s d console (Err e) opens cause does = inr (e, cause, does.0, does.1)

  -- what an opening refused as no store is reported
  pub refuses_file : (s : Settings) (d : OnStore) (console : Console)
      (r : Result (TablesValue (FileStore (Modelled Host S host start) g))
      (Unopened (FileStore (Modelled Host S host start) g) (Modelled Host S host start) g))
      → IsErrAnd r (λ e. cause_of e ≡ BadSchema) → DoesOpening over_files r s d console
      → AnswersCause s.store_dir BadSchema console.written
  refuses_file s d console (Ok t) refused does = absurd refused
  refuses_file s d console (Err e) refused does =
      subst (λ (cause : Cause). AnswersCause s.store_dir cause console.written) refused does.0
