use Rattle.std.proofs.lemmas.Result.{MatchResult-from_both}
use Rattle.sqlite_store.specs.FileStore.{view}
use Rattle.sqlite_trees.specs.View.{IsClean}
use Rattle.sqlite_wal.specs.Reads.{AreClean}
use Rattle.sqlite.specs.Closing.{IsCopied}
use Rattle.sqlite.specs.Files.{FailsToClose, IsClosed}
use Rattle.tables_writes.proofs.close.FileStoreCloseConnectionFileStore.close.Goals as goal

-- src/closing.rt:45:5
pub returns : goal.returns
returns g c =
    MatchResult-from_both c.close_files.result
    (λ files. AreClean g.D.Disk files.log files.db → IsCopied {D = g.row.D.Denot} {g = g.D.Disk} c.args.conn files)
    (λ e. IsClosed {D = g.row.D.Denot} {g = g.D.Disk} c.args.conn e.1
    × (IsClean (view e.1) → FailsToClose c.args.conn e.1 e.0)) c.close_files.ensures.copied c.close_files.ensures.err
