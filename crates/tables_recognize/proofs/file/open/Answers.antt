use Rattle.sqlite_wal.specs.Files.{image_at}
use Rattle.sqlite.specs.Files.{file_state}
use Rattle.tables_recognize.proofs.Opened.{held_still}
use Rattle.tables_recognize.proofs.file.open.Goals as goal
use Rattle.tables_sql.proofs.Steps.{clean_before}

pub returns-in-Ok-inspect-clause-opened : goal.returns-in-Ok-inspect-clause-opened
returns-in-Ok-inspect-clause-opened g c =
    let now = c.in-Ok-inspect.ensures in (
      c.in-Ok-connect.conn,
      record {
        opened = c.in-Ok-connect.ensures.opened;
        idle = now.idle;
        same = now.same;
        survives = now.survives;
      },
    )

pub returns-in-Ok-inspect-clause-held : goal.returns-in-Ok-inspect-clause-held
returns-in-Ok-inspect-clause-held g c clean =
    let now = c.in-Ok-inspect.ensures in
    held_still (image_at g.S.Start) (file_state c.in-Ok-connect.conn) (file_state c.in-Ok-inspect.opened.conn)
    (now.unchanged clean).0.committed_is
    (c.in-Ok-connect.ensures.opened.found (clean_before _ _ _ now.survives clean))

pub returns-in-Ok-inspect-clause-guarded : goal.returns-in-Ok-inspect-clause-guarded
returns-in-Ok-inspect-clause-guarded g c clean =
    let now = c.in-Ok-inspect.ensures in
    now.survives.shield (c.in-Ok-connect.ensures.opened.guarded (clean_before _ _ _ now.survives clean))

pub returns-in-Err-inspect-clause-cause : goal.returns-in-Err-inspect-clause-cause
returns-in-Err-inspect-clause-cause g c =
    let now = c.in-Err-inspect.ensures in (
      c.in-Ok-connect.conn,
      record {
        opened = c.in-Ok-connect.ensures.opened;
        idle = now.idle;
        same = now.same;
        survives = now.survives;
      },
      now.cause,
    )

pub returns-in-Err-connect-clause-cause : goal.returns-in-Err-connect-clause-cause
returns-in-Err-connect-clause-cause g c =
    (c.in-Err-connect.error, c.opening_failure.ensures, c.in-Err-connect.ensures.cause)
