use Rattle.std.proofs.Common.{ℕ, Bool, false, cond, List, sym, ap₂, subst}
use Rattle.sqlite_disk.specs.Events.{Event, replay}
use Rattle.sqlite_wal.specs.Recovery.{Image}
use Rattle.sqlite.specs.Files.{file_state, IsBlankAs}
use Rattle.sqlite.specs.Start.{FindsIn}
use Rattle.tables_recognize.proofs.connection.connect.Goals as goal

abbrev image : List ℕ → List ℕ → Image
image log db = record { log = log; db = db }

abbrev seen : List ℕ → List ℕ → Bool → List Event → List ℕ
seen log db is_log history = (replay (cond is_log log db) history).seen

pub returns-in-Ok-clause-opened : goal.returns-in-Ok-clause-opened
returns-in-Ok-clause-opened g c = rw c.set_clock.ensures
    let here = c.in-Ok.ensures in
    let (log, db) = c.requires.fresh in
    let same =
    ap₂ image (ap₂ (seen g.S.Start.log g.S.Start.db) log.0 log.1)
    (ap₂ (seen g.S.Start.log g.S.Start.db) db.0 db.1) in
    record {
      fresh = here.fresh;
      opened = here.opened;
      found = λ clean. let found =
          here.found clean in subst (λ i. FindsIn i (file_state c.in-Ok.conn)) same
          (record { holds = found.holds; reads = found.reads });
      sums = λ clean blank. here.sums clean (subst (IsBlankAs false) (sym same) blank);
      guarded = here.guarded;
    }

pub returns-in-Err-clause-cause : goal.returns-in-Err-clause-cause
returns-in-Err-clause-cause g c =
    let failed = c.in-Err.ensures in (
      failed.named,
      (
        c.args.found.files,
        c.requires.fresh.0,
        c.requires.fresh.1,
        λ clean. (failed.cause clean, failed.unharmed clean),
      ),
    )
