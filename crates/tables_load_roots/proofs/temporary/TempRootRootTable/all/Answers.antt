use Rattle.std.proofs.Common.{refl}
use Rattle.std.specs.FinMap as finite
use Rattle.tables_sql.specs.Contents.{contents_of}
use Rattle.tables_rows.specs.Entries.{temp_root_of}
use Rattle.sqlite.specs.Held.{state}
use Rattle.tables_outline.specs.Outline.{OutlineValue}
use Rattle.tables_load_roots.specs.Loaded.{is_temporary_root}
use Rattle.tables_load_roots.proofs.Rows.{load_entries, reads_so}
use Rattle.tables_load_roots.proofs.Sessions.{member, temporary_again}
use Rattle.tables_load_roots.proofs.temporary.TempRootRootTable.all.Goals as goal

pub returns : goal.returns
returns g c = record {
  frame = c.find.ensures.found.frame;
  reads = λ clean.
      let stored = (contents_of (state g.S.Store c.args.conn.now).now).temp_roots in
      reads_so c.find.result _ _ _ (c.find.ensures.found.reads clean) (λ all listed.
      load_entries temp_root_of is_temporary_root member (λ (o : OutlineValue). o.temporary)
      (λ m (o : OutlineValue). record o { temporary = m })
      (record { objects = λ m o. refl; read_back = λ m o. refl; last = λ m n o. refl; same = λ o. refl })
      _ (finite.entries stored) (temporary_again stored) all.items listed);
  cause = c.find.ensures.found.cause;
}
