use Rattle.std.proofs.Common.{refl}
use Rattle.std.specs.FinMap as finite
use Rattle.tables_sql.specs.Contents.{contents_of}
use Rattle.tables_rows.specs.Entries.{permanent_of}
use Rattle.sqlite.specs.Held.{state}
use Rattle.tables_outline.specs.Outline.{OutlineValue}
use Rattle.tables_outline.proofs.Orders.{bytes_total, bytes_antisymmetric}
use Rattle.tables_load_roots.specs.Loaded.{is_permanent_root}
use Rattle.tables_load_roots.proofs.Rows.{load_entries, entries_again, reads_so}
use Rattle.tables_load_roots.proofs.permanent.PermanentRootRootTable.all.Goals as goal

pub returns : goal.returns
returns g c = record {
  frame = c.find.ensures.found.frame;
  reads = λ clean.
      let stored = (contents_of (state g.S.Store c.args.conn.now).now).permanent in
      reads_so c.find.result _ _ _ (c.find.ensures.found.reads clean) (λ all listed.
      load_entries permanent_of is_permanent_root (λ e. e) (λ (o : OutlineValue). o.permanent)
      (λ m (o : OutlineValue). record o { permanent = m })
      (record { objects = λ m o. refl; read_back = λ m o. refl; last = λ m n o. refl; same = λ o. refl })
      _ (finite.entries stored) (entries_again bytes_total bytes_antisymmetric stored) all.items listed);
  cause = c.find.ensures.found.cause;
}
