use Rattle.std.proofs.Common.{refl}
use Rattle.std.specs.FinMap as finite
use Rattle.tables_sql.specs.Contents.{contents_of}
use Rattle.tables_rows.specs.Entries.{runtime_of}
use Rattle.sqlite.specs.Held.{state}
use Rattle.tables_outline.specs.Outline.{OutlineValue}
use Rattle.tables_outline.proofs.Orders.{pair_total, pair_antisymmetric}
use Rattle.tables_load_roots.specs.Loaded.{is_runtime_root}
use Rattle.tables_load_roots.proofs.Rows.{load_entries, entries_again, reads_so}
use Rattle.tables_load_roots.proofs.runtime.RuntimeRootRootTable.all.Goals as goal

pub returns : goal.returns
returns g c = record {
  frame = c.find.ensures.found.frame;
  reads = λ clean.
      let stored = (contents_of (state g.S.Store c.args.conn.now).now).runtime in
      reads_so c.find.result _ _ _ (c.find.ensures.found.reads clean) (λ all listed.
      load_entries runtime_of is_runtime_root (λ e. e) (λ (o : OutlineValue). o.runtime)
      (λ m (o : OutlineValue). record o { runtime = m })
      (record { objects = λ m o. refl; read_back = λ m o. refl; last = λ m n o. refl; same = λ o. refl })
      _ (finite.entries stored) (entries_again pair_total pair_antisymmetric stored) all.items listed);
  cause = c.find.ensures.found.cause;
}
