use Rattle.std.proofs.Common.{refl}
use Rattle.std.specs.FinMap as finite
use Rattle.tables_sql.specs.Contents.{contents_of}
use Rattle.tables_rows.specs.Entries.{current_of}
use Rattle.sqlite.specs.Held.{state}
use Rattle.tables_outline.specs.Outline.{OutlineValue}
use Rattle.tables_load_roots.specs.Loaded.{Objects, is_profile}
use Rattle.tables_load_roots.proofs.Rows.{load_entries, reads_so}
use Rattle.tables_load_roots.proofs.Filled.{bare_of, bare_again}
use Rattle.tables_load_roots.proofs.profiles.ProfileRootTable.all.Goals as goal

pub returns : goal.returns
returns g c = record {
  frame = c.find.ensures.found.frame;
  reads = λ clean.
      let stored = (contents_of (state g.S.Store c.args.conn.now).now).profiles in
      reads_so c.find.result _ _ _ (c.find.ensures.found.reads clean) (λ all listed.
      load_entries current_of (λ (objects : Objects) e. is_profile e) bare_of (λ (o : OutlineValue). o.profiles)
      (λ m (o : OutlineValue). record o { profiles = m })
      (record { objects = λ m o. refl; read_back = λ m o. refl; last = λ m n o. refl; same = λ o. refl })
      _ (finite.entries stored) (bare_again stored) all.items listed);
  cause = c.find.ensures.found.cause;
}
