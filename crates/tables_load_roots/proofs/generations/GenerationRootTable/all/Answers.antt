use Rattle.sqlite.specs.Held.{state}
use Rattle.tables_sql.specs.Contents.{contents_of}
use Rattle.tables_load_roots.proofs.Filled.{load_generations}
use Rattle.tables_load_roots.proofs.Rows.{reads_so}
use Rattle.tables_load_roots.proofs.generations.GenerationRootTable.all.Goals as goal

pub returns : goal.returns
returns g c = record {
  frame = c.find.ensures.found.frame;
  reads = λ clean.
      reads_so c.find.result _ _ _ (c.find.ensures.found.reads clean)
      (λ all listed o filled. load_generations all.items o (contents_of (state g.S.Store c.args.conn.now).now) listed
      filled);
  cause = c.find.ensures.found.cause;
}
