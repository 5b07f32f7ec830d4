use Rattle.tables_sql.proofs.Orders.{pair_total, pair_antisymmetric}
use Rattle.tables_sql.proofs.Entries.{none_kept}
use Rattle.tables_sql.proofs.Scans.{on_ok}
use Rattle.tables_sql.proofs.Steps.{changes_by}
use Rattle.tables_rows.proofs.RuntimeRootLemmas.{removal_all}
use Rattle.tables_rows.proofs.Clauses.{takes, takes_number, fails_to_take}
use Rattle.tables_rows.proofs.runtime.AllDelete.delete.Goals as goal

pub returns : goal.returns
returns g c = record {
  frame = c.remove.ensures.frame;
  done =
      λ clean. on_ok c.remove.result _ _
      (changes_by _ _ _ _ (λ x i. record x { runtime = none_kept pair_total pair_antisymmetric x.runtime i }))
      (takes removal_all c.remove.ensures.frame.survives c.requires.under (λ early up. tt) clean c.remove.result
      (c.remove.ensures.ran clean));
  numbers =
      λ clean. takes_number removal_all c.remove.ensures.frame.survives c.requires.under (λ early up. tt) clean
      c.remove.result (c.remove.ensures.ran clean);
  cause =
      λ clean. fails_to_take removal_all c.remove.ensures.frame.survives c.requires.under (λ early up. tt) clean
      c.remove.result (c.remove.ensures.cause clean);
}
