use Rattle.tables_rows.proofs.ObjectLemmas.{last_is}
use Rattle.tables_rows.proofs.objects.get.Goals as goal

pub returns : goal.returns
returns g c = record {
  frame = c.in_ok-found.ensures.found.frame;
  reads = λ clean. let read =
      c.in_ok-found.ensures.found.reads clean in (
        read.0,
        last_is _ c.args.base.now c.in_ok-found.found _ c.pop.result read.1 c.pop.ensures.items
            c.pop.ensures.variant,
      );
  cause = λ clean. tt;
}
