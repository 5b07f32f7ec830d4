use Rattle.tables_rows.proofs.ObjectLemmas.{last_is}
use Rattle.tables_rows.proofs.object_within.get_within.Goals as goal

pub returns : goal.returns
returns g c = record {
  frame =
      record {
        same_reference = c.in_ok-found.ensures.frame.same_reference;
        failed = λ clean. tt;
        survives = c.in_ok-found.ensures.frame.survives;
      };
  reads = λ clean. let read =
      c.in_ok-found.ensures.reads clean in (
        read.0,
        last_is _ c.args.base.now c.in_ok-found.found _ c.pop.result read.1 c.pop.ensures.items
            c.pop.ensures.variant,
      );
  cause = λ clean. tt;
}
