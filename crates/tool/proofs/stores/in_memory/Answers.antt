use Rattle.std.proofs.Common.{◌≡◌, ℕ, List, inl, inr, ap, subst, refl}
use Rattle.std.proofs.KnownBytes.{Keeps-refl}
use Rattle.sqlite.proofs.Callers.{memory_is_clean}
use Rattle.model.specs.World.{no_world}
use Rattle.model.specs.Reply.{Failed, failed, memory}
use Rattle.store_types.specs.View.{failure_view}
use Rattle.report.specs.Outputs.{Written}
use Rattle.tool_pure.specs.PrintedReply.{IsPrinted}
use Rattle.tool.proofs.Reading.{unread_within}
use Rattle.tool.proofs.stores.in_memory.Goals as goal

pub returns-in-Ok : goal.returns-in-Ok
returns-in-Ok g c = record {
  given = record {
    answer = λ d is.
        let done = c.work_with.ensures.given.answer d is in
        let leads = done.1.1 no_world c.in-Ok.ensures.reported in
        inl (
          (leads.0, leads.2 (memory_is_clean done.0.tables.connection)),
          (c.in-Ok.tables, c.in-Ok.ensures.reported, done),
        );
    reads = c.work_with.ensures.given.reads;
  };
  same = c.work_with.ensures.same;
}

-- what ran out was memory
lacking : (dir other : List ℕ) → dir ≡ other → (f : Failed) → f ≡ memory → (w : Written) → IsPrinted dir (failed f) w
    → IsPrinted other (failed memory) w
lacking dir other d f m w h = subst (λ v. IsPrinted v (failed memory) w) d (subst (λ x. IsPrinted dir (failed x) w) m h)

pub returns-in-Err : goal.returns-in-Err
returns-in-Err g c = record {
  given = record {
    answer = λ d is.
        inr (
          lacking c.store_dir-in-Err.result.now c.args.config.store_dir c.store_dir-in-Err.ensures
              (failure_view c.in-Err.failure) (ap failure_view c.in-Err.ensures.cause) _ c.print_reply.ensures,
          Keeps-refl (g.R.Read.remaining c.args.console.now.input.now),
        );
    reads = unread_within (g.T.Work.most c.args.work.now) (g.R.Read.remaining c.args.console.now.input.now);
  };
  same = (refl, refl, refl);
}
