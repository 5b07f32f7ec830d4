use Rattle.std.proofs.Common.{◌≡◌, List, ℕ, ap, subst, ◌∙◌}
use Rattle.policy.specs.Settings.{Settings}
use Rattle.store_types.specs.View.{reply_view}
use Rattle.report.specs.Outputs.{written_of}
use Rattle.tool_pure.specs.PrintedReply.{IsPrinted}
use Rattle.tool.proofs.calls.call_store.Goals as goal

pub returns : goal.returns
returns g c =
    let kept = c.call-reply.ensures in
    let dir : c.store_dir.result.now ≡ c.args.store.now.settings.store_dir =
    c.store_dir.ensures ∙ ap (λ (s : Settings). s.store_dir) (c.config.ensures ∙ kept.settings) in (
      reply_view c.call-reply.result,
      record {
        settings = kept.settings;
        step = kept.step;
        cause = kept.cause;
        others = kept.others;
        still = kept.still;
        stays_durable = kept.stays_durable;
        survives = kept.survives;
      },
      subst (λ (d : List ℕ). IsPrinted d (reply_view c.call-reply.result)
          (written_of g.W.Write.contents g.E.Write.contents c.args.output.now c.print_reply.new.output
          c.args.errors.now c.print_reply.new.errors c.print_reply.result)) dir c.print_reply.ensures,
    )
