use Rattle.std.proofs.Common.{◌≡◌, ℕ, List, inl, option_map, subst, ◌∙◌}
use Rattle.tables_outline.specs.Maps.{labelled_bytes}
use Rattle.report.specs.Stops.{denial_text}
use Rattle.report.specs.Outputs.{Prints, printed_of}
use Rattle.tool_pure.proofs.printed_reply.print_denial.Goals as goal

pub returns-in-Ok : goal.returns-in-Ok
returns-in-Ok g c =
    let same : c.as_str.result.now ≡ denial_text c.args.dir.now c.args.rule (option_map labelled_bytes c.args.root) =
    c.as_str.ensures.value ∙ c.in-Ok.ensures in
    inl (subst (λ (t : List ℕ). Prints t 4
    (printed_of g.E.Write.contents c.args.errors.now c.print.new.writer c.print.result)) same c.print.ensures)
