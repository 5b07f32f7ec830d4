use Rattle.std.proofs.Common.{map, string_bytes, sym, subst, ◌∙◌}
use Rattle.tables_outline.specs.Outputs.{IsListed}
use Rattle.tables_load_objects.specs.Tested.{named_of, outputs_in}
use Rattle.tables_load_objects.proofs.SameOutputs.{found_none, found_some, rows_are, rows_differ}
use Rattle.tables_load_objects.proofs.outputs.recorded.Goals as goal

pub returns-in_default : goal.returns-in_default
returns-in_default c = λ tree is h.
    found_none c.args.dir.now c.args.path.now tree c.in_ok-found.field-0 c.in_default.is (c.in_ok-found.ensures tree is)
    h.0

pub returns-then-not-are_recorded : goal.returns-then-not-are_recorded
returns-then-not-are_recorded c = λ tree is h.
    let it =
    found_some c.args.dir.now c.args.path.now tree c.in_ok-found.field-0 c.in-Some.found c.in-Some.is
    (c.in_ok-found.ensures tree is) in
    rows_differ (named_of c.args.rows.now) c.in-Some.found.entries (outputs_in c.args.dir.now c.args.path.now tree)
    c.len-count.ensures.ordered it.1 (sym c.are_recorded.ensures ∙ c.if-not-are_recorded.true) h.1

pub returns : goal.returns
returns c = λ tree is.
    let m = outputs_in c.args.dir.now c.args.path.now tree in
    let it =
    found_some c.args.dir.now c.args.path.now tree c.in_ok-found.field-0 c.in-Some.found c.in-Some.is
    (c.in_ok-found.ensures tree is) in (
      it.0,
      rows_are (named_of c.args.rows.now) c.in-Some.found.entries m c.len-count.ensures.ordered it.1
          (sym c.are_recorded.ensures ∙ c.if-not-are_recorded.false),
      subst (IsListed (map string_bytes c.in_ok-outputs.outputs.names.items) c.in_ok-outputs.outputs.paths.items) it.1
          c.in_ok-outputs.ensures,
    )
