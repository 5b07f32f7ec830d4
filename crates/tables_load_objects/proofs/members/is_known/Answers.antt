use Rattle.std.proofs.Common.{sym, ap, ◌∙◌}
use Rattle.std.specs.Ordering.{eq_by_cmp}
use Rattle.paths.specs.StorePath.{is_base_name}
use Rattle.paths.specs.Root.{bytes_cmp}
use Rattle.tables_load_objects.proofs.Truths.{and_so}
use Rattle.tables_load_objects.proofs.Known.{and_no, any_here, here_rise}
use Rattle.tables_load_objects.proofs.members.is_known.Goals as goal

pub returns-in-Some : goal.returns-in-Some
returns-in-Some c =
    let text = c.args.text.now in
    let own = c.paths.inside.paths.items in
    let found = c.in-Some.ensures.any (here_rise own c.deref.result.now c.deref.ensures.value c.paths.invariant) in
    sym (and_so (is_base_name text) _ (ap is_base_name c.in-Some.ensures.found ∙ c.as_str-base.ensures.valid)
    (any_here (λ q. eq_by_cmp bytes_cmp text q) c.args.paths.now own c.deref.result.now c.paths.view_is
    c.deref.ensures.value ∙ sym found))

pub returns-in-None : goal.returns-in-None
returns-in-None c =
    let text = c.args.text.now in
    let own = c.paths.inside.paths.items in
    sym (and_no (is_base_name text) _
    (any_here (λ q. eq_by_cmp bytes_cmp text q) c.args.paths.now own c.deref.result.now c.paths.view_is
    c.deref.ensures.value
    ∙ sym (c.in-None.ensures.any (here_rise own c.deref.result.now c.deref.ensures.value c.paths.invariant))))
