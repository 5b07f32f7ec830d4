use Rattle.std.proofs.Common.{arith, ap, sym, ◌∙◌}
use Rattle.nar.specs.Tree.{IsBytes}
use Rattle.nar.proofs.Decided.{outcome_archive, outcome_fault}
use Rattle.paths.specs.ContentAddress.{plain_contents}
use Rattle.paths.proofs.content_address.contents_in.Goals as goal

pub returns-in-Ok : goal.returns-in-Ok
returns-in-Ok c =
    let bytes : IsBytes c.args.nar.now = λ i. omega (arith, c.type_inv.nar i) in
    c.plain_contents.ensures ∙ sym
    (ap plain_contents ((outcome_archive c.args.nar.now _ bytes).1 c.in-Ok.ensures.found))

pub returns-in_default : goal.returns-in_default
returns-in_default c =
    let bytes : IsBytes c.args.nar.now = λ i. omega (arith, c.type_inv.nar i) in
    sym (ap plain_contents ((outcome_fault c.args.nar.now _ bytes).1 (c.in-Err.ensures.fault c.in_default.not-Memory)))
