use Rattle.std.proofs.Common.{arith}
use Rattle.nar.specs.View.{tree_of}
use Rattle.nar.proofs.Taking.{if_ok, if_err}
use Rattle.nar.proofs.Whole.{gives_archive, gives_fault}
use Rattle.nar.proofs.Decided.{gives_outcome}
use Rattle.nar.proofs.reader.read.Goals as goal

pub returns-clause-found : goal.returns-clause-found
returns-clause-found c = if_ok c.read_whole.result _ _ c.read_whole.ensures

pub returns-clause-fault : goal.returns-clause-fault
returns-clause-fault c = if_err c.read_whole.result _ _ c.read_whole.ensures

pub returns-clause-each_archive : goal.returns-clause-each_archive
returns-clause-each_archive c =
    λ t h. gives_archive tree_of _ c.args.input.now t (λ i. omega (arith, c.type_inv.input i))
    (if_ok c.read_whole.result _ _ c.read_whole.ensures) (if_err c.read_whole.result _ _ c.read_whole.ensures) h

pub returns-clause-each_fault : goal.returns-clause-each_fault
returns-clause-each_fault c =
    λ f h. gives_fault tree_of _ c.args.input.now f (λ i. omega (arith, c.type_inv.input i))
    (if_ok c.read_whole.result _ _ c.read_whole.ensures) (if_err c.read_whole.result _ _ c.read_whole.ensures) h

pub returns-clause-outcome : goal.returns-clause-outcome
returns-clause-outcome c =
    gives_outcome tree_of _ c.args.input.now (λ i. omega (arith, c.type_inv.input i))
    (if_ok c.read_whole.result _ _ c.read_whole.ensures) (if_err c.read_whole.result _ _ c.read_whole.ensures)
