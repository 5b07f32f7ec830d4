use Rattle.drv.specs.View.{pairs}
use Rattle.drv.proofs.Answering.{gives_found, gives_fault, each_found, each_fault}
use Rattle.drv.proofs.recorded_outputs.outputs.Goals as goal

pub returns-clause-found : goal.returns-clause-found
returns-clause-found c =
    gives_found (λ v. pairs v.items) c.args.dir.now c.args.text.now c.outcome.result c.outcome.ensures

pub returns-clause-fault : goal.returns-clause-fault
returns-clause-fault c =
    gives_fault (λ v. pairs v.items) c.args.dir.now c.args.text.now c.outcome.result c.outcome.ensures

pub returns-clause-each_found : goal.returns-clause-each_found
returns-clause-each_found c =
    each_found (λ v. pairs v.items) c.args.dir.now c.args.text.now c.outcome.result c.outcome.ensures

pub returns-clause-each_fault : goal.returns-clause-each_fault
returns-clause-each_fault c =
    each_fault (λ v. pairs v.items) c.args.dir.now c.args.text.now c.outcome.result c.outcome.ensures
