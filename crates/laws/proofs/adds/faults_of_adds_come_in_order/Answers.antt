use Rattle.laws.proofs.AddOrder.{text_faults_in_order, source_faults_in_order, import_faults_in_order}
use Rattle.laws.proofs.adds.faults_of_adds_come_in_order.Goals as goal

pub returns-clause-text : goal.returns-clause-text
returns-clause-text c = text_faults_in_order

pub returns-clause-source : goal.returns-clause-source
returns-clause-source c = source_faults_in_order

pub returns-clause-import : goal.returns-clause-import
returns-clause-import c = import_faults_in_order
