use Rattle.laws.proofs.LabelsAndOrder.{are_labelled, kinds_in_order}
use Rattle.laws.proofs.roots.roots_are_labelled_in_order.Goals as goal

pub returns-clause-labels : goal.returns-clause-labels
returns-clause-labels c = are_labelled

pub returns-clause-kinds : goal.returns-clause-kinds
returns-clause-kinds c = kinds_in_order
