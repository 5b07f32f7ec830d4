use Rattle.tables_recognize.proofs.OwnRowids.{rise_sorted}
use Rattle.tables_recognize.proofs.rowids.differ.Goals as goal

pub returns-clause-differ : goal.returns-clause-differ
returns-clause-differ c =
    let rises = rw c.deref.ensures.value at c.rise.ensures in
    let differs =
    rise_sorted c.args.ids.items c.sort.new.self.items c.sort.ensures.permutation c.in_ok-sort.ensures.sorted in
    (λ yes. differs.0 (rises.0 yes), λ apart. rises.1 (differs.1 apart))
