use Rattle.std.proofs.Common.{rules}
use Rattle.std.specs.FinMap as finite
use borrow.Author.Tests.{tests}
use Rattle.std.proofs.lemmas.Iterator.{YieldsList-from_slice}
use Rattle.std.proofs.lemmas.Iterator.Search.{all_from_yields_List}
use Rattle.store_promises.proofs.validity.has_all.Goals as goal

pub returns : goal.returns
returns c =
    all_from_yields_List (finite.contains_key c.args.outline.now.objects) _ _ _ c.all.ensures.ran
    (YieldsList-from_slice c.args.paths.now cc) (λ x b q k. search (rules, tests))
