use Rattle.std.proofs.Common.{lit<, rules, tests}
use Rattle.std.proofs.lemmas.Iterator.Search.{all_from_yields_List}
use Rattle.std.proofs.lemmas.Iterator.Splits.{YieldsList-from_str_split}
use Rattle.paths.specs.Names.{is_component}
use Rattle.paths.proofs.store_dir.all_components.Goals as goal

pub returns : goal.returns
returns c =
    let parts =
    YieldsList-from_str_split 47 c.args.text.now (lit< tt) c.split.ensures.text c.split.ensures.has_more
    c.split.ensures.pattern in
    all_from_yields_List is_component _ _ _ c.all.ensures.ran parts (λ x b q k. search (rules, tests))
