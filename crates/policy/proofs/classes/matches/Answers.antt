use Rattle.std.proofs.Common.{◌∙◌, rules, tests}
use Rattle.std.proofs.lemmas.Iterator.{YieldsList-from_slice}
use Rattle.std.proofs.lemmas.Iterator.Search.{any_from_yields_List}
use Rattle.policy.specs.Class.{admits}
use Rattle.policy.specs.View.{entry_view}
use Rattle.policy.proofs.Entries.{list_any-map}
use Rattle.policy.proofs.classes.matches.Goals as goal

pub returns : goal.returns
returns c =
    let test = admits c.args.groups.now c.args.caller.now in
    any_from_yields_List (λ x. test (entry_view x)) _ _ _ c.any.ensures.ran
    (YieldsList-from_slice c.args.entries.now c.iter.ensures.rest) (λ x b q k. search (rules, tests))
    ∙ list_any-map test entry_view c.args.entries.now
