use Rattle.std.proofs.Common.{rules, ◌||◌, sym, ap, ◌∙◌}
use Rattle.std.specs.List.{list_all}
use Rattle.std.specs.FinMap as finite
use borrow.Author.Tests.{tests}
use Rattle.std.proofs.lemmas.Iterator.{YieldsList-from_slice}
use Rattle.std.proofs.lemmas.Iterator.Search.{all_from_yields_List}
use Rattle.live.specs.Graph.{same}
use Rattle.store_adds.proofs.references.is_complete.Goals as goal

pub returns : goal.returns
returns c =
    let o = c.args.outline.now in
    let p = c.args.path.now in
    let refs = c.args.refs.now in
    all_from_yields_List (λ r. finite.contains_key o.objects r || same r p) _ _ _ c.all.ensures.ran
    (YieldsList-from_slice refs cc) (λ x b q k. search (rules, tests))
    ∙ ap (λ b. b || list_all (λ r. finite.contains_key o.objects r || same r p) refs)
    (sym (sym c.has.ensures ∙ c.if-has.false))
