use Rattle.std.proofs.Common.{◌<◌, List, ℕ, length, sym, subst, ◌∙◌}
use Rattle.std.specs.Prelude.{All}
use Rattle.std.proofs.lemmas.Result.{IfOk-weaker}
use Rattle.live.specs.Keeping.{keep_view}
use Rattle.tables_outline.specs.Links.{all_entries}
use Rattle.tables_outline.specs.LinkNames.{name_at}
use Rattle.tables_outline.proofs.LinkNumbers.{count}
use Rattle.store_reach.specs.Reached.{AreNumbersOf}
use Rattle.store_reach.proofs.WalksBack.{are_used, found_by}
use Rattle.store_reach.proofs.reached.reached.Goals as goal

pub walk_back-requires : goal.walk_back-requires
walk_back-requires c =
    let l = c.args.links.now in
    subst (λ (ns : List ℕ). All (λ i. i < length (all_entries l)) ns) (sym c.deref.ensures.value)
    (subst (λ (n : ℕ). All (λ i. i < n) c.in_ok-numbers.numbers.items) (sym (count l)) c.in_ok-numbers.ensures.inside)

pub returns-clause-count : goal.returns-clause-count
returns-clause-count c =
    IfOk-weaker c.walk_back.result _ _ (λ r e. e.backward.count ∙ count c.args.links.now) c.walk_back.ensures.places

pub returns-clause-found : goal.returns-clause-found
returns-clause-found c =
    let l = c.args.links.now in
    let keep = keep_view c.args.keep in
    let those : AreNumbersOf l c.args.named.now c.deref.result.now =
    subst (AreNumbersOf l c.args.named.now) (sym c.deref.ensures.value) c.in_ok-numbers.ensures in
    IfOk-weaker c.walk_back.result _ _
    (λ r e g are. found_by g l are keep c.args.named.now c.deref.result.now those r
    (e g (name_at l.names) (c.are_numbers.ensures g are)
    (are_used g l are keep c.args.named.now c.deref.result.now those)).marks)
    c.walk_back.ensures.paths
