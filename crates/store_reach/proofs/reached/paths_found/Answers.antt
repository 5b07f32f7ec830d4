use Rattle.std.proofs.Common.{◌≡◌, List, ℕ, length, map, ap, ◌∙◌}
use Rattle.std.specs.Prelude.{filter}
use Rattle.std.specs.List.{range_with_len}
use Rattle.live.specs.Graph.{holds}
use Rattle.live.specs.Reaching.{is_marked}
use Rattle.tables_outline.specs.LinkNames.{name_at}
use Rattle.store_reach.proofs.Deleted.{within}
use Rattle.store_reach.proofs.PathsFound.{paths_found}
use Rattle.store_reach.proofs.reached.paths_found.Goals as goal

pub ordered-requires : goal.ordered-requires
ordered-requires c =
    within _ (length c.args.reaching.now.marks) (length c.args.links.now.names) c.requires c.deref.result.now
    c.in_ok-numbers.numbers.items c.deref.ensures.value c.in_ok-numbers.ensures

pub returns : goal.returns
returns c = λ keep g named are found.
    let l = c.args.links.now in
    let r = c.args.reaching.now in
    let numbers : c.deref.result.now ≡ filter (is_marked r) (range_with_len 0 (length l.names)) =
    c.deref.ensures.value ∙ c.in_ok-numbers.ensures
    ∙ ap (λ (n : ℕ). filter (is_marked r) (range_with_len 0 n)) c.requires in
    paths_found keep g l (c.are_numbers.ensures g are) named r found c.in_ok-paths.paths.items
    c.in_ok-paths.ensures.rise
    (λ p. c.in_ok-paths.ensures.those p ∙ ap (λ (ns : List ℕ). holds (map (name_at l.names) ns) p) numbers)
