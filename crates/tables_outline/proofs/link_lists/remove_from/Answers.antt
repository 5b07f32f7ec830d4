use Rattle.std.proofs.Common.{ℕ, not, ◌==◌, rules}
use Rattle.std.proofs.lemmas.Fn.{filter_same}
use Rattle.tables_outline.proofs.link_lists.remove_from.Goals as goal

pub returns : goal.returns
returns c =
    filter_same _ (λ (y : ℕ). not (y == c.args.listed)) _ (λ x b f' k. search rules) _ _ c.retain.ensures.filtered
