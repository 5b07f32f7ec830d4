use Rattle.std.proofs.Common.{ℕ, rules}
use Rattle.std.proofs.lemmas.Fn.{filter_same}
use Rattle.tables_outline.specs.LinkLists.{flag_at}
use Rattle.tables_outline.proofs.link_lists.keep_flagged.Goals as goal

pub returns : goal.returns
returns c =
    filter_same _ (λ (y : ℕ). flag_at c.args.flags.now y) _ (λ x b f' k. search rules) _ _ c.retain.ensures.filtered
