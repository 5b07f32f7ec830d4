use Rattle.std.proofs.Common.{sym, ap, ◌∙◌}
use Rattle.std.specs.Prelude.{if◌then◌else◌}
use Rattle.std.specs.FinMap as finite
use Rattle.model.specs.World.{pair_cmp}
use Rattle.tables_outline.specs.Maps.{labelled_bytes, seen_set}
use Rattle.tables_outline.proofs.Orders.{pair_total, pair_antisymmetric}
use Rattle.store_roots.proofs.RuntimePairs.{key_put}
use Rattle.store_roots.proofs.runtime.put_valid.Goals as goal

pub returns-then-not-has : goal.returns-then-not-has
returns-then-not-has c =
    let old = seen_set pair_cmp labelled_bytes c.args.valid.now.keys in
    sym (ap (λ b. if b then finite.insert old (labelled_bytes c.args.pair) tt else old)
    (sym c.has.ensures ∙ c.if-not-has.true))

pub returns : goal.returns
returns c =
    let old = seen_set pair_cmp labelled_bytes c.args.valid.now.keys in
    ap (seen_set pair_cmp labelled_bytes) c.in_ok-insert.ensures.keys
    ∙ key_put pair_cmp labelled_bytes pair_total pair_antisymmetric c.args.valid.now.keys c.args.pair
    ∙ sym (ap (λ b. if b then finite.insert old (labelled_bytes c.args.pair) tt else old)
    (sym c.has.ensures ∙ c.if-not-has.false))
