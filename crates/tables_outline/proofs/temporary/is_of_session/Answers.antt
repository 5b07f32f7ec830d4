use Rattle.std.proofs.Common.{nat_eq, ◌&&◌, ap, ◌∙◌}
use Rattle.std.specs.Ordering.{eq_by_cmp}
use Rattle.std.specs.Cmp.Lexicographic.{texts_ties}
use Rattle.paths.specs.Root.{bytes_cmp}
use Rattle.tables_outline.proofs.temporary.is_of_session.Goals as goal

pub returns-then-eq : goal.returns-then-eq
returns-then-eq c =
    ap (λ b. b && nat_eq c.args.kept.now.1 c.args.session)
    (c.if-eq.ensures ∙ texts_ties c.as_str.result.now c.args.owner.now
    ∙ ap (λ t. eq_by_cmp bytes_cmp t c.args.owner.now) c.as_str.ensures.value)

pub returns-else-eq : goal.returns-else-eq
returns-else-eq c =
    c.if-eq.false
    ∙ ap (λ b. b && nat_eq c.args.kept.now.1 c.args.session)
    (c.if-eq.ensures ∙ texts_ties c.as_str.result.now c.args.owner.now
    ∙ ap (λ t. eq_by_cmp bytes_cmp t c.args.owner.now) c.as_str.ensures.value)
