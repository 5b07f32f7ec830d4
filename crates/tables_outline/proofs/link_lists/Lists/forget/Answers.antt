use Rattle.std.proofs.Common.{ap, ◌∙◌, List, ℕ, not, ◌&&◌, ◌==◌, arith}
use Rattle.tables_outline.specs.LinkLists.{has}
use Rattle.tables_outline.proofs.Listed.{forgotten_in}
use Rattle.tables_outline.proofs.link_lists.Lists.forget.Goals as goal

pub returns : goal.returns
returns c i x =
    forgotten_in (λ v. v.items) c.self.inside.lists.items c.args.number c.index_mut.result.now c.remove_from.new.list
    (let t = c.if-number-len.false in let e = c.len.ensures in let w = c.self.inside.lists.ok.0 in omega arith)
    c.index_mut.ensures.value c.args.listed c.remove_from.ensures i x
    ∙ ap (λ (ls : List (List ℕ)). has ls i x && not (i == c.args.number && x == c.args.listed)) c.self.view_is
