use Rattle.std.proofs.Common.{◌≡◌, ℕ, List, [], ◌∷◌, ◌++◌, None, sym, ap, subst, ◌∙◌, arith}
use Rattle.live.specs.Graph.{Path}
use Rattle.live.specs.Numbering.{place_of}
use Rattle.tables_outline.specs.LinkNames.{AreNumbered}
use Rattle.tables_outline.proofs.Named.{numbered_push}
use Rattle.tables_outline.proofs.link_names.Names.put.Goals as goal

pub invariant_of-self-in-Ok : goal.invariant_of-self-in-Ok
invariant_of-self-in-Ok c =
    let paths = c.self.inside.paths.items in
    let key = c.in_ok-key.key in
    let none : place_of paths key ≡ None =
    ap (place_of paths) c.in_ok-key.ensures.cases
    ∙ ap (λ (n : List Path). place_of n c.args.path.now) c.self.view_is ∙ c.requires in
    let items =
    c.in_ok-push.ensures.items ∙ ap (λ (x : List ℕ). paths ++ x ∷ [])
    (c.in_ok-name.ensures.cases ∙ sym c.in_ok-key.ensures.cases) in
    subst (λ (xs : List Path). AreNumbered c.insert.new.self.entries xs) (sym items)
    (numbered_push paths key none c.self.inside.numbers.entries c.insert.new.self.entries c.len-count.result
    c.self.invariant (let e = c.len-count.ensures in let w = c.self.inside.paths.ok.0 in omega arith)
    c.in-Ok.ensures.updates.0)
