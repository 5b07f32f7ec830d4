use Rattle.std.proofs.Common.{List, [], ◌∷◌, string_bytes, subst, rules}
use Rattle.paths.specs.Root.{root_cmp}
use Rattle.paths.specs.Root as roots
use Rattle.live.proofs.Order.{root_total}
use Rattle.tables_outline.specs.Gaining.{Gains}
use Rattle.paths.specs.RootView.{root_view, kind_view}
use Rattle.tables_outline.specs.RootSet.{root_set}
use Rattle.tables_outline.proofs.Sets.{gains_key}
use Rattle.tables_outline.proofs.root.add.Goals as goal

pub returns : goal.returns
returns c =
    let added : roots.Root =
    record { kind = kind_view c.args.kind; target = c.in_ok-target.target; label = string_bytes c.args.label } in
    let gained : Gains root_cmp (root_set c.args.roots.now.keys) (added ∷ []) (root_set c.insert.new.self.keys) =
    gains_key root_cmp root_view root_total _ c.args.roots.now.keys c.insert.new.self.keys _ c.in_ok-insert.ensures.keys
    (λ a b. search rules) in
    subst (λ (t : List _). Gains root_cmp (root_set c.args.roots.now.keys)
    (record { kind = kind_view c.args.kind; target = t; label = string_bytes c.args.label } ∷ [])
    (root_set c.insert.new.self.keys)) c.in_ok-target.ensures.cases gained
