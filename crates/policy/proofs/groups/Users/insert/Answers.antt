use Rattle.std.proofs.Common.{true, string_bytes, ap, ◌∙◌}
use Rattle.std.specs.FinMap.{insert}
use Rattle.std.proofs.lemmas.Map.Text.{btree_set_updates_text}
use Rattle.policy.proofs.Sets.{set_of-insert}
use Rattle.policy.proofs.groups.Users.insert.Goals as goal

pub returns : goal.returns
returns c =
    let key = string_bytes c.args.name in
    set_of-insert c.self.inside.names c.insert.new.self key
    (btree_set_updates_text key c.self.inside.names c.insert.new.self true c.in_ok-insert.ensures.updates)
    ∙ ap (λ s. insert s key tt) c.self.view_is
