use Rattle.std.proofs.Common.{Some, string_bytes, ap, ◌∙◌}
use Rattle.std.specs.FinMap.{insert}
use Rattle.std.proofs.lemmas.Map.Text.{btree_map_updates_text}
use Rattle.policy.proofs.Sets.{map_of-insert}
use Rattle.policy.proofs.groups.Groups.insert.Goals as goal

pub returns : goal.returns
returns c =
    let key = string_bytes c.args.name in
    map_of-insert c.self.inside.members c.insert.new.self key c.args.users
    (btree_map_updates_text key c.self.inside.members c.insert.new.self (Some c.args.users)
    c.in_ok-insert.ensures.updates)
    ∙ ap (λ m. insert m key c.args.users) c.self.view_is
