use Rattle.std.proofs.Common.{sym, ap, ◌∙◌}
use Rattle.std.specs.FinMap.{contains_key}
use Rattle.policy.proofs.Sets.{contains_key-set_of}
use Rattle.policy.proofs.groups.Users.contains.Goals as goal

pub returns : goal.returns
returns c =
    c.contains.ensures ∙ sym (contains_key-set_of c.args.name.now c.self.inside.names.keys)
    ∙ ap (λ s. contains_key s c.args.name.now) c.self.view_is
