use Rattle.std.proofs.Common.{◌≡◌, Some, None, sym, ap, ◌∙◌}
use Rattle.std.specs.FinMap.{get}
use Rattle.std.specs.Option.{option_copied}
use Rattle.policy.specs.Class.{holds}
use Rattle.policy.proofs.Sets.{get-map_of}
use Rattle.policy.proofs.groups.Groups.has_member.Goals as goal

pub returns-in-Some : goal.returns-in-Some
returns-in-Some c =
    let group = c.args.group.now in
    let found : get c.args.self.now group ≡ Some c.in-Some.users.now =
    ap (λ m. get m group) (sym c.self.view_is) ∙ get-map_of group c.self.inside.members.entries
    ∙ sym c.get.ensures.value ∙ ap option_copied c.in-Some.is in
    c.contains.ensures ∙ ap (λ o. holds o c.args.user.now) (sym found)

pub returns-in-None : goal.returns-in-None
returns-in-None c =
    let group = c.args.group.now in
    let missing : get c.args.self.now group ≡ None =
    ap (λ m. get m group) (sym c.self.view_is) ∙ get-map_of group c.self.inside.members.entries
    ∙ sym c.get.ensures.value ∙ ap option_copied c.in-None.is in
    ap (λ o. holds o c.args.user.now) (sym missing)
