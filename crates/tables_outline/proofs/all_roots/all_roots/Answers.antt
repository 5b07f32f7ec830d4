use Rattle.std.proofs.Common.{[], ◌++◌, map, ◌||◌, sym, ap, ◌∙◌, subst}
use Rattle.std.specs.List.{flat_map}
use Rattle.std.specs.FinMap as finite
use Rattle.paths.specs.Root.{root_cmp, set_of}
use Rattle.live.proofs.Order.{root_total, root_antisymmetric, same_set, contains_key-set_of}
use Rattle.model.specs.World.{permanent_root, user_root, generation_roots, runtime_root, temporary_root}
use Rattle.tables_outline.specs.Gaining.{has_tied, Gains}
use Rattle.tables_outline.specs.RootSet.{root_set}
use Rattle.tables_outline.proofs.Sets.{gains_both}
use Rattle.tables_outline.proofs.all_roots.all_roots.Goals as goal

pub returns : goal.returns
returns c =
    let o = c.args.outline.now in
    let permanent = map permanent_root (finite.entries o.permanent) in
    let users = map user_root (finite.entries o.user_roots) in
    let generations = flat_map generation_roots (finite.entries o.profiles) in
    let runtime = map runtime_root (finite.keys o.runtime) in
    let temporary = map temporary_root (finite.keys o.temporary) in
    let first : Gains root_cmp (root_set []) permanent (root_set c.add_permanent.new.roots.keys) =
    subst (λ keys. Gains root_cmp (root_set keys) permanent (root_set c.add_permanent.new.roots.keys))
    c.new-roots.ensures.empty c.in_ok-add_permanent.ensures in
    let second =
    gains_both root_cmp (root_set []) (root_set c.add_permanent.new.roots.keys)
    (root_set c.add_users.new.roots.keys) permanent users first c.in_ok-add_users.ensures in
    let third =
    gains_both root_cmp (root_set []) (root_set c.add_users.new.roots.keys) (root_set c.add_profiles.new.roots.keys)
    (permanent ++ users) generations second c.in_ok-add_profiles.ensures in
    let fourth =
    gains_both root_cmp (root_set []) (root_set c.add_profiles.new.roots.keys)
    (root_set c.add_runtime.new.roots.keys) (permanent ++ users ++ generations) runtime third
    c.in_ok-add_runtime.ensures in
    let all =
    gains_both root_cmp (root_set []) (root_set c.add_runtime.new.roots.keys)
    (root_set c.add_temporary.new.roots.keys) ((permanent ++ users ++ generations) ++ runtime) temporary fourth
    c.in_ok-add_temporary.ensures in
    let listed = (permanent ++ users ++ generations) ++ runtime ++ temporary in
    same_set root_total root_antisymmetric (root_set c.add_temporary.new.roots.keys) (set_of root_cmp listed)
    (λ q. all q ∙ ap (λ b. b || has_tied root_cmp q listed) (contains_key-set_of root_total [] q)
    ∙ sym (contains_key-set_of root_total listed q))
