use Rattle.std.proofs.Common.{◌≡◌, ◌++◌, [], ◌∷◌, string_bytes, ap, ◌∙◌, rules}
use Rattle.std.specs.Arc.{arc_str_bytes}
use Rattle.paths.specs.StorePath.{is_base_name}
use Rattle.paths.proofs.PathText.{is_base_name-join}
use Rattle.paths.proofs.store_path.StorePath.join.Goals as goal

pub invariant_of-result : goal.invariant_of-result
invariant_of-result c =
    let joined : arc_str_bytes c.in_ok-base.base ≡ string_bytes c.args.digits ++ 45 ∷ [] ++ c.args.name.now =
    search rules in
    ap is_base_name joined ∙ is_base_name-join _ _ c.requires.count c.requires.digits c.requires.name
