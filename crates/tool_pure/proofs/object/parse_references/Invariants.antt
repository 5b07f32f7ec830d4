use Rattle.std.proofs.Common.{◌≡◌, map, take, true}
use Rattle.std.specs.List.{list_all}
use Rattle.paths.specs.StorePath.{base_of}
use Rattle.tool_pure.specs.Object.{is_path_text}
use Rattle.tool_pure.proofs.object.parse_references.Given as goal

abbrev pub invariant-loop-text : goal.invariant-loop-text
invariant-loop-text g l =
    (l.paths.items ≡ map (λ t. base_of l.dir (g.S.AsStr.text t)) (take l.text-index l.texts))
    × (list_all (λ t. is_path_text l.dir (g.S.AsStr.text t)) (take l.text-index l.texts) ≡ true)
