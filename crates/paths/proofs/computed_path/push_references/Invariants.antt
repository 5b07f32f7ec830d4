use Rattle.std.proofs.Common.{◌≡◌, ◌++◌, take, map, string_bytes}
use Rattle.std.specs.List.{flat_map}
use Rattle.paths.specs.Path.{reference_part}
use Rattle.paths.proofs.computed_path.push_references.Given as goal

abbrev pub invariant-loop-base : goal.invariant-loop-base
invariant-loop-base l =
    string_bytes l.text ≡ string_bytes l.initial.text
    ++ flat_map (reference_part l.dir) (map (λ s. s.now) (take l.base-index l.bases))
