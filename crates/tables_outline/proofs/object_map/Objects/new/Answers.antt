use Rattle.std.proofs.Common.{List, ℕ, ap}
use Rattle.paths.specs.Root.{bytes_cmp}
use Rattle.tables_outline.specs.Maps.{seen_map}
use Rattle.tables_outline.specs.Outline.{Outlined}
use Rattle.tables_outline.proofs.object_map.Objects.new.Goals as goal

pub returns : goal.returns
returns c = ap (seen_map bytes_cmp (λ (p : List ℕ). p) (λ (o : Outlined). o)) c.new.ensures.empty
