-- Paths in order, of which some may be the same.
use Rattle.std.specs.Prelude.{◌≡◌, List, [], ◌∷◌, false, ⊤}
use Rattle.std.specs.List.{AllByRecursion}
use Rattle.std.specs.Ordering.{is_lt}
use Rattle.paths.specs.Root.{bytes_cmp}
use Rattle.model.specs.World.{Path}

-- none is below one that comes before it
abbrev pub Rises : List Path → Type 0
Rises [] = ⊤
Rises (p ∷ ps) = AllByRecursion (λ q. is_lt (bytes_cmp q p) ≡ false) ps × Rises ps
