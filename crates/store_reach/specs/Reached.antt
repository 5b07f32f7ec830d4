-- What a walk back from some paths found, by links that are kept turned round.
use Rattle.std.specs.Prelude.{◌≡◌, ℕ, ◌<◌, All, Bool, false, true, List, length, map}
use Rattle.std.specs.List.{list_any}
use Rattle.live.specs.Graph.{Graph, Keep, Path}
use Rattle.live.specs.Reaching.{Reaching, is_marked, reaches_any}
use Rattle.tables_outline.specs.Links.{LinksValue, is_held}
use Rattle.tables_outline.specs.LinkNames.{name_at}

-- numbers of those of some paths that are objects': a test that no other path passes is passed by one of their paths if
-- and only if one of the given passes it
pub record AreNumbersOf (l : LinksValue) (named : List Path) (numbers : List ℕ) : Type 0 where
  pub inside : All (λ i. i < length l.names) numbers
  pub held : All (λ i. is_held l (name_at l.names i) ≡ true) numbers
  pub those : (test : Path → Bool) → ((p : Path) → is_held l p ≡ false → test p ≡ false)
      → list_any test (map (name_at l.names) numbers) ≡ list_any test named

-- the marks are those of the numbers whose paths reach a named one, in a graph of which these are the links
abbrev pub IsFound : Keep → Graph → LinksValue → List Path → Reaching → Type 0
IsFound keep g l named r =
    (i : ℕ) → i < length l.names → is_marked r i ≡ reaches_any keep g named (name_at l.names i)
