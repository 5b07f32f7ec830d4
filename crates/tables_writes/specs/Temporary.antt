-- What sessions keep.
use Rattle.std.specs.Prelude.{ℕ, List}
use Rattle.model.specs.World.{Path, Temporary}

-- a session of an owner keeps a path
abbrev pub keeps : List ℕ → ℕ → Path → Temporary
keeps owner session path = record { owner = owner; session = session; path = path }
