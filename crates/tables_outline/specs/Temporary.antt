-- What one session keeps, among the temporary roots of all.
use Rattle.std.specs.Prelude.{Bool, true, false}
use Rattle.std.specs.FinMap as finite
use Rattle.paths.specs.Root.{Set}
use Rattle.model.specs.World.{Temporary, temporary_cmp}
pub use Rattle.model.specs.Effects.{entries_of_session, entries_without_session}

-- what is kept, where a path that was put stays if it was kept before, and else is removed
abbrev pub unkept : Set temporary_cmp → Temporary → Bool → Set temporary_cmp
unkept kept t true = kept
unkept kept t false = finite.remove kept t
