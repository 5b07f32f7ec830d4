-- Changes that are made whole, or not at all.
use Rattle.std.specs.Prelude.{◌≡◌, Result, IfOk, OnOk, OnErr}

-- A call makes this of a value. If memory is refused, nothing changes.
pub record ChangesTo {V T E : Type 0} (old new : V) (result : Result T E) (after : V) : Type 0 where
  pub done : OnOk result (new ≡ after)
  pub failed : OnErr result (new ≡ old)

-- A call puts something, which makes this of a value, and returns what was in its place. If memory is refused, nothing
-- changes.
pub record PutsOver {V T E : Type 0} (old new : V) (result : Result T E) (after : V) (was : T) : Type 0 where
  pub done : OnOk result (new ≡ after)
  pub had : IfOk result (λ had. had ≡ was)
  pub failed : OnErr result (new ≡ old)
