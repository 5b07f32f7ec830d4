-- What a test returns.
use Rattle.std.specs.Prelude.{◌≡◌, Option, Some, None, Result, Ok, Err}
use Rattle.model.specs.declared.refusal.Refusal.{Refusal}
use Rattle.tables_sql.specs.declared.failure.Failed.TheVariants.{Memory}
use Rattle.store_types.specs.declared.replies.Stop.{Stop}
use Rattle.store_types.specs.declared.replies.Stop.TheVariants.{Refused, Failed}

-- a test that takes no memory passes, or its refusal is reported
abbrev pub Tested : {A : Type 0} → Result A Refusal → Option Refusal → Type 0
Tested (Ok a) fault = fault ≡ None
Tested (Err r) fault = fault ≡ Some r

-- a test that takes no memory returns a value, as contracts see it, if no fault is found; or the fault is reported
abbrev pub Finds : {A B : Type 0} → (A → B) → Result A Refusal → Option Refusal → B → Type 0
Finds view (Ok a) fault b = (fault ≡ None) × (view a ≡ b)
Finds view (Err r) fault b = fault ≡ Some r

-- the refusal is reported; a test that reads no disk fails for memory alone
abbrev pub Stops : Stop → Option Refusal → Type 0
Stops (Refused r) fault = fault ≡ Some r
Stops (Failed f) fault = f ≡ Memory

-- a test that takes memory passes, or its refusal is reported, or it runs out of memory
abbrev pub Passes : {A : Type 0} → Result A Stop → Option Refusal → Type 0
Passes (Ok a) fault = fault ≡ None
Passes (Err stop) fault = Stops stop fault

-- tests that take memory return a value, as contracts see it, if no fault is found; or the fault is reported, or memory
-- runs out
abbrev pub Gives : {A B : Type 0} → (A → B) → Result A Stop → Option Refusal → B → Type 0
Gives view (Ok a) fault b = (fault ≡ None) × (view a ≡ b)
Gives view (Err stop) fault b = Stops stop fault
