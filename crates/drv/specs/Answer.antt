-- The answer of a function, compared with the result of reading.
use Rattle.std.specs.Prelude.{◌≡◌, Option, Some, None, Result, Ok, Err, ⊤}
use Rattle.drv.specs.declared.error.DrvError.{DrvError}
use Rattle.drv.specs.declared.error.DrvError.TheVariants.{BadDerivation, DoubleOutput, Memory}

-- running out of memory says nothing
abbrev pub Fails : {A : Type 0} → DrvError → Option A → Type 0
Fails BadDerivation read = read ≡ None
Fails DoubleOutput read = ⊥
Fails Memory read = ⊤

-- the answer, seen by a view, is what reading gives, unless memory is refused
abbrev pub Gives : {X Y : Type 0} → (X → Y) → Result X DrvError → Option Y → Type 0
Gives view (Ok x) read = read ≡ Some (view x)
Gives view (Err e) read = Fails e read
