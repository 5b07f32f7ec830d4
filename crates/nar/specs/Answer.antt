-- What an error says: a fault of the input, or that memory was refused.
use Rattle.std.specs.Prelude.{◌≢◌}
use Rattle.nar.specs.declared.error.NarError.{NarError}
use Rattle.nar.specs.declared.error.NarError.TheVariants.{Memory}

-- the fact about the fault, unless the error is out of memory
abbrev pub IfFault : NarError → (NarError → Type 0) → Type 0
IfFault e P = e ≢ Memory → P e
