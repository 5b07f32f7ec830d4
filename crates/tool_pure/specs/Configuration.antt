-- The text of the configuration, by its file.
use Rattle.std.specs.Prelude.{◌≡◌, ◌⊎◌, ◌<◌, ℕ, length, List, [], Option, Some, None, IfSome, Result, Ok, Err, Vec}
use Rattle.std.specs.Prelude.{take}
use Rattle.std.specs.declared.alloc.Global.{Global}
use Rattle.std.specs.declared.io.Error.{Error}
use Rattle.model.specs.declared.failures.Failure.TheVariants.{Memory, File}
use Rattle.tool_pure.specs.declared.stops.Stop.{Stop}
use Rattle.tool_pure.specs.declared.stops.Stop.TheVariants.{Failed}

-- the configuration file: none is named; the file wasn't opened; or it was opened and has these bytes, if the stream
-- shows them
abbrev pub Opened : Type 0
Opened = Option (Result (Option (List ℕ)) Error)

-- a file of the code as what was opened, by the bytes that it has
abbrev pub opened_by : {R : Type 0} → (R → Option (List ℕ)) → Option (Result R Error) → Opened
opened_by remaining None = None
opened_by remaining (Some (Ok input)) = Some (Ok (remaining input))
opened_by remaining (Some (Err fault)) = Some (Err fault)

-- how many bytes of a configuration file are read: one more than a configuration has at most
abbrev pub most_of_config : ℕ
most_of_config = 1048577

-- The text of the configuration: the empty text if no file is named, else the bytes of the file, no more of them than
-- decide that they are too many. Or why the text can't be read: the file wasn't opened or can't be read, or memory was
-- refused for bytes of the file.
abbrev pub IsConfig : Opened → Result (List ℕ) Stop → Type 0
IsConfig None read = read ≡ Ok []
IsConfig (Some (Err fault)) (Ok text) = ⊥
IsConfig (Some (Err fault)) (Err stop) = stop ≡ Failed File
IsConfig (Some (Ok known)) (Ok text) = IfSome known (λ all. text ≡ take most_of_config all)
IsConfig (Some (Ok known)) (Err stop) =
    ((stop ≡ Failed Memory) × IfSome known (λ all. 0 < length all)) ⊎ (stop ≡ Failed File)

-- the bytes that were read of a file, or why they couldn't be
abbrev pub read_bytes : Result (Vec ℕ Global) Stop → Result (List ℕ) Stop
read_bytes (Ok text) = Ok text.items
read_bytes (Err stop) = Err stop
