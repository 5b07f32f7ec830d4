-- Failures, and the line of each.
use Rattle.std.specs.Prelude.{ℕ, List, codes}
use Rattle.model.specs.Reply.{Failed, memory, size, disk}
use Rattle.model.specs.declared.failures.Failure.{Failure}
use Rattle.model.specs.declared.failures.Failure.TheVariants.{Memory, Size, Disk, File, Input, Output}

-- the line of a failure
abbrev pub failure_line : Failure → List ℕ
failure_line Memory = codes "failed: memory\n"
failure_line Size = codes "failed: size\n"
failure_line Disk = codes "failed: disk\n"
failure_line File = codes "failed: file\n"
failure_line Input = codes "failed: input\n"
failure_line Output = codes "failed: output\n"

-- a failure of a store, among all
abbrev pub of_store : Failed → Failure
of_store memory = Memory
of_store size = Size
of_store disk = Disk
