-- A head and a text that go out one after the other.
use Rattle.std.proofs.Common.{◌++◌, ℕ, List, Option, Result, Ok, Err}
use Rattle.std.specs.Io.KnownBytes.{Appends}
use Rattle.std.specs.declared.io.Error.{Error}
use Rattle.std.proofs.KnownBytes.{Appends-trans}
use Rattle.streams.specs.Sends.{Sends}
use Rattle.streams.proofs.Sending.{prefix-second}

pub sends_second : (a b c : Option (List ℕ)) (head text : List ℕ) (result : Result (Unit {0}) Error) → Appends a b head
    → Sends b c text result → Sends a c (head ++ text) result
sends_second a b c head text (Ok u) first second = Appends-trans a b c head text first second
sends_second a b c head text (Err fault) first second = prefix-second a b c head text first second
