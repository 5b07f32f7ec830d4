-- What a writer has after it was given a reply.
use Rattle.std.specs.Prelude.{ℕ, List, Option, Result, Ok, Err}
use Rattle.std.specs.Io.KnownBytes.{Appends, Keeps}
use Rattle.streams.specs.Sends.{AppendsPrefix}
use Rattle.wire_server.specs.declared.error.WireError.{WireError}
use Rattle.wire_server.specs.declared.error.WireError.TheVariants.{Read, Write, Memory}

-- all of the reply; if the writer failed, a prefix that isn't the whole; if memory was refused, nothing. No reader is
-- involved
abbrev pub SendsReply : Option (List ℕ) → Option (List ℕ) → List ℕ → Result (Unit {0}) WireError → Type 0
SendsReply old new reply (Ok u) = Appends old new reply
SendsReply old new reply (Err Read) = ⊥
SendsReply old new reply (Err Write) = AppendsPrefix old new reply
SendsReply old new reply (Err Memory) = Keeps old new
