-- The next message of a connection, whole.
use Rattle.std.specs.Prelude.{◌≡◌, ℕ, ◌+◌, List, ◌++◌, drop, Option, Result, Ok, Err}
use Rattle.std.specs.Io.KnownBytes.{Consumes}
use Rattle.httparse.specs.Grammar.{RequestHead}
use Rattle.wire_server.specs.declared.head.Head.{Head}
use Rattle.wire_server.specs.Bodies.{IsOfReading}
use Rattle.wire_server.specs.Heads.{Holds}
use Rattle.wire_server.specs.Messages.{IsReceived, AwaitsMore, HoldsMessage, HoldsTo}
use Rattle.wire_server.specs.Responses.{Replied}
use Rattle.wire_server.specs.Answers.{body_in, IsReady}
use Rattle.wire_server.specs.declared.responder.Begun.{Begun}
use Rattle.wire_server.specs.declared.error.WireError.{WireError}
use Rattle.wire_server.specs.declared.error.WireError.TheVariants.{Read}
use Rattle.wire_server.specs.declared.message.Received.{Received}

module _ {S C B : Type 0} (answers : S → RequestHead → List ℕ → Replied → S → Type 0)
    (decides : S → RequestHead → C → Type 0) (represents : B → List ℕ → Type 0) (s : S) (n : ℕ) where
  -- The bytes begin with a message whose whole body came, and which is answered in this way. The head, and what
  -- follows the message, are held. Before, n bytes were held.
  pub record Whole (all held : List ℕ) (head : Head) (size : ℕ) (ready : Begun (C × B)) : Type 0 where
    pub h : RequestHead
    pub message : HoldsMessage all head size h
    pub holds : Holds held head h
    pub answerable : IsReady answers decides represents s h (body_in all head size) ready
    pub rest : drop (head.spans.len + size) held ≡ drop (head.spans.len + size) all
    pub near : HoldsTo n head.spans.len held

  -- the bytes that were held or read begin with such a message
  abbrev pub Arrived : List ℕ → List ℕ → Option (List ℕ) → Received (Head × ℕ × Begun (C × B)) → Type 0
  Arrived all held = IsReceived n (λ it. Whole all held it.0 it.1 it.2) all

  -- the bytes were received; or the reading failed, while more was awaited if a read did
  abbrev pub Brings : List ℕ → List ℕ → Option (List ℕ) → Result (Received (Head × ℕ × Begun (C × B))) WireError
      → Type 0
  Brings all held rest (Ok next) = Arrived all held rest next
  Brings all held rest (Err e) = IsOfReading e × (e ≡ Read → AwaitsMore all)

  abbrev pub Arrives : Option (List ℕ) → Option (List ℕ) → List ℕ → List ℕ
      → Result (Received (Head × ℕ × Begun (C × B))) WireError → Type 0
  Arrives old new held held' result = (read : List ℕ) × Consumes old new read × Brings (held ++ read) held' new result
