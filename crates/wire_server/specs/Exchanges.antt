-- The response to what is next on a connection.
use Rattle.std.specs.Prelude.{◌≡◌, ◌⊎◌, ℕ, ◌+◌, ◌<◌, ◌≤◌, max, true, List, [], ◌++◌, length, drop, Option, Some}
use Rattle.std.specs.Prelude.{None, Result, Ok, Err, IfSome}
use Rattle.std.specs.Io.KnownBytes.{Consumes, IsAtEnd}
use Rattle.std.specs.declared.alloc.AllocError.{AllocError}
use Rattle.httparse.specs.Grammar.{RequestHead}
use Rattle.wire_server.specs.declared.head.Head.{Head}
use Rattle.wire_server.specs.declared.error.Fault.{Fault}
use Rattle.wire_server.specs.Messages.{HoldsMessage, IsFault, ReadsTo}
use Rattle.wire_server.specs.Division.{closes}
use Rattle.wire_server.specs.Responses.{Replied, replied, refused}
use Rattle.wire_server.specs.declared.exchange.Exchange.{Exchange}
use Rattle.wire_server.specs.Answers.{body_in}
use Rattle.wire_server.specs.Serves.{refusal_of}

-- the response is the refusal of that fault, and closes the connection
abbrev pub IsRefusal : Fault → Exchange → Type 0
IsRefusal fault x = (replied x.response ≡ refused (refusal_of fault) None) × (x.close ≡ true)

-- All the bytes, with what may follow them, don't begin with a message, and the fault is reported. Of these bytes n
-- were held before, and no more were read than `ReadsTo` says.
abbrev pub HasFault : ℕ → List ℕ → Option (List ℕ) → Exchange → Type 0
HasFault n all rest x =
    (fault : Fault) × (0 < length all) × IfSome rest (λ more. IsFault (all ++ more) fault) × ReadsTo n all rest
    × IsRefusal fault x

module _ {S : Type 0} (answers : S → RequestHead → List ℕ → Replied → S → Type 0) where
  -- The bytes begin with a message, to which that may be the response.
  pub record Answers (all : List ℕ) (s : S) (r : Replied) (s' : S) : Type 0 where
    pub head : Head
    pub size : ℕ
    pub h : RequestHead
    pub holds : HoldsMessage all head size h
    pub answered : answers s h (body_in all head size) r s'

  -- The exchange has the response, after which the rest is held: at most 4,095 bytes, or no more than before.
  abbrev pub IsAnswered : ℕ → List ℕ → List ℕ → S → Exchange → S → Type 0
  IsAnswered n all held' s x s' =
      (a : Answers all s (replied x.response) s') × (x.close ≡ closes a.h)
      × (held' ≡ drop (a.head.spans.len + a.size) all) × (length held' ≤ max n 4095)

  -- nothing was answered, or the response is dropped
  abbrev pub IsLost : List ℕ → S → S → Type 0
  IsLost all s s' = (s' ≡ s) ⊎ ((r : Replied) × Answers all s r s')

  -- the result of a message
  abbrev pub Responds : ℕ → List ℕ → List ℕ → S → S → Result Exchange AllocError → Type 0
  Responds n all held' s s' (Ok x) = IsAnswered n all held' s x s'
  Responds n all held' s s' (Err e) = IsLost all s s'

  -- the result of the bytes that were held or read: nothing at the end of an input; the response to a message, or to
  -- none; or memory was refused
  abbrev pub Comes : ℕ → List ℕ → List ℕ → Option (List ℕ) → S → S → Result (Option Exchange) AllocError → Type 0
  Comes n all held' rest s s' (Ok None) = (all ≡ []) × IsAtEnd rest × (s' ≡ s)
  Comes n all held' rest s s' (Ok (Some x)) = IsAnswered n all held' s x s' ⊎ (HasFault n all rest x × (s' ≡ s))
  Comes n all held' rest s s' (Err e) = IsLost all s s'

  abbrev pub Exchanged : Option (List ℕ) → Option (List ℕ) → List ℕ → List ℕ → S → S
      → Result (Option Exchange) AllocError → Type 0
  Exchanged old new held held' s s' result =
      (read : List ℕ) × Consumes old new read × Comes (length held) (held ++ read) held' new s s' result
