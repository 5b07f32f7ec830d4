-- How an input divides from its beginning into messages, and what one read of a message leaves.
use Rattle.std.specs.Prelude.{◌≡◌, ◌⊎◌, ℕ, ◌+◌, ◌<◌, ◌≤◌, max, List, [], ◌++◌, length, Option, Result, Ok, Err, Bool}
use Rattle.std.specs.Prelude.{true, false, IfOk, IfErr, IfSome, OnOk, IsErr}
use Rattle.std.specs.Io.KnownBytes.{Consumes, IsAtEnd}
use Rattle.httparse.specs.Grammar.{RequestHead, print_request, ReadsRequest, HasNoRequest}
use Rattle.httparse.specs.declared.Status.{Status}
use Rattle.httparse.specs.declared.Status.TheVariants.{Complete, Partial}
use Rattle.wire_server.specs.Heads.{IsHead, HasNoHead, Holds, ShowsNoHead, ShowsNothing, has_begun_in, max_head}
use Rattle.wire_server.specs.Fields.{fields_of, body_length}
use Rattle.wire_server.specs.declared.head.Head.{Head}
use Rattle.wire_server.specs.declared.error.Fault.{Fault}
use Rattle.wire_server.specs.declared.error.Fault.TheVariants.{BadHead, BadLength, TooLarge}
use Rattle.wire_server.specs.declared.error.WireError.{WireError}
use Rattle.wire_server.specs.declared.error.WireError.TheVariants.{Read}
use Rattle.wire_server.specs.Bodies.{IsOfReading}
use Rattle.wire_server.specs.declared.message.Received.{Received}
use Rattle.wire_server.specs.declared.message.Received.TheVariants.{End, Message, Faulty}

-- The input begins with a message of this head and this body, and rest follows it.
pub record IsMessage (input : List ℕ) (h : RequestHead) (body rest : List ℕ) : Type 0 where
  pub head : IsHead input h (body ++ rest)
  pub size : body_length (fields_of h) ≡ Ok (length body)

-- the input begins with a head, and the length that its fields state has this fault
abbrev pub FaultOfHead : List ℕ → Fault → Type 0
FaultOfHead input fault =
    (h : RequestHead) × (after : List ℕ) × IsHead input h after × (body_length (fields_of h) ≡ Err fault)

-- the input begins with a head, and ends inside its body: fewer bytes follow the head than its fields state
abbrev pub EndsInside : List ℕ → Type 0
EndsInside input =
    (h : RequestHead) × (after : List ℕ) × (size : ℕ) × IsHead input h after × (body_length (fields_of h) ≡ Ok size)
    × (length after < size)

-- More is awaited: the bytes begin with no head, are fewer than the most bytes of one, and no line, but one of line
-- ends alone, shows that there is none; or they end inside a body.
abbrev pub AwaitsMore : List ℕ → Type 0
AwaitsMore bytes = (HasNoRequest bytes × (length bytes < max_head) × ShowsNothing bytes) ⊎ EndsInside bytes

-- The input begins with no message, for this fault.
abbrev pub IsFault : List ℕ → Fault → Type 0
IsFault input BadHead = HasNoHead input
IsFault input BadLength = FaultOfHead input BadLength ⊎ EndsInside input
IsFault input TooLarge = FaultOfHead input TooLarge

-- ---- reading

-- the result of a look at the bytes so far is right, whatever follows them
abbrev pub LookFinds : List ℕ → Result (Status Head) Fault → Type 0
LookFinds buf (Ok (Complete head)) = (h : RequestHead) × Holds buf head h
LookFinds buf (Ok Partial) = HasNoRequest buf × (length buf < max_head)
LookFinds buf (Err fault) = (more : List ℕ) → IsFault (buf ++ more) fault

-- a line that ends after the bytes that were seen, and shows that there is no head, is answered at once
abbrev pub FindsSoon : {T : Type 0} → List ℕ → ℕ → Result T Fault → Type 0
FindsSoon buf seen result = (line after : List ℕ) → ShowsNoHead buf line after → seen ≤ length line → IsErr result

-- One more read: the bytes that it took, at most 4,096, are appended to those that were held. It took at least one
-- byte, or the input was at its end. If the read failed it took none.
pub record ReadsMore (old new : Option (List ℕ)) (held held' : List ℕ)
    (result : Result Bool WireError) : Type 0 where
  pub consumed : (bs : List ℕ) × Consumes old new bs × OnOk result (held' ≡ held ++ bs)
      × IfErr result (λ e. e ≡ Read → bs ≡ [])
  pub some : result ≡ Ok true → length held < length held'
  pub at_end : result ≡ Ok false → IsAtEnd new × (held' ≡ held)
  pub few : IfOk result (λ _. length held' ≤ length held + 4096)
  pub fault : IfErr result IsOfReading

-- At most n bytes are held, as many as were held before, or at most 4,095 after this end.
abbrev pub HoldsTo : ℕ → ℕ → List ℕ → Type 0
HoldsTo n end held = length held ≤ max n (end + 4095)

-- No more is held than `HoldsTo` allows after the most bytes of a head, after the head of a request, however long, and
-- after a line, more than line ends, that shows that there is none.
pub record HoldsLittle (n : ℕ) (bytes : List ℕ) : Type 0 where
  pub most : HoldsTo n max_head bytes
  pub head : (h : RequestHead) (after : List ℕ) → ReadsRequest bytes h after
      → HoldsTo n (length (print_request h)) bytes
  pub line : (line after : List ℕ) → ShowsNoHead bytes line after → has_begun_in line ≡ true
      → HoldsTo n (length line + 1) bytes

-- How far an input was read where no message begins: to its end, if it ends inside a body; or no further than
-- `HoldsLittle` says.
abbrev pub ReadsTo : ℕ → List ℕ → Option (List ℕ) → Type 0
ReadsTo n bytes rest = (IsAtEnd rest × EndsInside bytes) ⊎ HoldsLittle n bytes

-- The bytes, with what may follow them, begin with what this says of them; or with no message, for that fault, and then
-- no more were read than `ReadsTo` says; or there are none, at the end of the input. Before, n bytes were held.
abbrev pub IsReceived : {T : Type 0} → ℕ → (T → Type 0) → List ℕ → Option (List ℕ) → Received T → Type 0
IsReceived n is bytes rest End = (bytes ≡ []) × IsAtEnd rest
IsReceived n is bytes rest (Message it) = is it
IsReceived n is bytes rest (Faulty fault) =
    (0 < length bytes) × IfSome rest (λ more. IsFault (bytes ++ more) fault) × ReadsTo n bytes rest

-- the bytes that are held begin with this head, and little more was read
abbrev pub Starts : ℕ → List ℕ → Option (List ℕ) → Received Head → Type 0
Starts n held =
    IsReceived n
    (λ head. (0 < length held) × ((h : RequestHead) × Holds held head h) × HoldsTo n head.spans.len held) held

-- the bytes that are held begin with the head of a message and its body of that size
pub record HoldsMessage (held : List ℕ) (head : Head) (size : ℕ) (h : RequestHead) : Type 0 where
  pub holds : Holds held head h
  pub states : body_length (fields_of h) ≡ Ok size
  pub whole : head.spans.len + size ≤ length held

-- the bytes that are held begin with a head that states this size of its body
abbrev pub HoldsHead : List ℕ → Head → ℕ → Type 0
HoldsHead held head size = (h : RequestHead) × Holds held head h × (body_length (fields_of h) ≡ Ok size)

-- the bytes that are held begin with such a head, and little more was read
abbrev pub Announces : ℕ → List ℕ → Option (List ℕ) → Received (Head × ℕ) → Type 0
Announces n held = IsReceived n (λ it. HoldsHead held it.0 it.1 × HoldsTo n it.0.spans.len held) held

-- The bytes that were read are appended to those that were held, and the result is right for them and for what may
-- follow, or it is an error of the reading. If a read failed, more was awaited.
abbrev pub Receives : {A : Type 0} → (List ℕ → Option (List ℕ) → A → Type 0) → Option (List ℕ) → Option (List ℕ)
    → List ℕ → List ℕ → Result A WireError → Type 0
Receives is old new held held' result =
    ((bs : List ℕ) × Consumes old new bs × OnOk result (held' ≡ held ++ bs)
    × IfErr result (λ e. e ≡ Read → AwaitsMore (held ++ bs)))
    × IfOk result (is held' new) × IfErr result IsOfReading
