-- What a connection writes for what it reads.
use Rattle.std.specs.Prelude.{◌≡◌, ◌⊎◌, ℕ, ◌<◌, ◌≤◌, ◌-◌, ◌^◌, true, false, min, cond, List, [], ◌∷◌, ◌++◌, length, take}
use Rattle.std.specs.Prelude.{Option, Some, None, Result, Ok, Err, ⊤}
use Rattle.std.specs.List.{flat_map}
use Rattle.std.specs.Io.KnownBytes.{Appends}
use Rattle.httparse.specs.Grammar.{RequestHead}
use Rattle.wire_server.specs.Messages.{IsMessage, IsFault, EndsInside, AwaitsMore, HoldsLittle}
use Rattle.wire_server.specs.Division.{Item, message, faulty, closes, Divides}
use Rattle.wire_server.specs.declared.error.Fault.{Fault}
use Rattle.wire_server.specs.declared.error.Fault.TheVariants.{BadHead, BadLength, TooLarge}
use Rattle.model.specs.declared.refusal.Refusal.{Refusal}
use Rattle.model.specs.declared.refusal.Refusal.TheVariants as refusals
use Rattle.wire_server.specs.Responses.{Replied, refused, reply_bytes}
use Rattle.wire_server.specs.declared.error.WireError.{WireError}
use Rattle.wire_server.specs.declared.error.WireError.TheVariants.{Read, Write, Memory}

-- the refusal of an input that doesn't begin with a message
abbrev pub refusal_of : Fault → Refusal
refusal_of BadHead = refusals.BadHead
refusal_of BadLength = refusals.BadBodyLength
refusal_of TooLarge = refusals.BodyTooLarge

-- the reply for that refusal, after which the connection is closed
abbrev pub fault_reply : Fault → List ℕ
fault_reply fault = reply_bytes true (refused (refusal_of fault) None)

-- The input begins with these items; what follows the last of them was not examined.
abbrev pub Begins : List ℕ → List Item → Type 0
Begins input [] = ⊤
Begins input (message h body ∷ items) =
    (rest : List ℕ) × IsMessage input h body rest × cond (closes h) (items ≡ []) (Begins rest items)
Begins input (faulty fault ∷ items) = (0 < length input) × IsFault input fault × (items ≡ [])

-- an input that may show its bytes is divided into items, whole or not
abbrev pub DividesAll : Option (List ℕ) → List Item → Type 0
DividesAll None items = ⊤
DividesAll (Some all) items = Divides all items

abbrev pub BeginsWith : Option (List ℕ) → List Item → Type 0
BeginsWith None items = ⊤
BeginsWith (Some all) items = Begins all items

-- What was read of an input, of which `left` is left: these messages, and at most 4,095 bytes after the last of them.
-- Where no message begins, at most 20,479 bytes were read, and at most 4,095 of them after a head, or after a line,
-- more than line ends, that shows that there is none; or all, if the input ends inside a body.
abbrev pub Takes : List ℕ → List Item → List ℕ → Type 0
Takes input [] left = (ahead : List ℕ) × (input ≡ ahead ++ left) × (length ahead ≤ 4095)
Takes input (message h body ∷ items) left = (rest : List ℕ) × IsMessage input h body rest × Takes rest items left
Takes input (faulty fault ∷ items) left =
    (read : List ℕ) × (input ≡ read ++ left) × (((left ≡ []) × EndsInside input) ⊎ HoldsLittle 4095 read)

abbrev pub TakesAll : Option (List ℕ) → Option (List ℕ) → List Item → Type 0
TakesAll None left items = ⊤
TakesAll (Some all) None items = ⊥
TakesAll (Some all) (Some left) items = Takes all items left

-- What was read of an input where a read failed, of which `left` is left: these messages, and after them
-- bytes of which more was awaited.
abbrev pub Awaits : List ℕ → List Item → List ℕ → Type 0
Awaits input [] left = (ahead : List ℕ) × (input ≡ ahead ++ left) × AwaitsMore ahead
Awaits input (message h body ∷ items) left = (rest : List ℕ) × IsMessage input h body rest × Awaits rest items left
Awaits input (faulty fault ∷ items) left = ⊥

abbrev pub AwaitsAll : Option (List ℕ) → Option (List ℕ) → List Item → Type 0
AwaitsAll None left items = ⊤
AwaitsAll (Some all) None items = ⊥
AwaitsAll (Some all) (Some left) items = Awaits all items left

-- all of some replies
abbrev pub joined : List (List ℕ) → List ℕ
joined replies = flat_map (λ reply. reply) replies

-- after these items the connection stays open
abbrev pub StayOpen : List Item → Type 0
StayOpen [] = ⊤
StayOpen (message h body ∷ items) = (closes h ≡ false) × StayOpen items
StayOpen (faulty fault ∷ items) = ⊥

-- What was written at an error. If the reader failed: all of the replies, to items that leave the connection open. If
-- the writer failed: all but the last, and a prefix of the last that isn't whole. If memory was refused: all, to such
-- items; or all but the last.
abbrev pub IsWritten : WireError → List Item → List (List ℕ) → List ℕ → Type 0
IsWritten Read items replies bytes = StayOpen items × (bytes ≡ joined replies)
IsWritten Write items replies bytes =
    (before : List (List ℕ)) × (last : List ℕ) × (n : ℕ) × (replies ≡ before ++ last ∷ []) × (n < length last)
    × (bytes ≡ joined before ++ take n last)
IsWritten Memory items replies bytes =
    (StayOpen items × (bytes ≡ joined replies))
    ⊎ ((before : List (List ℕ)) × (last : List ℕ) × (replies ≡ before ++ last ∷ []) × (bytes ≡ joined before))

-- a number of messages as it is reported: it stays at 2^64 - 1
abbrev pub reported : ℕ → ℕ
reported n = min n (2 ^ 64 - 1)

module _ {S : Type 0} (answers : S → RequestHead → List ℕ → Replied → S → Type 0) where
  -- each item has its reply, one after another
  abbrev pub Replies : S → List Item → List (List ℕ) → S → Type 0
  Replies s [] [] new = new ≡ s
  Replies s (message h body ∷ items) (reply ∷ replies) new =
      (mid : S) × (r : Replied) × answers s h body r mid × (reply ≡ reply_bytes (closes h) r)
      × Replies mid items replies new
  Replies s (faulty fault ∷ items) (reply ∷ replies) new = (reply ≡ fault_reply fault) × Replies s items replies new
  Replies s [] (reply ∷ replies) new = ⊥
  Replies s (item ∷ items) [] new = ⊥

  -- The input divides into this number of items, and what was written is all of their replies. (After 2^128 - 1 of them
  -- the connection is left, whatever follows.)
  pub record Serves (input input' output output' : Option (List ℕ)) (old new : S) (count : ℕ) : Type 0 where
    pub items : List Item
    pub replies : List (List ℕ)
    pub counted : count ≡ reported (length items)
    pub prefix : BeginsWith input items
    pub whole : length items < 2 ^ 128 - 1 → DividesAll input items
    pub read : TakesAll input input' items
    pub answered : Replies old items replies new
    pub written : Appends output output' (joined replies)

  -- The connection was broken off after items that the input begins with, for that error. If the writer failed, no more
  -- was read than `Takes` says; if the reader did, than `Awaits` says.
  pub record Stops (input input' output output' : Option (List ℕ)) (old new : S) (fault : WireError) : Type 0 where
    pub items : List Item
    pub replies : List (List ℕ)
    pub bytes : List ℕ
    pub prefix : BeginsWith input items
    pub read : fault ≡ Write → TakesAll input input' items
    pub awaited : fault ≡ Read → AwaitsAll input input' items
    pub answered : Replies old items replies new
    pub written : IsWritten fault items replies bytes
    pub appended : Appends output output' bytes

  abbrev pub Served : Option (List ℕ) → Option (List ℕ) → Option (List ℕ) → Option (List ℕ) → S → S
      → Result ℕ WireError → Type 0
  Served input input' output output' old new (Ok n) = Serves input input' output output' old new n
  Served input input' output output' old new (Err e) = Stops input input' output output' old new e
