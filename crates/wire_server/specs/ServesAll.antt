-- Serving of connections, one after another.
use Rattle.std.specs.Prelude.{◌≡◌, ℕ, ◌<◌, ◌+◌, List, [], ◌∷◌, length, map, Option, Result, Ok, Err}
use Rattle.std.specs.Io.KnownBytes.{Keeps}
use Rattle.std.specs.declared.io.Error.{Error}
use Rattle.httparse.specs.Grammar.{RequestHead}
use Rattle.wire_server.specs.Responses.{Replied}
use Rattle.wire_server.specs.Peers.{IsFresh, ClosesPeers, AcceptsPeers, CountsFaults}
use Rattle.wire_server.specs.Serves.{Served}
use Rattle.wire_server.specs.Sessions.{Says, failure, result_of}
use Rattle.wire_server.specs.declared.connection.End.{End}

-- a connection: what its peer sent, what was left of that as it was closed, what was written to the peer, and how it
-- ended
pub record Session : Type 0 where
  pub input : Option (List ℕ)
  pub left : Option (List ℕ)
  pub output : Option (List ℕ)
  pub end : End

-- how many connections failed
abbrev pub failures : List Session → ℕ
failures [] = 0
failures (session ∷ sessions) = failure session.end + failures sessions

module _ {S : Type 0} (answers : S → RequestHead → List ℕ → Replied → S → Type 0) where
  -- each connection is served from the state that the one before it left, and its line on the errors follows the line
  -- of that one
  abbrev pub Follow : S → Option (List ℕ) → List Session → S → Option (List ℕ) → Type 0
  Follow old err [] new err' = (new ≡ old) × Keeps err err'
  Follow old err (session ∷ sessions) new err' =
      (fresh : Option (List ℕ)) × (mid : S) × (said : Option (List ℕ)) × IsFresh fresh
      × Served answers session.input session.left fresh session.output old mid (result_of session.end)
      × Says session.end err said × Follow mid said sessions new err'

  -- connections were accepted from a listener, served, and closed
  pub record Serves (waiting waiting' closed closed' unread unread' : Option (List (List ℕ)))
      (err err' : Option (List ℕ)) (old new : S) (sessions : List Session) : Type 0 where
    pub accepted : AcceptsPeers waiting waiting' (map (λ session. session.input) sessions)
    pub left : ClosesPeers closed closed' (map (λ session. session.output) sessions)
    pub rest : ClosesPeers unread unread' (map (λ session. session.left) sessions)
    pub followed : Follow old err sessions new err'

  -- A number of connections was served, and those that failed are counted; no accept failed. Or fewer were, and then
  -- one accept failed, with that error.
  abbrev pub ServesOn : (Error → Type 0) → ℕ → Option (List (List ℕ)) → Option (List (List ℕ))
      → Option (List (List ℕ)) → Option (List (List ℕ)) → Option (List (List ℕ)) → Option (List (List ℕ)) → Option ℕ
      → Option ℕ → Option (List ℕ) → Option (List ℕ) → S → S → Result ℕ Error → Type 0
  ServesOn Fails n waiting waiting' closed closed' unread unread' faults faults' err err' old new (Ok count) =
      (sessions : List Session) × Serves waiting waiting' closed closed' unread unread' err err' old new sessions
      × (length sessions ≡ n) × (count ≡ failures sessions) × CountsFaults faults faults' 0
  ServesOn Fails n waiting waiting' closed closed' unread unread' faults faults' err err' old new (Err fault) =
      (sessions : List Session) × Serves waiting waiting' closed closed' unread unread' err err' old new sessions
      × (length sessions < n) × Fails fault × CountsFaults faults faults' 1
