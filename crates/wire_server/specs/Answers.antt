-- What becomes of one message.
use Rattle.std.specs.Prelude.{◌≡◌, ◌⊎◌, ℕ, List, [], take, drop, Result, Ok, Err}
use Rattle.std.specs.declared.alloc.AllocError.{AllocError}
use Rattle.httparse.specs.Grammar.{RequestHead}
use Rattle.wire_server.specs.declared.head.Head.{Head}
use Rattle.wire_server.specs.declared.responder.Begun.{Begun}
use Rattle.wire_server.specs.declared.responder.Begun.TheVariants.{Accepted, Refused}
use Rattle.wire_server.specs.declared.response.Response.{Response}
use Rattle.wire_server.specs.Responses.{Replied, replied}

-- the body after a head that is held
abbrev pub body_in : List ℕ → Head → ℕ → List ℕ
body_in held head size = take size (drop head.spans.len held)

-- answered with that response; or, if memory was refused, not answered, or answered with a response that is dropped
abbrev pub Answered : {S : Type 0} → (S → RequestHead → List ℕ → Replied → S → Type 0) → S → RequestHead → List ℕ
    → Result Response AllocError → S → Type 0
Answered answers old h body (Ok response) new = answers old h body (replied response) new
Answered answers old h body (Err e) new = (new ≡ old) ⊎ ((r : Replied) × answers old h body r new)

module _ {S C B : Type 0} (answers : S → RequestHead → List ℕ → Replied → S → Type 0)
    (decides : S → RequestHead → C → Type 0) (represents : B → List ℕ → Type 0) where
  -- A head decides this from a state: a course, and what keeps the body stands for no bytes yet; or the response,
  -- whatever the body is, which leaves the state as it is.
  abbrev pub IsBegun : S → RequestHead → Begun (C × B) → Type 0
  IsBegun s h (Accepted it) = decides s h it.0 × represents it.1 []
  IsBegun s h (Refused response) = (all : List ℕ) → answers s h all (replied response) s

  -- The message once its body has come: what was kept stands for the body.
  abbrev pub IsReady : S → RequestHead → List ℕ → Begun (C × B) → Type 0
  IsReady s h all (Accepted it) = decides s h it.0 × represents it.1 all
  IsReady s h all (Refused response) = answers s h all (replied response) s
