-- The course of a message before the store is asked, in the order of the tests.
use Rattle.std.specs.Prelude.{◌≡◌, ◌⊎◌, ℕ, true, false, List, Option, Some, None, Result, IfOk, ⊤}
use Rattle.std.specs.declared.alloc.AllocError.{AllocError}
use Rattle.httparse.specs.Grammar.{RequestHead}
use Rattle.wire_server.specs.Fields.{fields_of}
use Rattle.wire_server.specs.Callers.{caller_in}
use Rattle.policy.specs.Settings.{Settings}
use Rattle.policy.specs.Caller.{Caller}
use Rattle.policy.specs.Class.{class_of}
use Rattle.policy.specs.Operation.{plain}
use Rattle.policy.specs.Rules.{first_broken}
use Rattle.policy.specs.declared.kinds.Rule.{Rule}
use Rattle.wire_requests.specs.Methods.{kind_of, allowed}
use Rattle.wire_requests.specs.Parameters.{AreParameters}
use Rattle.wire_requests.specs.Table.{requests_of}
use Rattle.wire_requests.specs.declared.kind.Kind.{Kind}
use Rattle.wire_requests.specs.declared.requests.Requests.{Requests}
use Rattle.model.specs.Request.{Request}
use Rattle.wire_requests.specs.Asks.{Asks, has_bad_path}
use Rattle.report.specs.Stops.{denial_text}
use Rattle.model.specs.declared.refusal.Refusal.TheVariants.{BadStorePath, BadCaller, NoRoute, BadMethod, BadBodyHead}
use Rattle.wire_requests.specs.declared.error.AskError.{AskError}
use Rattle.wire_requests.specs.declared.error.AskError.TheVariants as asks
use Rattle.wire_server.specs.declared.response.Response.{Response}
use Rattle.wire_server.specs.Responses as responses
use Rattle.wire_server.specs.Responses.{Replied, replied, refused}
use Rattle.wire.specs.declared.admission.Endpoint.{Endpoint}
use Rattle.wire_server.specs.declared.responder.Begun.{Begun}
use Rattle.wire_server.specs.declared.responder.Begun.TheVariants.{Accepted, Refused}

-- What the head of a message decides: this is replied, whatever the body is; or a caller, who may connect, asks
-- something of a kind.
pub data Admission : Type 0 where
  refuses : Replied → Admission
  admits : Caller → Kind → Admission

-- A reply is made without the store, or the store is asked a request.
pub data Course : Type 0 where
  replies : Replied → Course
  calls : Caller → Request → Course

-- ---- by the head

-- the denial of a caller who may not connect
abbrev pub denied : List ℕ → Rule → Replied
denied dir rule = responses.plain 403 (denial_text dir rule None)

abbrev pub by_method : Caller → Requests → Option Kind → Admission
by_method c route None = refuses (refused BadMethod (Some (allowed route)))
by_method c route (Some kind) = admits c kind

abbrev pub by_route : Caller → List ℕ → Option Requests → Admission
by_route c method None = refuses (refused NoRoute None)
by_route c method (Some route) = by_method c route (kind_of route method)

abbrev pub by_rule : List ℕ → Caller → List ℕ → List ℕ → Option Rule → Admission
by_rule dir c method target (Some rule) = refuses (denied dir rule)
by_rule dir c method target None = by_route c method (requests_of target)

-- the caller of a message, and whether they may connect
abbrev pub by_caller : Settings → List ℕ → List ℕ → Option Caller → Admission
by_caller s method target None = refuses (refused BadCaller None)
by_caller s method target (Some c) = by_rule s.store_dir c method target (first_broken (class_of s c) c plain)

-- what a head decides: caller, rule, route and method
abbrev pub admission_of : Settings → RequestHead → Admission
admission_of s h = by_caller s h.method h.target (caller_in (fields_of h))

-- ---- by the body

-- something is asked; or the path in the target is bad; or it isn't, and the body says nothing of the kind
abbrev pub Reads : List ℕ → Caller → Kind → List ℕ → List ℕ → Course → Type 0
Reads dir c kind target body course =
    ((q : Request) × Asks dir kind target body q × (course ≡ calls c q))
    ⊎ (((has_bad_path kind target ≡ true) × (course ≡ replies (refused BadStorePath None)))
    ⊎ ((has_bad_path kind target ≡ false) × ((q : Request) → Asks dir kind target body q → ⊥)
    × (course ≡ replies (refused BadBodyHead None))))

abbrev pub Follows : Settings → List ℕ → List ℕ → Admission → Course → Type 0
Follows s target body (refuses it) course = course ≡ replies it
Follows s target body (admits c kind) course = Reads s.store_dir c kind target body course

-- The course that a message takes: first what its head decides; then the path in its target; then its body.
abbrev pub HasCourse : Settings → RequestHead → List ℕ → Course → Type 0
HasCourse s h body course = Follows s h.target body (admission_of s h) course

-- ---- what the code's values stand for

abbrev pub admission_view : Begun Endpoint → Admission
admission_view (Refused r) = refuses (replied r)
admission_view (Accepted it) = admits it.caller it.kind

-- what is admitted has the parameters of the target
abbrev pub HasParameters : List ℕ → Begun Endpoint → Type 0
HasParameters target (Refused r) = ⊤
HasParameters target (Accepted it) = AreParameters it.kind target it.parameters

-- The response to a message that isn't a request, by what its reading has decided; or memory was refused. It always was
-- if it was for the reading.
abbrev pub IsRefusalOf : AskError → Result Response AllocError → Type 0
IsRefusalOf asks.BadPath result = IfOk result (λ r. replied r ≡ refused BadStorePath None)
IsRefusalOf asks.BadBodyHead result = IfOk result (λ r. replied r ≡ refused BadBodyHead None)
IsRefusalOf asks.Memory result = IfOk result (λ r. ⊥)
