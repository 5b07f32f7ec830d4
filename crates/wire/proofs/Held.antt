-- A message whose head is held: its parts are those of its head.
use Rattle.std.proofs.Common.{◌≡◌, ℕ, List, Option, ap, ap₂, sym, ◌∙◌}
use Rattle.httparse.specs.Grammar.{RequestHead}
use Rattle.httparse.specs.Spans.{span_bytes}
use Rattle.wire_server.specs.declared.head.Head.{Head}
use Rattle.wire_server.specs.Fields.{fields_at}
use Rattle.wire_server.specs.Heads.{Holds}
use Rattle.wire_server.specs.Callers.{caller_in}
use Rattle.policy.specs.Settings.{Settings}
use Rattle.policy.specs.Caller.{Caller}
use Rattle.wire.specs.Courses.{Admission, by_caller, admission_of}

-- what the parts in a buffer decide is what the head decides
pub admits_held : (s : Settings) (held : List ℕ) (head : Head) (h : RequestHead) (it : Admission) → Holds held head h
    → (method target : List ℕ) (who : Option Caller) → method ≡ span_bytes held head.spans.method
    → target ≡ span_bytes held head.spans.path
    → caller_in (fields_at held head) ≡ who → it ≡ by_caller s method target who → it ≡ admission_of s h
admits_held s held head h it is method target who m t w by =
    by
    ∙ ap (λ v. by_caller s v target who) (m ∙ is.places.method)
    ∙ ap (λ v. by_caller s h.method v who) (t ∙ is.places.path)
    ∙ ap (λ v. by_caller s h.method h.target v) (sym w ∙ ap caller_in is.places.fields)

-- the caller that a head names in a buffer, by other names of the two
pub in_buffer : (buf held : List ℕ) (places head : Head) (who : Option Caller) → buf ≡ held → places ≡ head
    → caller_in (fields_at buf places) ≡ who → caller_in (fields_at held head) ≡ who
in_buffer buf held places head who same at is = sym (ap₂ (λ b p. caller_in (fields_at b p)) same at) ∙ is
