-- A message that is answered by what its head decides, or that the store was asked for.
use Rattle.std.proofs.Common.{◌≡◌, ℕ, List, Result, Ok, Err, IfOk, None, refl, sym, subst, inl, inr}
use Rattle.std.specs.declared.alloc.AllocError.{AllocError}
use Rattle.sqlite_trees.specs.declared.store.Store.{Ghosts}
use Rattle.httparse.specs.Grammar.{RequestHead}
use Rattle.policy.specs.Settings.{Settings}
use Rattle.policy.specs.Caller.{Caller}
use Rattle.model.specs.Request.{Request}
use Rattle.model.specs.Reply.{Reply}
use Rattle.store.specs.View.{StoreView}
use Rattle.store.specs.Calls.{Calls}
use Rattle.model.specs.declared.refusal.Refusal.TheVariants.{BadStorePath, BadBodyHead}
use Rattle.wire_requests.specs.Reads.{AsksNothing}
use Rattle.wire_requests.specs.declared.error.AskError.{AskError}
use Rattle.wire_requests.specs.declared.error.AskError.TheVariants as asks
use Rattle.wire_requests.specs.declared.kind.Kind.{Kind}
use Rattle.wire_server.specs.Answers.{Answered}
use Rattle.wire_server.specs.declared.response.Response.{Response}
use Rattle.wire_server.specs.Responses.{Replied, replied, refused}
use Rattle.wire.specs.Replies.{response_to}
use Rattle.wire.specs.Courses.{Course, replies, calls, refuses, admits, admission_of, Reads, Follows, HasCourse}
use Rattle.wire.specs.Courses.{IsRefusalOf}
use Rattle.wire.specs.Answers.{Answers}

-- the course of a message whose head was admitted
pub admitted : (s : Settings) (h : RequestHead) (c : Caller) (kind : Kind) (dir body : List ℕ) (course : Course)
    → admission_of s h ≡ admits c kind
    → dir ≡ s.store_dir → Reads dir c kind h.target body course → HasCourse s h body course
admitted s h c kind dir body course is d reads =
    subst (λ it. Follows s h.target body it course) (sym is) (subst (λ v. Reads v c kind h.target body course) d reads)

module _ {S : Type 0} (g : Ghosts S) (old : StoreView S) (h : RequestHead) where
  -- one whose head is refused is answered so, whatever its body is
  pub refused_by_head : (r : Replied) → refuses r ≡ admission_of old.settings h → (body : List ℕ)
      → Answers g old h body r old
  refused_by_head r is body =
      (replies r, subst (λ it. Follows old.settings h.target body it (replies r)) is refl, (refl, refl))

  module _ (body : List ℕ) where
    -- one that is refused later; or that response is lost
    pub replied_at_once : (it : Replied) (r : Result Response AllocError) → HasCourse old.settings h body (replies it)
        → IfOk r (λ x. replied x ≡ it)
        → Answered (Answers g) old h body r old
    replied_at_once it (Ok x) takes e = (replies it, takes, (e, refl))
    replied_at_once it (Err fault) takes e = inl refl

    -- one that is refused by what its reading has decided
    pub refused_by : (c : Caller) (kind : Kind) (dir : List ℕ) (fault : AskError) (r : Result Response AllocError)
        → admission_of old.settings h ≡ admits c kind
        → dir ≡ old.settings.store_dir → AsksNothing dir kind h.target body fault → IsRefusalOf fault r
        → Answered (Answers g) old h body r old
    refused_by c kind dir asks.BadPath r is d bad said =
        replied_at_once (refused BadStorePath None) r
        (admitted old.settings h c kind dir body (replies (refused BadStorePath None)) is d (inr (inl (bad, refl))))
        said
    refused_by c kind dir asks.BadBodyHead r is d bad said =
        replied_at_once (refused BadBodyHead None) r
        (admitted old.settings h c kind dir body (replies (refused BadBodyHead None)) is d
        (inr (inr (bad.0, bad.1, refl)))) said
    refused_by c kind dir asks.Memory (Ok x) is d bad said = absurd said
    refused_by c kind dir asks.Memory (Err e) is d bad said = inl refl

    -- one that the store was asked for is answered with the response to the reply; or that response is lost
    pub asked : (new : StoreView S) (c : Caller) (q : Request) (reply : Reply) (r : Result Response AllocError)
        → HasCourse old.settings h body (calls c q) → Calls g c q reply old new
        → IfOk r (λ x. replied x ≡ response_to old.settings.store_dir reply)
        → Answered (Answers g) old h body r new
    asked new c q reply (Ok x) takes is e = (calls c q, takes, (reply, is, e))
    asked new c q reply (Err fault) takes is e =
        inr (response_to old.settings.store_dir reply, (calls c q, takes, (reply, is, refl)))
