-- What a message over a store is answered with.
use Rattle.std.specs.Prelude.{◌≡◌, ℕ, List}
use Rattle.sqlite_trees.specs.declared.store.Store.{Ghosts}
use Rattle.httparse.specs.Grammar.{RequestHead}
use Rattle.model.specs.Reply.{Reply}
use Rattle.store.specs.View.{StoreView}
use Rattle.store.specs.Calls.{Calls}
use Rattle.wire_requests.specs.Parameters.{AreParameters}
use Rattle.wire_server.specs.Responses.{Replied}
use Rattle.wire.specs.Replies.{response_to}
use Rattle.wire.specs.Courses.{Course, replies, calls, HasCourse, admits, admission_of}
use Rattle.wire.specs.declared.admission.Endpoint.{Endpoint}

-- the head of a message admits this caller and this kind, with the parameters of its target
abbrev pub Admits : {S : Type 0} → StoreView S → RequestHead → Endpoint → Type 0
Admits st h endpoint =
    (admission_of st.settings h ≡ admits endpoint.caller endpoint.kind)
    × AreParameters endpoint.kind h.target endpoint.parameters

module _ {S : Type 0} (g : Ghosts S) where
  -- the reply at once, and the store stays; or the store takes a step, and the response is that to its reply
  abbrev pub Ends : Course → StoreView S → Replied → StoreView S → Type 0
  Ends (replies it) old r new = (r ≡ it) × (new ≡ old)
  Ends (calls c q) old r new =
      (reply : Reply) × Calls g c q reply old new × (r ≡ response_to old.settings.store_dir reply)

  -- a head and a body may be answered with this, and leave the store like that
  abbrev pub Answers : StoreView S → RequestHead → List ℕ → Replied → StoreView S → Type 0
  Answers old h body r new = (course : Course) × HasCourse old.settings h body course × Ends course old r new
