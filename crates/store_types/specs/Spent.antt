-- Requests whose archive was dropped because memory ran out while it arrived.
use Rattle.std.specs.Prelude.{◌≡◌, Bool, false, List, [], ◌∷◌, None, is_none, IsTrue}
use Rattle.std.specs.Option.{option_map_or}
use Rattle.policy.specs.Settings.{Settings}
use Rattle.policy.specs.Caller.{Caller}
use Rattle.policy.specs.Class.{class_of}
use Rattle.policy.specs.Rules.{first_broken}
use Rattle.model.specs.Request as asked
use Rattle.model.specs.Reply.{Reply, denied, failed, memory}
use Rattle.model.specs.Verdict.{operation_of}
use Rattle.store_types.specs.declared.requests.Request.{Request}
use Rattle.store_types.specs.declared.requests.Request.TheVariants.{AddText, Info, Nar, Ls, List as ListAll, Live, Dead}
use Rattle.store_types.specs.declared.requests.Request.TheVariants.{ListRoots, RootsOf, Report, SetPermanent}
use Rattle.store_types.specs.declared.requests.Request.TheVariants.{DropPermanent, SetUserRoot, DropUserRoot, Rollback}
use Rattle.store_types.specs.declared.requests.Request.TheVariants.{Switch, DeleteGeneration, SetProfile, AddTemp}
use Rattle.store_types.specs.declared.requests.Request.TheVariants.{EndSession, ReplaceRuntime, AddSource, Import}
use Rattle.store_types.specs.declared.requests.Request.TheVariants.{Collect, Delete}
use Rattle.store_types.specs.View.{request_view}

-- Whether the archive that a request adds was dropped: its intake was refused memory, and has no bytes any more. If a
-- request with an archive were left out, `wire` could make none of a body whose archive was dropped.
abbrev pub is_spent : Request → Bool
is_spent (AddSource name refs nar) = is_none nar
is_spent (Import p hash refs deriver ca nar) = is_none nar
is_spent (AddText name refs contents) = false
is_spent (Info p) = false
is_spent (Nar p) = false
is_spent (Ls p) = false
is_spent ListAll = false
is_spent Live = false
is_spent Dead = false
is_spent ListRoots = false
is_spent (RootsOf p) = false
is_spent Report = false
is_spent (SetPermanent name p) = false
is_spent (DropPermanent name) = false
is_spent (SetUserRoot owner name p) = false
is_spent (DropUserRoot owner name) = false
is_spent (Rollback owner name) = false
is_spent (Switch owner name n) = false
is_spent (DeleteGeneration owner name n) = false
is_spent (SetProfile owner name p) = false
is_spent (AddTemp owner session p) = false
is_spent (EndSession owner session) = false
is_spent (ReplaceRuntime pairs) = false
is_spent (Collect ignores limit) = false
is_spent (Delete named ignores) = false

-- the reply to such a request: the denial of the first rule that forbids it, or out of memory, ahead of all tests
abbrev pub spent_reply : Settings → Caller → asked.Request → Reply
spent_reply s c q =
    option_map_or (λ rule. denied rule None) (first_broken (class_of s c) c (operation_of q)) (failed memory)

-- each of these calls whose request is spent had that reply
abbrev pub SpentAreAnswered : Settings → List (Caller × Request) → List Reply → Type 0
SpentAreAnswered s [] [] = Unit {0}
SpentAreAnswered s (call ∷ calls) (reply ∷ replies) =
    (IsTrue (is_spent call.1) → reply ≡ spent_reply s call.0 (request_view call.1)) × SpentAreAnswered s calls replies
SpentAreAnswered s _ _ = ⊥
