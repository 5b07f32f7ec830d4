-- The answer to a subcommand that makes a request to a store.
use Rattle.std.specs.Prelude.{◌⊎◌, ℕ, List, Option, Some, None, Result, Ok, Err}
use Rattle.sqlite_trees.specs.declared.store.Store.{Ghosts}
use Rattle.model.specs.World.{World}
use Rattle.policy.specs.Settings.{Settings}
use Rattle.policy.specs.Caller.{Caller}
use Rattle.model.specs.Request.{Request}
use Rattle.model.specs.Reply.{Reply}
use Rattle.model.specs.Step.{Step}
use Rattle.store.specs.View.{StoreView}
use Rattle.model.specs.declared.refusal.Refusal.{Refusal}
use Rattle.store.specs.Calls.{Calls}
use Rattle.report.specs.Outputs.{Stream, Written}
use Rattle.tool_pure.specs.PrintedReply.{IsPrinted}
use Rattle.tool_pure.specs.declared.stops.Stop.TheVariants.{Refused}
use Rattle.tool.specs.Requests.{Ask, StepsAs, Demands, LosesInput}
use Rattle.tool_pure.specs.Stream.{Answers, GivesUp}

-- ---- by what is asked for the bytes of the input, where each request is answered so

-- a request is answered; or its refusal is reported, and the store stays
abbrev pub AnswersRequest : (Request → Type 0) → Type 0 → Result Request Refusal → Written → Type 0
AnswersRequest answered stays (Ok q) w = answered q
AnswersRequest answered stays (Err refusal) w = Answers (Err (Refused refusal)) w × stays

-- something that is asked is answered
abbrev pub AnswersRequested : (Request → Type 0) → Type 0 → (Result Request Refusal → Type 0) → Written → Type 0
AnswersRequested answered stays asks w =
    (wanted : Result Request Refusal) × asks wanted × AnswersRequest answered stays wanted w

-- what is asked by the input is answered: by its bytes, or by some bytes if the stream doesn't state them
abbrev pub AnswersOver : (Request → Type 0) → Type 0 → (List ℕ → Result Request Refusal → Type 0) → Option (List ℕ)
    → Written → Type 0
AnswersOver answered stays ask None w = (bytes : List ℕ) × AnswersRequested answered stays (ask bytes) w
AnswersOver answered stays ask (Some bytes) w = AnswersRequested answered stays (ask bytes) w

-- what is asked of a store is answered; or memory ran out before a request was made, or the input failed where it is
-- read, and the store stays
abbrev pub AnswersIn : (Request → Type 0) → Type 0 → Ask → List ℕ → Caller → Stream → Written → Type 0
AnswersIn answered stays ask dir c input w = (GivesUp (LosesInput ask dir c input) w × stays)
    ⊎ AnswersOver answered stays (Demands ask dir c) input.old w

-- ---- how a request is answered

-- a reply that a step from one world to the other may give is written
abbrev pub AnswersStep : Settings → World → World → Caller → Written → Request → Type 0
AnswersStep s world next c w q = (reply : Reply) × Step s world c q reply next × IsPrinted s.store_dir reply w

-- A request is served by a store, which is the other one then, and the reply is written: of each world of the store
-- before, a step to one of the store then. What is served may be another request whose every step is one of this
-- request.
pub record Serves {S : Type 0} (g : Ghosts S) (c : Caller) (w : Written) (old new : StoreView S) (q : Request)
    : Type 0 where
  pub made : Request
  pub same : StepsAs made q
  pub reply : Reply
  pub calls : Calls g c made reply old new
  pub reported : IsPrinted old.settings.store_dir reply w
