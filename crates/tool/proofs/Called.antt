-- The answer of a command line that asks something of a store.
use Rattle.std.proofs.Common.{◌≡◌, ◌⊎◌, ℕ, List, map, Option, Some, None, Result, Ok, Err, inl, inr, subst}
use Rattle.std.proofs.Common.{refl, sym}
use Rattle.sqlite_trees.specs.declared.store.Store.{Ghosts}
use Rattle.sqlite.specs.State.{HasCleanDisk}
use Rattle.sqlite.specs.Held.{state}
use Rattle.model.specs.World.{World}
use Rattle.tables.specs.TablesValue.{HasWorld}
use Rattle.clap.specs.Walk.{Text}
use Rattle.paths.specs.StorePath.{base_of}
use Rattle.policy.specs.Settings.{Settings}
use Rattle.policy.specs.Toml.{config_of}
use Rattle.policy.specs.Caller.{Caller}
use Rattle.policy.specs.declared.error.KeyWord.{KeyWord}
use Rattle.model.specs.declared.refusal.Refusal.{Refusal}
use Rattle.model.specs.declared.refusal.Refusal.TheVariants.{BadCaller}
use Rattle.model.specs.Request.{Request}
use Rattle.model.specs.Reply.{Reply}
use Rattle.store_types.specs.declared.requests.Request.{Request as Made}
use Rattle.store.specs.View.{StoreView}
use Rattle.store_types.specs.View.{request_view}
use Rattle.store.proofs.Clean.{step_clean}
use Rattle.store.specs.Calls.{Calls}
use Rattle.tool_pure.specs.PrintedReply.{IsPrinted}
use Rattle.report.specs.Outputs.{Console, Printed, Stream, Written}
use Rattle.tool_words.specs.Line.{Line}
use Rattle.model.specs.declared.failures.Failure.{Failure}
use Rattle.model.specs.declared.failures.Failure.TheVariants.{Memory, Size, Disk, File, Input, Output}
use Rattle.tool_pure.specs.declared.stops.Stop.{Stop}
use Rattle.tool_pure.specs.declared.stops.Stop.TheVariants.{Refused, Failed}
use Rattle.tool.specs.Answer.{AnswersUnder}
use Rattle.tool.specs.Callers.{AnswersCalled, AnswersNamed}
use Rattle.tool.specs.Calls.{AnswersStep, AnswersRequest, AnswersRequested, AnswersOver, AnswersIn, Serves}
use Rattle.tool.specs.Requests.{Ask, IsAsked, IsAskedBy, IsAskedOver, LosesInput, StepsAs, Demands}
use Rattle.tool_pure.specs.Who.{caller_by}
use Rattle.tool_pure.specs.Stream.{Answers, AnswersInput, GivesUp, Says}
use Rattle.tool_pure.specs.Object.{object_fault}
use Rattle.tool.proofs.Answered.{errors_only, said_only, said_unread, unread_console}

module _ {S : Type 0} (g : Ghosts S) (c : Caller) (w : Written) (old new : StoreView S) where
  -- what was served by a store
  pub served : (made q : Request) → StepsAs made q
      → (reply : Reply) × Calls g c made reply old new × IsPrinted old.settings.store_dir reply w
      → Serves g c w old new q
  served made q same calls =
      record { made = made; same = same; reply = calls.0; calls = calls.1; reported = calls.2 }

  -- it is a step of each world that the store had, where the disk is clean
  stepped : (world : World) → HasWorld g old.tables world → (q : Request) → Serves g c w old new q
      → (next : World) × HasWorld g new.tables next
      × (HasCleanDisk (state g new.tables.connection) → AnswersStep old.settings world next c w q)
  stepped world reported q x =
      let step = x.calls.step world reported in (
        step.0,
        step.2,
        λ clean.
            let is =
            step_clean (HasCleanDisk (state g new.tables.connection)) old.settings world c x.made x.reply step.0
            (λ _. clean) step.1 in
            (x.reply, x.same old.settings world c x.reply step.0 is, x.reported),
      )

module _ (answered : Request → Type 0) (stays : Type 0) (asks : Result Request Refusal → Type 0) (fails : Type 0)
    (w : Written) where
  -- the request that was made does what is asked
  made_as : (q : Made) → IsAsked fails asks (Ok q) → ((r : Request) → StepsAs (request_view q) r → answered r)
      → AnswersRequested answered stays asks w
  made_as q is each = (Ok is.0, is.1, each is.0 is.2)

module _ (answered : Request → Type 0) (stays fails : Type 0) (ask : List ℕ → Result Request Refusal → Type 0) where
  asked_over : (known : Option (List ℕ)) (q : Made) (w : Written) → IsAskedOver fails ask known (Ok q)
      → ((r : Request) → StepsAs (request_view q) r → answered r) → AnswersOver answered stays ask known w
  asked_over None q w is each = (is.0, made_as answered stays (ask is.0) fails w q is.1 each)
  asked_over (Some bytes) q w is each = made_as answered stays (ask bytes) fails w q is each

  -- a refusal of the arguments was said
  refused_over : (known : Option (List ℕ)) (refusal : Refusal) (out : Option (List ℕ)) (p : Printed)
      → IsAskedOver fails ask known (Err (Refused refusal))
      → Says (Refused refusal) p → stays → AnswersOver answered stays ask known (errors_only out p)
  refused_over None refusal out p is said stay =
      (is.0, (Err refusal, is.1, (said_only (Refused refusal) out p said, stay)))
  refused_over (Some bytes) refusal out p is said stay =
      (Err refusal, is, (said_only (Refused refusal) out p said, stay))

  was_lost : (known : Option (List ℕ)) → IsAskedOver fails ask known (Err (Failed Input)) → fails
  was_lost None is = is.1
  was_lost (Some bytes) is = is

  -- neither memory nor the input gave out
  no_other : (failure : Failure) (known : Option (List ℕ))
      → ((bytes : List ℕ) → IsAsked fails (ask bytes) (Err (Failed failure)) → ⊥)
      → IsAskedOver fails ask known (Err (Failed failure)) → ⊥
  no_other failure None never is = never is.0 is.1
  no_other failure (Some bytes) never is = never bytes is

  -- why there is no request was said
  stopped : (known : Option (List ℕ)) (stop : Stop) (out : Option (List ℕ)) (p : Printed)
      → IsAskedOver fails ask known (Err stop) → Says stop p → stays
      → (GivesUp fails (errors_only out p) × stays) ⊎ AnswersOver answered stays ask known (errors_only out p)
  stopped known (Refused refusal) out p is said stay = inr (refused_over known refusal out p is said stay)
  stopped known (Failed Memory) out p is said stay = inl (inl (said_only (Failed Memory) out p said), stay)
  stopped known (Failed Input) out p is said stay =
      inl (inr (was_lost known is, said_only (Failed Input) out p said), stay)
  stopped known (Failed File) out p is said stay = absurd (no_other File known (λ bytes h. h) is)
  stopped known (Failed Output) out p is said stay = absurd (no_other Output known (λ bytes h. h) is)
  stopped known (Failed Size) out p is said stay = absurd (no_other Size known (λ bytes h. h) is)
  stopped known (Failed Disk) out p is said stay = absurd (no_other Disk known (λ bytes h. h) is)

module _ (answered : Request → Type 0) (stays : Type 0) (ask : Ask) (dir : List ℕ) (c : Caller) (input : Stream)
  where
    -- the request that was made was answered
    pub asked : (q : Made) (w : Written) → IsAskedBy ask dir c input (Ok q)
        → ((r : Request) → StepsAs (request_view q) r → answered r)
        → AnswersIn answered stays ask dir c input w
    asked q w is each =
        inr (asked_over answered stays (LosesInput ask dir c input) (Demands ask dir c) input.old q w is each)

    -- why there is none was said
    pub stopped_over : (stop : Stop) (out : Option (List ℕ)) (p : Printed) → IsAskedBy ask dir c input (Err stop)
        → Says stop p → stays
        → AnswersIn answered stays ask dir c input (errors_only out p)
    stopped_over stop out p is said stay =
        stopped answered stays (LosesInput ask dir c input) (Demands ask dir c) input.old stop out p is said stay

-- What is asked of a store is asked in each of its worlds, and leads to one of the store then, if the disk is clean.
module _ {S : Type 0} (g : Ghosts S) (c : Caller) (w : Written) (old new : StoreView S) (world : World)
    (reported : HasWorld g old.tables world) where
  -- it leads from the world to one of the store then
  abbrev Leads : (World → Type 0) → Type 0
  Leads is = (next : World) × HasWorld g new.tables next × (HasCleanDisk (state g new.tables.connection) → is next)

  -- where the store stays, so does the world
  unchanged : new ≡ old → (is : World → Type 0) → is world → Leads is
  unchanged same is holds = (world, subst (λ st. HasWorld g st.tables world) (sym same) reported, λ clean. holds)

  of_request : (wanted : Result Request Refusal) → AnswersRequest (Serves g c w old new) (new ≡ old) wanted w
      → Leads (λ next. AnswersRequest (AnswersStep old.settings world next c w) (next ≡ world) wanted w)
  of_request (Ok q) serves = stepped g c w old new world reported q serves
  of_request (Err refusal) (said, same) =
      unchanged same (λ next. Answers (Err (Refused refusal)) w × (next ≡ world)) (said, refl)

  of_requested : (asks : Result Request Refusal → Type 0)
      → AnswersRequested (Serves g c w old new) (new ≡ old) asks w
      → Leads (λ next. AnswersRequested (AnswersStep old.settings world next c w) (next ≡ world) asks w)
  of_requested asks (wanted, is, answered) =
      let more = of_request wanted answered in (more.0, more.1, λ clean. (wanted, is, more.2 clean))

  of_over : (ask : List ℕ → Result Request Refusal → Type 0) (known : Option (List ℕ))
      → AnswersOver (Serves g c w old new) (new ≡ old) ask known w
      → Leads (λ next. AnswersOver (AnswersStep old.settings world next c w) (next ≡ world) ask known w)
  of_over ask None (bytes, answered) =
      let more = of_requested (ask bytes) answered in (more.0, more.1, λ clean. (bytes, more.2 clean))
  of_over ask (Some bytes) answered = of_requested (ask bytes) answered

  pub asked_in : (ask : Ask) (dir : List ℕ) (input : Stream)
      → AnswersIn (Serves g c w old new) (new ≡ old) ask dir c input w
      → Leads (λ next. AnswersIn (AnswersStep old.settings world next c w) (next ≡ world) ask dir c input w)
  asked_in ask dir input (inl (gone, same)) =
      unchanged same
      (λ next. AnswersIn (AnswersStep old.settings world next c w) (next ≡ world) ask dir c input w)
      (inl (gone, refl))
  asked_in ask dir input (inr answered) =
      let more = of_over (Demands ask dir c) input.old answered in (more.0, more.1, λ clean. inr (more.2 clean))

module _ (answered : Caller → Type 0) (line : Line) where
  -- the caller of the names was answered
  pub named : (c : Caller) (console : Console) → caller_by line.user line.group ≡ Some c → answered c
      → AnswersNamed answered line console
  named c console is given = inr (subst (λ o. AnswersCalled answered o console) (sym is) given)

  -- why there is no caller was said
  pub unnamed : (stop : Stop) (known out : Option (List ℕ)) (p : Printed)
      → (stop ≡ Failed Memory) ⊎ ((stop ≡ Refused BadCaller) × (caller_by line.user line.group ≡ None)) → Says stop p
      → AnswersNamed answered line (unread_console known out p)
  unnamed stop known out p (inl memory) said =
      inl (said_unread (Failed Memory) known out p (subst (λ x. Says x p) memory said))
  unnamed stop known out p (inr why) said =
      inr (subst (λ o. AnswersCalled answered o (unread_console known out p)) (sym why.1)
      (said_unread (Refused BadCaller) known out p (subst (λ x. Says x p) why.0 said)))

-- the settings of the configuration are these
pub under : (outcome : Result Settings KeyWord) (s : Settings) (answered : Settings → Type 0) (console : Console)
    → outcome ≡ Ok s → answered s → AnswersUnder outcome answered console
under outcome s answered console is h = subst (λ r. AnswersUnder r answered console) (sym is) h

-- an answer to a name and references in a directory is one under the settings of the configuration that names it
pub found_under : (most : ℕ) (answer : List ℕ → List ℕ → List (List ℕ) → List ℕ → Result (List ℕ) Stop)
    (config : List ℕ) (console : Console)
    → (s : Settings) (o : Text × List Text) (dir : List ℕ) (refs : List (List ℕ)) → config_of config ≡ Ok s
    → dir ≡ s.store_dir → refs ≡ o.1
    → AnswersInput (object_fault dir o.0 refs) most (answer dir o.0 (map (base_of dir) refs)) console
    → AnswersUnder (config_of config)
    (λ t. AnswersInput (object_fault t.store_dir o.0 o.1) most
    (answer t.store_dir o.0 (map (base_of t.store_dir) o.1)) console) console
found_under most answer config console s o dir refs found same lent given =
    under (config_of config) s (λ t. AnswersInput (object_fault t.store_dir o.0 o.1) most
    (answer t.store_dir o.0 (map (base_of t.store_dir) o.1)) console)
    console found
    (subst (λ (rs : List (List ℕ)). AnswersInput (object_fault s.store_dir o.0 rs) most
    (answer s.store_dir o.0 (map (base_of s.store_dir) rs)) console) lent
    (subst (λ (d : List ℕ). AnswersInput (object_fault d o.0 refs) most (answer d o.0 (map (base_of d) refs)) console)
    same given))
