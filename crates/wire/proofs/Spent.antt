-- A request whose archive is spent, as a call of the request that was asked.
use Rattle.std.proofs.Common.{◌≡◌, Option, Some, None, IsTrue, refl, sym, ap, ap₂, ◌∙◌, subst, inl, inr}
use Rattle.std.specs.Prelude.{option_map, List}
use Rattle.std.specs.List.{find, list_any}
use Rattle.std.specs.Option.{option_map_or}
use Rattle.sqlite_trees.specs.declared.store.Store.{Ghosts}
use Rattle.sqlite.specs.State.{HasCleanDisk}
use Rattle.sqlite.specs.Held.{state}
use Rattle.policy.specs.Settings.{Settings}
use Rattle.policy.specs.Caller.{Caller}
use Rattle.policy.specs.Class.{class_of}
use Rattle.policy.specs.Operation.{Operation}
use Rattle.policy.specs.Rules as rules
use Rattle.policy.specs.Rules.{first_broken}
use Rattle.policy.specs.declared.kinds.Rule.{Rule}
use Rattle.policy.specs.declared.kinds.Rule.TheVariants.{Live}
use Rattle.model.specs.World.{Path, World}
use Rattle.model.specs.Request.{Request, add_source, import_object}
use Rattle.model.specs.Reply.{Reply, denied, failed, memory, IsDone}
use Rattle.model.specs.Liveness.{lives}
use Rattle.model.specs.Step.{IsNoneOrLive}
use Rattle.model.specs.Seen.{seen_root}
use Rattle.model.specs.Verdict.{operation_of, named_in, root_of_first, verdict, shown}
use Rattle.tables_writes.specs.TablesValue.{HasWorld, TablesValue}
use Rattle.store_types.specs.Spent.{is_spent, spent_reply}
use Rattle.store_types.specs.View.{request_view}
use Rattle.store_types.specs.declared.requests.Request as made
use Rattle.store_promises.specs.Causes.{HasCause}
use Rattle.store_promises.specs.Crashes.{LeavesDone}
use Rattle.store_promises.specs.Disk.{StepOver}
use Rattle.store_promises.specs.Durability.{LeavesOthers}
use Rattle.store_promises.proofs.Untouched.{survives_still}
use Rattle.store.specs.View.{StoreView}
use Rattle.store.specs.Calls.{Calls}
use Rattle.wire_requests.specs.Kept.{without_archive, IsRequest}

-- no rule looks at an archive
same_rules : (q : Request) → (operation_of (without_archive q) ≡ operation_of q)
    × (named_in (without_archive q) ≡ named_in q)
same_rules (add_source name refs nar) = (refl, refl)
same_rules (import_object i) = (refl, refl)
same_rules _ = (refl, refl)

module _ (s : Settings) (w : World) (c : Caller) (q : Request) where
  same_verdict : verdict s w c (without_archive q) ≡ verdict s w c q
  same_verdict =
      ap₂ (λ (op : Operation) (named : List Path). rules.verdict (class_of s c) c op (list_any (lives s w) named))
      (same_rules q).0 (same_rules q).1

  same_shown : (rule : Rule) → shown s w c (without_archive q) rule ≡ shown s w c q rule
  same_shown Live =
      ap (λ (named : List Path). option_map (seen_root (class_of s c)) (root_of_first s w (find (lives s w) named)))
      (same_rules q).1
  same_shown _ = refl

-- the reply to a spent request, by the first rule that forbids it
abbrev reply_by : Option Rule → Reply
reply_by rule = option_map_or (λ rule. denied rule None) rule (failed memory)

step_by : (is_clean : Type 0) (s : Settings) (w : World) (c : Caller) (q : Request) (rule : Option Rule) (next : World)
    → StepOver is_clean s w c (without_archive q) (reply_by rule) next → StepOver is_clean s w c q (reply_by rule) next
step_by is_clean s w c q (Some rule) next step =
    (sym (same_verdict s w c q) ∙ step.0, step.1 ∙ same_shown s w c q rule, step.2)
step_by is_clean s w c q None next step = subst (λ v. IsNoneOrLive v × (next ≡ w)) (same_verdict s w c q) step

module _ {S : Type 0} (g : Ghosts S) where
  cause_by : (q : Request) (rule : Option Rule) (old new : TablesValue S) → HasCause g q (reply_by rule) old new
  cause_by q None old new = tt
  cause_by q (Some rule) old new = tt

  not_done : (rule : Option Rule) → IsDone (reply_by rule) → ⊥
  not_done None is = is
  not_done (Some rule) is = is

  -- the steps of a call
  abbrev Steps : StoreView S → StoreView S → Caller → Request → Reply → Type 0
  Steps old new c q reply = (w : World) → HasWorld g old.tables w
      → (next : World) × StepOver (HasCleanDisk (state g new.tables.connection)) old.settings w c q reply next
      × HasWorld g new.tables next

  module _ (old : StoreView S) (c : Caller) (q : Request) where
    calls_by : (rule : Option Rule) → Steps old old c (without_archive q) (reply_by rule)
        → LeavesOthers g old.tables old.tables → Calls g c q (reply_by rule) old old
    calls_by rule step others = record {
      settings = refl;
      step = λ w is. let one = step w is in (one.0, step_by _ old.settings w c q rule one.0 one.1, one.2);
      cause = λ w is. cause_by q rule old.tables old.tables;
      still = λ is. refl;
      others = others;
      stays_durable = λ is. absurd (not_done rule is);
      survives =
          λ w is. survives_still (state g old.tables.connection)
          (λ db. LeavesDone old.tables.dir (state g old.tables.connection).now db old.settings w c q);
    }

    -- what is called with a request that has no archive any more is called with the request that was asked
    pub spent_calls : (it : made.Request) (reply : Reply) (new : StoreView S) → request_view it ≡ without_archive q
        → reply ≡ spent_reply old.settings c (request_view it) → new ≡ old
        → Steps old new c (request_view it) reply → LeavesOthers g old.tables new.tables → Calls g c q reply old new
    spent_calls it reply new is said same step others =
        let rule = first_broken (class_of old.settings c) c (operation_of (request_view it)) in
        let first : Steps old new c (without_archive q) (reply_by rule) =
        subst (λ p. Steps old new c p (reply_by rule)) is
        (subst (λ r. Steps old new c (request_view it) r) said step) in
        let here = subst (λ n. Steps old n c (without_archive q) (reply_by rule)) same first in
        let calls = calls_by rule here (subst (λ n. LeavesOthers g old.tables n.tables) same others) in
        subst (λ r. Calls g c q r old new) (sym said) (subst (λ n. Calls g c q (reply_by rule) old n) (sym same) calls)

    -- what is called with the request itself, or with one that has no archive any more
    pub made_calls : (it : made.Request) (reply : Reply) (new : StoreView S) → IsRequest it q
        → (IsTrue (is_spent it) → (reply ≡ spent_reply old.settings c (request_view it)) × (new ≡ old))
        → Calls g c (request_view it) reply old new → Calls g c q reply old new
    made_calls it reply new (inl is) spent calls = subst (λ p. Calls g c p reply old new) is calls
    made_calls it reply new (inr (lost, is)) spent calls =
        spent_calls it reply new is (spent lost).0 (spent lost).1 calls.step calls.others
