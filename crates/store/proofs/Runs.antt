-- Calls that are made one after another.
use Rattle.std.proofs.Common.{◌≡◌, List, [], ◌∷◌, ◌++◌, refl, sym, ap, subst, ◌∙◌, append_assoc, append-nil}
use Rattle.policy.specs.Settings.{Settings}
use Rattle.policy.specs.Caller.{Caller}
use Rattle.model.specs.World.{World}
use Rattle.model.specs.Request.{Request}
use Rattle.model.specs.Reply.{Reply, done, denied, refused, failed}
use Rattle.store_promises.specs.Disk.{StepOver, RunOver}

module _ (was is : Type 0) (clean : is → was) (s : Settings) where
  -- what a disk was clean for it was clean for while it is
  step_later : (w : World) (c : Caller) (q : Request) (reply : Reply) (next : World) → StepOver was s w c q reply next
      → StepOver is s w c q reply next
  step_later w c q (done a) next h = (h.0, λ honest. h.1 (λ reads. clean (honest reads)))
  step_later w c q (denied rule root) next h = h
  step_later w c q (refused r) next h = h
  step_later w c q (failed f) next h = h

  run_later : (w : World) (calls : List (Caller × Request)) (replies : List Reply) (next : World)
      → RunOver was s w calls replies next → RunOver is s w calls replies next
  run_later w [] [] next h = h
  run_later w (call ∷ calls) (reply ∷ replies) next h =
      (h.0, step_later w call.0 call.1 reply h.0 h.1, run_later h.0 calls replies next h.2)
  run_later w [] (reply ∷ replies) next h = h
  run_later w (call ∷ calls) [] next h = h

-- a run, and a step after it
run_more : (is_clean : Type 0) (s : Settings) (w mid next : World) (calls : List (Caller × Request))
    (replies : List Reply) (call : Caller × Request) (reply : Reply)
    → RunOver is_clean s w calls replies mid → StepOver is_clean s mid call.0 call.1 reply next
    → RunOver is_clean s w (calls ++ call ∷ []) (replies ++ reply ∷ []) next
run_more is_clean s w mid next [] [] call reply h step =
    (next, subst (λ v. StepOver is_clean s v call.0 call.1 reply next) h step, refl)
run_more is_clean s w mid next (c ∷ calls) (r ∷ replies) call reply h step =
    (h.0, h.1, run_more is_clean s h.0 mid next calls replies call reply h.2 step)
run_more is_clean s w mid next [] (r ∷ replies) call reply h step = absurd h
run_more is_clean s w mid next (c ∷ calls) [] call reply h step = absurd h

-- Some of the calls were made, and led to this world with these replies; these are left.
pub record HasRun (is_clean : Type 0) (s : Settings) (all left : List (Caller × Request)) (reported : List Reply)
    (w mid : World) : Type 0 where
  pub made : List (Caller × Request)
  pub whole : made ++ left ≡ all
  pub run : RunOver is_clean s w made reported mid

module _ (s : Settings) (all : List (Caller × Request)) where
  -- none was made yet
  pub begun : (is_clean : Type 0) (w : World) (left : List (Caller × Request)) (reported : List Reply) → left ≡ all
      → reported ≡ [] → HasRun is_clean s all left reported w w
  begun is_clean w left reported same none =
      record {
        made = [];
        whole = same;
        run = subst (λ (ts : List Reply). RunOver is_clean s w [] ts w) (sym none) refl;
      }

  -- one call more is made
  pub one_more : (was is : Type 0) → (is → was)
      → (w mid next : World) (left after : List (Caller × Request)) (call : Caller × Request) (reported : List Reply)
      (reply : Reply)
      → left ≡ call ∷ after → HasRun was s all left reported w mid → StepOver is s mid call.0 call.1 reply next
      → HasRun is s all after (reported ++ reply ∷ []) w next
  one_more was is clean w mid next left after call reported reply first before step = record {
    made = before.made ++ call ∷ [];
    whole =
        append_assoc before.made (call ∷ []) after ∙ ap (λ (l : List (Caller × Request)). before.made ++ l) (sym first)
        ∙ before.whole;
    run =
        run_more is s w mid next before.made reported call reply
        (run_later was is clean s w before.made reported mid before.run) step;
  }

  -- none is left
  pub ended : (is_clean : Type 0) (w mid : World) (left : List (Caller × Request)) (reported : List Reply) → left ≡ []
      → HasRun is_clean s all left reported w mid → RunOver is_clean s w all reported mid
  ended is_clean w mid left reported none before =
      subst (λ (calls : List (Caller × Request)). RunOver is_clean s w calls reported mid)
      (sym (append-nil before.made) ∙ ap (λ (l : List (Caller × Request)). before.made ++ l) (sym none) ∙ before.whole)
      before.run
