-- Requests whose archive was lost to memory.
use Rattle.std.proofs.Common.{◌≡◌, ◌++◌, [], ◌∷◌, ℕ, List, append_assoc, append-nil, subst, true, false, Option, Some}
use Rattle.std.proofs.Common.{None, refl, sym, ap, ◌∙◌, IsTrue}
use Rattle.std.specs.Prelude.{is_none, option_map}
use Rattle.std.specs.Option.{option_map_or}
use Rattle.std.proofs.lemmas.Bool.{false≢true}
use Rattle.std.proofs.lemmas.Option.{same_Some}
use Rattle.policy.specs.Settings.{Settings}
use Rattle.policy.specs.Caller.{Caller}
use Rattle.policy.specs.declared.kinds.Rule.{Rule}
use Rattle.model.specs.Reply.{Reply, denied, failed, memory}
use Rattle.store_types.specs.Spent.{is_spent, spent_reply, SpentAreAnswered}
use Rattle.store_types.specs.View.{request_view}
use Rattle.store_types.specs.declared.requests.Request.{Request}
use Rattle.store_types.specs.declared.requests.Request.TheVariants.{AddSource, Import}
use Rattle.store_reach.specs.Found.{deletes}
use Rattle.store.specs.View.{StoreView}

-- an intake without bytes is spent
pub is_lost : (nar : Option (List ℕ)) → is_none nar ≡ true → nar ≡ None
is_lost None e = refl
is_lost (Some bytes) e = absurd (false≢true e)

-- a request without an archive isn't
pub is_whole : (q made : Request) → q ≡ made → is_spent made ≡ false → IsTrue (is_spent q) → ⊥
is_whole q made is whole spent = false≢true (sym whole ∙ ap is_spent (sym is) ∙ spent)

-- and such a request is no deletion
pub is_no_deletion : (q : Request) → IsTrue (is_spent q) → deletes (request_view q) ≡ false
is_no_deletion (AddSource name refs nar) h = refl
is_no_deletion (Import p hash refs deriver ca nar) h = refl
is_no_deletion _ h = absurd (false≢true h)

abbrev denial_by : Rule → Reply
denial_by rule = denied rule None

-- it is denied by the first rule that forbids it
pub spent_denied : (rule : Option Rule) (reply : Reply) → Some reply ≡ option_map denial_by rule
    → reply ≡ option_map_or denial_by rule (failed memory)
spent_denied (Some rule) reply is = same_Some reply (denied rule None) is
spent_denied None reply is = let no : ⊥ = cc in absurd no

-- and where none does, it fails
pub spent_fails : (rule : Option Rule) → None ≡ option_map denial_by rule
    → failed memory ≡ option_map_or denial_by rule (failed memory)
spent_fails None is = refl
spent_fails (Some rule) is = let no : ⊥ = cc in absurd no

-- the tables and the settings are the store
pub same_view : {S : Type 0} (a b : StoreView S) → a.tables ≡ b.tables → a.settings ≡ b.settings → a ≡ b
same_view a b tables settings = λ i. record { tables = tables i; settings = settings i }

-- ---- over a run

-- Some of the calls were made, and each of them that was spent had its reply; these are left.
pub record SpentSoFar (s : Settings) (all left : List (Caller × Request)) (reported : List Reply) : Type 0 where
  pub made : List (Caller × Request)
  pub whole : made ++ left ≡ all
  pub answered : SpentAreAnswered s made reported

module _ (s : Settings) (all : List (Caller × Request)) where
  abbrev IsAnswered : Caller × Request → Reply → Type 0
  IsAnswered call reply = IsTrue (is_spent call.1) → reply ≡ spent_reply s call.0 (request_view call.1)

  behind : (made : List (Caller × Request)) (reported : List Reply) (call : Caller × Request) (reply : Reply)
      → SpentAreAnswered s made reported → IsAnswered call reply
      → SpentAreAnswered s (made ++ call ∷ []) (reported ++ reply ∷ [])
  behind [] [] call reply h last = (last, tt)
  behind (c ∷ made) (r ∷ reported) call reply h last = (h.0, behind made reported call reply h.1 last)
  behind [] (r ∷ reported) call reply h last = absurd h
  behind (c ∷ made) [] call reply h last = absurd h

  pub none_so_far : (left : List (Caller × Request)) (reported : List Reply) → left ≡ all → reported ≡ []
      → SpentSoFar s all left reported
  none_so_far left reported same none =
      record { made = []; whole = same; answered = subst (SpentAreAnswered s []) (sym none) tt }

  pub one_so_far : (left after : List (Caller × Request)) (call : Caller × Request) (reported : List Reply)
      (reply : Reply)
      → left ≡ call ∷ after → SpentSoFar s all left reported → IsAnswered call reply
      → SpentSoFar s all after (reported ++ reply ∷ [])
  one_so_far left after call reported reply first before last = record {
    made = before.made ++ call ∷ [];
    whole =
        append_assoc before.made (call ∷ []) after ∙ ap (λ (l : List (Caller × Request)). before.made ++ l) (sym first)
        ∙ before.whole;
    answered = behind before.made reported call reply before.answered last;
  }

  pub all_so_far : (left : List (Caller × Request)) (reported : List Reply) → left ≡ [] → SpentSoFar s all left reported
      → SpentAreAnswered s all reported
  all_so_far left reported none before =
      subst (λ (calls : List (Caller × Request)). SpentAreAnswered s calls reported)
      (sym (append-nil before.made) ∙ ap (λ (l : List (Caller × Request)). before.made ++ l) (sym none) ∙ before.whole)
      before.answered
