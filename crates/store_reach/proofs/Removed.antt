-- Objects go, or there are none that do.
use Rattle.std.proofs.Common.{◌≡◌, ◌<◌, List, [], ◌∷◌, false, not, Result, Ok, length, refl, sym, ap, ◌∙◌, arith}
use Rattle.std.specs.Prelude.{ℕ, ◌==◌}
use Rattle.std.specs.Cmp.Lexicographic.{nat_list_cmp_total}
use Rattle.std.specs.FinMap as finite
use Rattle.std.proofs.lemmas.Bool.{false≢true}
use Rattle.sqlite_trees.specs.declared.store.Store.{Ghosts}
use Rattle.sqlite.specs.Held.{state}
use Rattle.tables_sql.specs.declared.failure.Failed.{Failed}
use Rattle.live.specs.Graph.{holds}
use Rattle.policy.specs.Settings.{Settings}
use Rattle.policy.specs.Caller.{Caller}
use Rattle.model.specs.World.{Path, World, Objects}
use Rattle.tables_outline.specs.Outline.{outline_of}
use Rattle.model.specs.Reply.{freed}
use Rattle.model.specs.Request.{Request}
use Rattle.model.proofs.MapMembers.{bytes_antisymmetric}
use Rattle.model.proofs.Worlds.{get-keeping}
use Rattle.tables_writes.specs.Writes.{CommitsChange}
use Rattle.tables_writes.specs.TablesValue.{TablesValue}
use Rattle.store_types.specs.declared.replies.Answer.{Answer}
use Rattle.store_types.specs.View.{answer_view}
use Rattle.store_promises.specs.Causes.{HasCause}
use Rattle.store_promises.specs.Meets.{IsMet, reply_to}
use Rattle.store_reach.specs.Removal.{Removes, without}
use Rattle.store_promises.specs.Answers.{answered}
use Rattle.store_promises.proofs.Untouched.{survives_still, stays_durable_still, others_still}
use Rattle.store_promises.proofs.Written.{met_by_writing}

-- a list that isn't empty has an item
pub positive : {X : Type 0} (l : List X) → (length l == 0) ≡ false → 0 < length l
positive [] h = absurd (false≢true (sym h))
positive (x ∷ xs) h = omega arith

-- if nothing is deleted, all stays
none_deleted : (objects : Objects) → finite.retain_keys objects (λ p. not (holds [] p)) ≡ objects
none_deleted objects =
    finite.same_map nat_list_cmp_total bytes_antisymmetric _ _ (λ q. get-keeping objects (λ p. not (holds [] p)) q)

module _ {S : Type 0} (g : Ghosts S) (s : Settings) (c : Caller) (q : Request) (k : TablesValue S) (found : List Path)
    (bytes : ℕ) (a : Answer) (seen : answer_view a ≡ freed found bytes)
    (removes : (w : World) → outline_of w ≡ k.outline → Removes s w c q found bytes) where
  -- nothing is deleted
  pub met_by_none : found ≡ [] → IsMet g s c q (Ok a) k k
  met_by_none none = record {
    dir = refl;
    world = λ w t.
        let r = removes w t.outline in (
          w,
          (
            r.passes,
            λ _. seen ∙ r.answers,
            sym (ap (λ (m : Objects). record w { objects = m }) (none_deleted w.objects))
                ∙ ap (without w) (sym none) ∙ r.becomes,
          ),
          t,
        );
    cause = λ w t. tt;
    others = others_still g k;
    still = λ h. absurd h;
    stays_durable = λ _. stays_durable_still g k;
    survives = λ w t. survives_still (state g k.connection) _;
  }

  -- these are deleted
  pub met_by_removing : (new : TablesValue S) (passed : List Path) → passed ≡ found → (r : Result (Unit {0}) Failed)
      → CommitsChange g k new r (λ w. without w passed)
      → HasCause g q (reply_to (answered r a)) k new → IsMet g s c q (answered r a) k new
  met_by_removing new passed same =
      met_by_writing g s c q k new (λ w. without w passed) a (λ w is. (removes w is).passes)
      (λ w is. seen ∙ (removes w is).answers) (λ w is. ap (without w) same ∙ (removes w is).becomes)
