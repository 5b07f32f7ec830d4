-- A profile of an owner and a name, each told by two equal texts.
use Rattle.std.proofs.Common.{◌≡◌, ℕ, List, Some, None, Option, Result, sym, ap, ap₂, subst, ◌∙◌, IsTrue}
use Rattle.std.specs.Prelude.{unwrap_or}
use Rattle.std.specs.FinMap as finite
use Rattle.sqlite_value.specs.Order.{Row}
use Rattle.sqlite_schema.specs.declared.schema.Table.{Table}
use Rattle.sqlite_trees.specs.declared.store.Store.{Ghosts}
use Rattle.tables_sql.specs.declared.failure.Failed.{Failed}
use Rattle.policy.specs.Settings.{Settings}
use Rattle.policy.specs.Caller.{Caller}
use Rattle.model.specs.Disk.{puts_rows, touches_disk}
use Rattle.model.specs.World.{Pair, Profile, World}
use Rattle.model.specs.Sound.{IsSound}
use Rattle.model.specs.Request.{Request}
use Rattle.model.specs.Tests.{refusal}
use Rattle.model.specs.Answers.{answer}
use Rattle.model.specs.Profiles.{profile_at, previous, switched, rolled_back}
use Rattle.model.specs.Effects.{effect}
use Rattle.tables_outline.specs.Outline.{OutlineValue, outline_of}
use Rattle.tables_writes.specs.Entries.{with_profile_by}
use Rattle.tables_writes.specs.Writes.{ChangesTables}
use Rattle.tables_writes.specs.Reasons.{Rows, AreAmong}
use Rattle.tables_writes.specs.TablesValue.{TablesValue, HasWorld}
use Rattle.store_types.specs.View.{answer_view}
use Rattle.store_types.specs.declared.replies.Answer.{Answer}
use Rattle.store_types.specs.declared.replies.Stop.{Stop}
use Rattle.store_promises.specs.RowsPut.{rows_put}
use Rattle.store_promises.specs.Meets.{IsMet}
use Rattle.store_promises.specs.Answers.{answered}
use Rattle.store_promises.proofs.Caused.{write_fails}
use Rattle.store_promises.proofs.Written.{sound_as, met_by_writing}

module _ {a b x y : List ℕ} (first : x ≡ a) (second : y ≡ b) where
  pub same_owned : ◌≡◌ {A = Pair} (x, y) (a, b)
  same_owned = λ i. (first i, second i)

  pub present_as : (o k : OutlineValue) → o ≡ k → IsTrue (finite.contains_key o.profiles (a, b))
      → IsTrue (finite.contains_key k.profiles (x, y))
  present_as o k same h =
      sym (ap₂ (λ (m : OutlineValue) (p : Pair). finite.contains_key m.profiles p) same (sym same_owned)) ∙ h

  -- one profile is changed
  changed_as : (f : Profile → Profile) (w : World) → with_profile_by (x, y) f w ≡ with_profile_by (a, b) f w
  changed_as f w = ap (λ (p : Pair). with_profile_by p f w) same_owned

  -- switched to the number below the current one, it is rolled back
  pub rolled_to : (n : ℕ) (w : World) → Some n ≡ previous (profile_at w (a, b))
      → with_profile_by (a, b) (λ p. switched p n) w ≡ with_profile_by (a, b) rolled_back w
  rolled_to n w below = ap (λ (r : Option ℕ). with_profile_by (a, b) (λ p. switched p (unwrap_or r p.current)) w) below

  module _ {S : Type 0} (g : Ghosts S) (k : TablesValue S) (f : Profile → Profile) where
    -- a change that leaves worlds sound by the one name does so by the other
    pub sound_changed : ((w : World) → HasWorld g k w → IsSound k.dir (with_profile_by (a, b) f w)) → (w : World)
        → HasWorld g k w → IsSound k.dir (with_profile_by (x, y) f w)
    sound_changed = sound_as g k (with_profile_by (x, y) f) (with_profile_by (a, b) f) (λ w t. changed_as f w)

    -- a request that changes one profile is met by the write
    pub met_by_changing : (s : Settings) (c : Caller) (q : Request) (new : TablesValue S) (o : OutlineValue)
        → o ≡ k.outline → (reply : Answer)
        → ((w : World) → outline_of w ≡ o
        → (refusal s w q ≡ None) × (answer_view reply ≡ answer s w c q)
        × (with_profile_by (a, b) f w ≡ effect s w q))
        → (rows : Rows) → AreAmong rows (rows_put k.dir k.outline q) → IsTrue (touches_disk q)
        → ((t : Table) (row : Row) → rows.has t row → IsTrue (puts_rows q))
        → (r : Result (Unit {0}) Failed) → ChangesTables g k new r (with_profile_by (x, y) f) rows
        → (met : Result Answer Stop) → met ≡ answered r reply → IsMet g s c q met k new
    met_by_changing s c q new o same reply done rows among touches puts r changes met is =
        subst (λ (m : Result Answer Stop). IsMet g s c q m k new) (sym is)
        (met_by_writing g s c q k new (with_profile_by (x, y) f) reply
        (λ w e. (done w (e ∙ sym same)).0)
        (λ w e. (done w (e ∙ sym same)).1)
        (λ w e. changed_as f w ∙ (done w (e ∙ sym same)).2)
        r changes.frame (write_fails g q k new touches rows among puts reply r changes.cause))
