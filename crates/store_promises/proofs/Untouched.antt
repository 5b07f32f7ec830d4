-- Tables that a request leaves as they were.
use Rattle.std.proofs.Common.{◌≡◌, Result, Ok, Err, refl, sym, ◌∙◌, inl, inr}
use Rattle.sqlite_trees.specs.declared.store.Store.{Ghosts}
use Rattle.sqlite_trees.specs.Tree.{Trees}
use Rattle.sqlite.specs.State.{State, HasCleanDisk, Survives}
use Rattle.sqlite.specs.Held.{state}
use Rattle.tables_sql.proofs.Transactions.{survives_none}
use Rattle.tables_sql.specs.Calls.{KeepsShown}
use Rattle.policy.specs.Settings.{Settings}
use Rattle.policy.specs.Caller.{Caller}
use Rattle.model.specs.World.{World}
use Rattle.tables_outline.specs.Outline.{OutlineValue, outline_of}
use Rattle.model.specs.Request.{Request}
use Rattle.model.specs.Tests.{refusal}
use Rattle.tables_writes.specs.TablesValue.{TablesValue}
use Rattle.tables_writes.proofs.AfterWrites.{clean_before}
use Rattle.tables_writes.proofs.Transactions.{nothing_changed, others_then}
use Rattle.store_types.specs.declared.replies.Answer.{Answer}
use Rattle.store_types.specs.declared.replies.Stop.{Stop}
use Rattle.store_types.specs.declared.replies.Stop.TheVariants.{Refused, Failed}
use Rattle.store_types.specs.Tested.{Stops}
use Rattle.store_promises.specs.Durability.{LeavesOthers, StaysDurable}
use Rattle.store_types.specs.Meets.{Meets, Reads}
use Rattle.store_promises.specs.Meets.{MeetsOver, IsMet}
use Rattle.store_promises.proofs.Caused.{memory_only}

-- nothing happened
pub survives_still : (s : State) (P : Trees → Type 0) → Survives s s P
survives_still s P =
    let none = survives_none s in
    record {
      clean = none.clean;
      shield = none.shield;
      counts = none.counts;
      limit = none.limit;
      closes = none.closes;
      crash = λ clean db left. inl left;
    }

-- the same of a crash, with less said of what it may leave
pub survives_as : (s t : State) (P Q : Trees → Type 0) → ((db : Trees) → P db → Q db) → Survives s t P → Survives s t Q
survives_as s t P Q less h = record {
  clean = h.clean;
  shield = h.shield;
  counts = h.counts;
  limit = h.limit;
  closes = h.closes;
  crash = λ clean db left. elim (h.crash clean db left) [ inl was ↦ inl was | inr is ↦ inr (less db is) ];
}

pub stays_durable_still : {S : Type 0} (g : Ghosts S) (k : TablesValue S) → StaysDurable g k k
stays_durable_still g k clean = inr (record { reported = λ w t. t; same = λ _. refl; durable = λ _ h. h })

pub others_still : {S : Type 0} (g : Ghosts S) (k : TablesValue S) → LeavesOthers g k k
others_still g k clean up = (up, nothing_changed (state g k.connection).now (state g k.connection).now refl)

-- what other programs have is as it was where the connection shows what it showed
pub others_shown : {S : Type 0} (g : Ghosts S) (old new : TablesValue S)
    → (HasCleanDisk (state g new.connection) → KeepsShown (state g old.connection) (state g new.connection))
    → LeavesOthers g old new
others_shown g old new shown clean up = let it =
    shown clean in (
      it.was_open up,
      nothing_changed (state g old.connection).now (state g new.connection).now (it.now up),
    )

-- and over two steps
pub others_both : {S : Type 0} (g : Ghosts S) (a b c : TablesValue S) (P : Trees → Type 0) → LeavesOthers g a b
    → Survives (state g b.connection) (state g c.connection) P → LeavesOthers g b c → LeavesOthers g a c
others_both g a b c P first survives next clean up =
    let last = next clean up in
    let before = first (clean_before (state g b.connection) (state g c.connection) P survives clean) last.0 in (
      before.0,
      others_then (state g a.connection).now (state g b.connection).now (state g c.connection).now before.1
          last.1,
    )

-- an answer that is right is so over any disk
pub over : (is_clean : Type 0) (s : Settings) (w : World) (c : Caller) (q : Request) (r : Result Answer Stop)
    (next : World) → Meets s w c q r next → MeetsOver is_clean s w c q r next
over is_clean s w c q (Ok a) next m = (m.0, λ _. m.1, m.2)
over is_clean s w c q (Err (Refused r)) next m = m
over is_clean s w c q (Err (Failed f)) next m = m.1

module _ {S : Type 0} (g : Ghosts S) where
  -- what is answered from the outline alone
  pub met_by_reading : (s : Settings) (c : Caller) (q : Request) (r : Result Answer Stop) (k : TablesValue S)
      (o : OutlineValue) → o ≡ k.outline → Reads s c o q r → IsMet g s c q r k k
  met_by_reading s c q r k o same h = record {
    dir = refl;
    world = λ w t. (w, over _ s w c q r w (h w (t.outline ∙ sym same)), t);
    cause = λ w t. memory_only g q k k s w c r w (h w (t.outline ∙ sym same));
    others = others_still g k;
    still = λ _. refl;
    stays_durable = λ _. stays_durable_still g k;
    survives = λ w t. survives_still (state g k.connection) _;
  }

-- what stops the tests of a request
pub reads_stopped : (s : Settings) (c : Caller) (o : OutlineValue) (q : Request) (stop : Stop)
    → ((w : World) → outline_of w ≡ o → Stops stop (refusal s w q)) → Reads s c o q (Err stop)
reads_stopped s c o q (Refused r) h w is = (h w is, refl)
reads_stopped s c o q (Failed f) h w is = (h w is, refl)
