-- What a change of the temporary roots makes of the tables.
use Rattle.std.proofs.Common.{◌≡◌, Bool, true, false, cond, Some, None, Option, is_some, refl, sym, ap, ap₂, ◌∙◌}
use Rattle.std.specs.Ordering.{eq_by_cmp}
use Rattle.std.proofs.lemmas.Bool.{false≢true}
use Rattle.std.specs.FinMap as finite
use Rattle.sqlite_trees.specs.declared.store.Store.{Ghosts}
use Rattle.tables_sql.specs.Contents.{Contents}
use Rattle.paths.specs.Root.{Set}
use Rattle.model.specs.World.{World, Temporary, temporary_cmp}
use Rattle.tables_world.specs.Worlds.{IsSoundContents}
use Rattle.tables_outline.specs.Outline.{OutlineValue}
use Rattle.tables_outline.specs.Temporary.{unkept}
use Rattle.tables_writes.specs.Writes.{StaysSound}
use Rattle.tables_writes.specs.TablesValue.{TablesValue, Agrees}
use Rattle.tables_outline.proofs.Orders.{temporary_total, temporary_antisymmetric}
use Rattle.tables_outline.proofs.Puts.{unput_put, tied_is}
use Rattle.tables_writes.proofs.AfterWrites.{Follows, IsWrite}

-- a change of them, in the rows and in the world
module _ (rows : Contents → Contents) (F : Set temporary_cmp → Set temporary_cmp) where
  abbrev with_temporary : World → World
  with_temporary w = record w { temporary = F w.temporary }

  abbrev outline_with : OutlineValue → OutlineValue
  outline_with o = record o { temporary = F o.temporary }

  pub temporary_write : {S : Type 0} (g : Ghosts S) (k now : TablesValue S)
      → ((c : Contents) → IsSoundContents k.dir c → Follows k.dir rows with_temporary c) → k ≡ now → Agrees g k
      → StaysSound g now with_temporary
      → IsWrite g k now rows with_temporary outline_with
  temporary_write g k now follow view agrees sound = record {
    view = view;
    law = λ w. refl;
    follows = λ clean is_open. follow _ (agrees.rows clean is_open).sound;
    agrees = agrees;
    sound = sound;
  }

-- ---- one that was put into an outline, and taken back

module _ (old put : OutlineValue) (t key again : Temporary) (same : key ≡ t) (same_again : again ≡ t)
    (is : put ≡ record old { temporary = finite.insert old.temporary key tt }) where
  pub temporary_put : put ≡ record old { temporary = finite.insert old.temporary t tt }
  temporary_put = is ∙ ap (λ (k : Temporary). record old { temporary = finite.insert old.temporary k tt }) same

  kept_again : (had : Bool) → had ≡ finite.contains_key old.temporary t
      → unkept (finite.insert old.temporary t tt) t had ≡ old.temporary
  kept_again true was = present old.temporary t (finite.get old.temporary t) refl was
    where
      present : (m : Set temporary_cmp) (k : Temporary) (o : Option (Unit {0})) → finite.get m k ≡ o
          → true ≡ finite.contains_key m k → finite.insert m k tt ≡ m
      present m k (Some u) at h =
          finite.same_map temporary_total temporary_antisymmetric (finite.insert m k tt) m
          (λ q. finite.get-insert temporary_total m k tt q ∙ by q (eq_by_cmp temporary_cmp q k) refl)
        where
          by : (q : Temporary) (b : Bool) → eq_by_cmp temporary_cmp q k ≡ b
              → cond b (Some tt) (finite.get m q) ≡ finite.get m q
          by q true e = sym (ap (finite.get m) (tied_is temporary_antisymmetric q k e) ∙ at)
          by q false e = refl
      present m k None at h = absurd (false≢true (ap is_some (sym at) ∙ sym h))
  kept_again false was =
      unput_put temporary_total temporary_antisymmetric old.temporary t tt None (none (finite.get old.temporary t) was)
    where
      none : (o : Option (Unit {0})) → false ≡ is_some o → None ≡ o
      none None h = refl
      none (Some u) h = absurd (false≢true h)

  pub temporary_undone : (undone : OutlineValue) (had : Bool) → had ≡ finite.contains_key old.temporary key
      → undone ≡ record put { temporary = unkept put.temporary again had } → undone ≡ old
  temporary_undone undone had was back =
      back ∙ ap₂ (λ (o : OutlineValue) (k : Temporary). record o { temporary = unkept o.temporary k had }) temporary_put
      same_again
      ∙ ap (λ m. record old { temporary = m }) (kept_again had (was ∙ ap (finite.contains_key old.temporary) same))
