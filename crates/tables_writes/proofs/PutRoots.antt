-- A root that is put into an outline, and taken back.
use Rattle.std.proofs.Common.{◌≡◌, ℕ, List, Option, ap, ap₂, ◌∙◌, IsTrue}
use Rattle.std.specs.FinMap as finite
use Rattle.model.specs.World.{Path, Pair}
use Rattle.tables_outline.specs.Maps.{unput}
use Rattle.tables_outline.specs.Outline.{OutlineValue}
use Rattle.tables_outline.proofs.Orders.{bytes_total, bytes_antisymmetric, pair_total, pair_antisymmetric}
use Rattle.tables_outline.proofs.Puts.{unput_put, has_put}

-- ---- a permanent root

module _ (old put : OutlineValue) (name key target value : List ℕ) (same : key ≡ name) (same_value : value ≡ target)
    (is : put ≡ record old { permanent = finite.insert old.permanent key value }) where
  pub permanent_put : put ≡ record old { permanent = finite.insert old.permanent name target }
  permanent_put = is ∙ ap₂ (λ k v. record old { permanent = finite.insert old.permanent k v }) same same_value

  pub permanent_present : IsTrue (finite.contains_key put.permanent name)
  permanent_present =
      ap (λ (o : OutlineValue). finite.contains_key o.permanent name) permanent_put
      ∙ has_put bytes_total bytes_antisymmetric old.permanent name target

  pub permanent_undone : (undone : OutlineValue) (had : Option Path) → had ≡ finite.get old.permanent key
      → undone ≡ record put { permanent = unput put.permanent name had } → undone ≡ old
  permanent_undone undone had was back =
      back ∙ ap (λ (o : OutlineValue). record o { permanent = unput o.permanent name had }) permanent_put
      ∙ ap (λ m. record old { permanent = m })
      (unput_put bytes_total bytes_antisymmetric old.permanent name target had
      (was ∙ ap (finite.get old.permanent) same))

-- ---- a user root

module _ (old put : OutlineValue) (owned key again : Pair) (target value : List ℕ) (same : key ≡ owned)
    (same_again : again ≡ owned) (same_value : value ≡ target)
    (is : put ≡ record old { user_roots = finite.insert old.user_roots key value }) where
  pub user_put : put ≡ record old { user_roots = finite.insert old.user_roots owned target }
  user_put = is ∙ ap₂ (λ k v. record old { user_roots = finite.insert old.user_roots k v }) same same_value

  pub user_present : IsTrue (finite.contains_key put.user_roots again)
  user_present =
      ap₂ (λ (o : OutlineValue) k. finite.contains_key o.user_roots k) user_put same_again
      ∙ has_put pair_total pair_antisymmetric old.user_roots owned target

  pub user_undone : (undone : OutlineValue) (had : Option Path) → had ≡ finite.get old.user_roots key
      → undone ≡ record put { user_roots = unput put.user_roots again had } → undone ≡ old
  user_undone undone had was back =
      back ∙ ap₂ (λ (o : OutlineValue) k. record o { user_roots = unput o.user_roots k had }) user_put same_again
      ∙ ap (λ m. record old { user_roots = m })
      (unput_put pair_total pair_antisymmetric old.user_roots owned target had
      (was ∙ ap (finite.get old.user_roots) same))
