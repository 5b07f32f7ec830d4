-- The roots of a world, table by table, and those of another world whose tables are the same but for one.
use Rattle.std.proofs.Common.{◌≡◌, ℕ, List, Bool, true, false, Some, refl, sym, ap, ◌∙◌, IsTrue, subst, inl, inr, ◌⊎◌}
use Rattle.std.specs.Prelude.{◌==◌, Contains}
use Rattle.std.specs.declared.cmp.Ordering.{Ordering}
use Rattle.std.specs.Ordering.{eq_by_cmp, is_eq, nat_cmp}
use Rattle.std.specs.Cmp.{IsTotalOrder, tied_itself, nat_cmp_total}
use Rattle.std.specs.FinMap as finite
use Rattle.std.proofs.lemmas.Bool.{false≢true, eq-eqb}
use Rattle.paths.specs.Root.{Kind, permanent, user, profile, runtime, temporary, Root, place}
use Rattle.live.proofs.Order.{same_kinds}
use Rattle.model.specs.World.{Path, Pair, Profile, Temporary, World, permanent_root, user_root, generation_root}
use Rattle.model.specs.World.{runtime_root, temporary_root, roots_of}
use Rattle.model.specs.Entries.{IsEntry, of_permanent, of_user, of_generation, of_runtime, of_temporary}
use Rattle.laws.specs.Relisted.{CoexistedWith}
use Rattle.model.proofs.EveryRoot.{each_root}
use Rattle.model.proofs.MapMembers.{tied_is, nat_antisymmetric}

-- two keys are the same or aren't
pub same_or_not : {K : Type 0} {R : K → K → Ordering} → IsTotalOrder R → finite.IsAntisymmetric R → (j k : K)
    → (j ≡ k) ⊎ (j ≡ k → ⊥)
same_or_not {K} {R} o same j k = by (eq_by_cmp R j k) refl
  where
    by : (b : Bool) → eq_by_cmp R j k ≡ b → (j ≡ k) ⊎ (j ≡ k → ⊥)
    by true e = inl (tied_is same j k e)
    by false e = inr (λ is. false≢true (sym e ∙ ap (λ x. eq_by_cmp R x k) is ∙ ap is_eq (tied_itself o k)))

pub kinds_distinct : (j k : Kind) → (place j == place k) ≡ false → j ≡ k → ⊥
kinds_distinct j k f e = false≢true (sym f ∙ eq-eqb (place j) (place k) (ap place e))

-- ---- each entry of each table

pub record Passes (P : Root → Type 0) (w : World) : Type 0 where
  pub permanent_ : (name : List ℕ) (t : Path) → finite.get w.permanent name ≡ Some t → P (permanent_root (name, t))
  pub user_ : (owned : Pair) (t : Path) → finite.get w.user_roots owned ≡ Some t → P (user_root (owned, t))
  pub generation_ : (owned : Pair) (p : Profile) (n : ℕ) (t : Path) → finite.get w.profiles owned ≡ Some p
      → finite.get p.generations n ≡ Some t → P (generation_root owned (n, t))
  pub runtime_ : (r : Pair) → IsTrue (finite.contains_key w.runtime r) → P (runtime_root r)
  pub temporary_ : (t : Temporary) → IsTrue (finite.contains_key w.temporary t) → P (temporary_root t)

pub every : (P : Root → Type 0) (w : World) → Passes P w → (r : Root) → Contains (roots_of w) r → P r
every P w h r c = by ((each_root w).no_other r c)
  where
    by : IsEntry w r → P r
    by (of_permanent name t e is) = subst P is (h.permanent_ name t e)
    by (of_user owned t e is) = subst P is (h.user_ owned t e)
    by (of_generation owned p n t e g is) = subst P is (h.generation_ owned p n t e g)
    by (of_runtime pair k is) = subst P is (h.runtime_ pair k)
    by (of_temporary t k is) = subst P is (h.temporary_ t k)

-- ---- tables that stay

-- each table but that of this kind is the same in both
pub record AgreeBut (k : Kind) (u v : World) : Type 0 where
  pub permanent_ : (permanent ≡ k → ⊥) → u.permanent ≡ v.permanent
  pub user_ : (user ≡ k → ⊥) → u.user_roots ≡ v.user_roots
  pub generation_ : (profile ≡ k → ⊥) → u.profiles ≡ v.profiles
  pub runtime_ : (runtime ≡ k → ⊥) → u.runtime ≡ v.runtime
  pub temporary_ : (temporary ≡ k → ⊥) → u.temporary ≡ v.temporary

pub turned : (k : Kind) (u v : World) → AgreeBut k u v → AgreeBut k v u
turned k u v a = record {
  permanent_ = λ f. sym (a.permanent_ f);
  user_ = λ f. sym (a.user_ f);
  generation_ = λ f. sym (a.generation_ f);
  runtime_ = λ f. sym (a.runtime_ f);
  temporary_ = λ f. sym (a.temporary_ f);
}

-- a root of another kind stays
pub moved : (k : Kind) (u v : World) → AgreeBut k u v → (r : Root) → (r.kind ≡ k → ⊥) → Contains (roots_of u) r
    → Contains (roots_of v) r
moved k u v a r f c = every (λ x. (x.kind ≡ k → ⊥) → Contains (roots_of v) x) u (record {
  permanent_ = λ name t e g. (each_root v).permanent name t (ap (λ m. finite.get m name) (sym (a.permanent_ g)) ∙ e);
  user_ = λ owned t e g. (each_root v).user owned t (ap (λ m. finite.get m owned) (sym (a.user_ g)) ∙ e);
  generation_ =
      λ owned p n t e d g. (each_root v).generation owned p n t
      (ap (λ m. finite.get m owned) (sym (a.generation_ g)) ∙ e) d;
  runtime_ = λ pair h g. (each_root v).runtime pair (ap (λ m. finite.contains_key m pair) (sym (a.runtime_ g)) ∙ h);
  temporary_ = λ t h g. (each_root v).temporary t (ap (λ m. finite.contains_key m t) (sym (a.temporary_ g)) ∙ h);
}) r c f

-- ---- one kind and the others

same_place : (j k : Kind) → place j ≡ place k → j ≡ k
same_place j k e = same_kinds j k (ap (λ n. nat_cmp n (place k)) e ∙ tied_itself nat_cmp_total (place k))

-- what holds of a root if it is of this kind, and if it isn't, holds
pub of_kind : (k : Kind) (P : Root → Type 0) (r : Root) → (r.kind ≡ k → P r) → ((r.kind ≡ k → ⊥) → P r) → P r
of_kind k P r here present = elim (same_or_not nat_cmp_total nat_antisymmetric (place r.kind) (place k)) as (λ _. P r) [
  | inl same ↦ here (same_place r.kind k same)
  | inr apart ↦ present (λ is. apart (ap place is))
]

pub next_to : (w : World) (k : Kind) (label : List ℕ) (r : Root) → Contains (roots_of w) r → (r.kind ≡ k → ⊥)
    → CoexistedWith w k label r
next_to w k label r c f = record { existed = c; other = λ is l. f is }

module _ (w : World) (P : Root → Type 0) where
  pub permanents : ((name : List ℕ) (t : Path) → finite.get w.permanent name ≡ Some t → P (permanent_root (name, t)))
      → (r : Root) → Contains (roots_of w) r → r.kind ≡ permanent → P r
  permanents h = every (λ x. x.kind ≡ permanent → P x) w (record {
    permanent_ = λ name t e is. h name t e;
    user_ = λ owned t e is. absurd (kinds_distinct user permanent refl is);
    generation_ = λ owned p n t e g is. absurd (kinds_distinct profile permanent refl is);
    runtime_ = λ pair e is. absurd (kinds_distinct runtime permanent refl is);
    temporary_ = λ t e is. absurd (kinds_distinct temporary permanent refl is);
  })

  pub users : ((owned : Pair) (t : Path) → finite.get w.user_roots owned ≡ Some t → P (user_root (owned, t)))
      → (r : Root) → Contains (roots_of w) r → r.kind ≡ user → P r
  users h = every (λ x. x.kind ≡ user → P x) w (record {
    permanent_ = λ name t e is. absurd (kinds_distinct permanent user refl is);
    user_ = λ owned t e is. h owned t e;
    generation_ = λ owned p n t e g is. absurd (kinds_distinct profile user refl is);
    runtime_ = λ pair e is. absurd (kinds_distinct runtime user refl is);
    temporary_ = λ t e is. absurd (kinds_distinct temporary user refl is);
  })

  pub generations : ((owned : Pair) (p : Profile) (n : ℕ) (t : Path) → finite.get w.profiles owned ≡ Some p
      → finite.get p.generations n ≡ Some t → P (generation_root owned (n, t)))
      → (r : Root) → Contains (roots_of w) r → r.kind ≡ profile → P r
  generations h = every (λ x. x.kind ≡ profile → P x) w (record {
    permanent_ = λ name t e is. absurd (kinds_distinct permanent profile refl is);
    user_ = λ owned t e is. absurd (kinds_distinct user profile refl is);
    generation_ = λ owned p n t e g is. h owned p n t e g;
    runtime_ = λ pair e is. absurd (kinds_distinct runtime profile refl is);
    temporary_ = λ t e is. absurd (kinds_distinct temporary profile refl is);
  })

  pub runtimes : ((pair : Pair) → IsTrue (finite.contains_key w.runtime pair) → P (runtime_root pair)) → (r : Root)
      → Contains (roots_of w) r → r.kind ≡ runtime → P r
  runtimes h = every (λ x. x.kind ≡ runtime → P x) w (record {
    permanent_ = λ name t e is. absurd (kinds_distinct permanent runtime refl is);
    user_ = λ owned t e is. absurd (kinds_distinct user runtime refl is);
    generation_ = λ owned p n t e g is. absurd (kinds_distinct profile runtime refl is);
    runtime_ = λ pair e is. h pair e;
    temporary_ = λ t e is. absurd (kinds_distinct temporary runtime refl is);
  })

  pub temporaries : ((t : Temporary) → IsTrue (finite.contains_key w.temporary t) → P (temporary_root t)) → (r : Root)
      → Contains (roots_of w) r → r.kind ≡ temporary → P r
  temporaries h = every (λ x. x.kind ≡ temporary → P x) w (record {
    permanent_ = λ name t e is. absurd (kinds_distinct permanent temporary refl is);
    user_ = λ owned t e is. absurd (kinds_distinct user temporary refl is);
    generation_ = λ owned p n t e g is. absurd (kinds_distinct profile temporary refl is);
    runtime_ = λ pair e is. absurd (kinds_distinct runtime temporary refl is);
    temporary_ = λ t e is. h t e;
  })
