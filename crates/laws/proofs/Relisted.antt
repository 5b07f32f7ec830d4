-- Which roots there are after a call, and that listings show them: named roots.
use Rattle.std.proofs.Common.{◌≡◌, ◌↔◌, ℕ, List, false, Some, refl, sym, ap, ◌∙◌, IsTrue, subst, inl, inr, ◌⊎◌}
use Rattle.std.specs.Prelude.{is_some, Contains}
use Rattle.std.specs.Cmp.Lexicographic.{nat_list_cmp_total}
use Rattle.std.specs.FinMap as finite
use Rattle.std.proofs.lemmas.Bool.{false≢true}
use Rattle.std.proofs.lemmas.Option.{same_Some}
use Rattle.paths.specs.Names.{is_plain_name}
use Rattle.paths.specs.Root.{permanent, user, Root, permanent_label, user_label}
use Rattle.policy.specs.Settings.{Settings}
use Rattle.policy.specs.Caller.{Caller}
use Rattle.model.specs.World.{Path, Pair, World, permanent_root, user_root, roots_of}
use Rattle.model.specs.Sound.{IsSound}
use Rattle.laws.specs.RootChanges.{ChangesPermanent, ChangesUserRoot}
use Rattle.laws.specs.Relisted.{ListsRoots, CoexistedWith}
use Rattle.model.proofs.MapMembers.{bytes_antisymmetric, pair_total, pair_antisymmetric}
use Rattle.model.proofs.EveryRoot.{each_root}
use Rattle.laws.proofs.Tellings.{root_listings_report}
use Rattle.laws.proofs.LabelsDiffer.{same_permanent, same_user}
use Rattle.laws.proofs.RootsByTable.{same_or_not, AgreeBut, turned, moved, of_kind, next_to, permanents, users}

-- ---- what is reported is what there is

pub relisted : (s : Settings) (w : World) (c : Caller) (Holds : Root → Type 0)
    → ((r : Root) → Contains (roots_of w) r ↔ Holds r) → ListsRoots s w c Holds
relisted s w c Holds is = record {
  all = λ a new h.
      let x = (root_listings_report s w c).all a new h in
      record {
        shown = x.shown;
        reported = x.reported;
        exactly = λ r. ((λ k. (is r).0 ((x.exactly r).0 k)), (λ k. (x.exactly r).1 ((is r).1 k)));
        in_order = x.in_order;
      };
  of = λ p a new h.
      let x = (root_listings_report s w c).of p a new h in
      record {
        shown = x.shown;
        reported = x.reported;
        exactly =
            λ r. (
              (λ k. let both = (x.exactly r).0 k in ((is r).0 both.0, both.1)),
              (λ k. (x.exactly r).1 ((is r).1 k.0, k.1)),
            );
        in_order = x.in_order;
      };
}

-- ---- permanent roots

module _ (w new : World) (name : List ℕ) (k : ChangesPermanent w new name) where
  agree : AgreeBut permanent new w
  agree = record {
    permanent_ = λ apart. absurd (apart refl);
    user_ = λ _. k.user_roots;
    generation_ = λ _. k.profiles;
    runtime_ = λ _. k.runtime;
    temporary_ = λ _. k.temporary;
  }

  -- one of another name existed
  existed : (n : List ℕ) (t : Path) → (n ≡ name → ⊥) → finite.get new.permanent n ≡ Some t
      → CoexistedWith w permanent (permanent_label name) (permanent_root (n, t))
  existed n t apart e = record {
    existed = (each_root w).permanent n t (sym (k.others n apart) ∙ e);
    other = λ _ l. apart (same_permanent n name l);
  }

  -- and is there still
  exists : (r : Root) → CoexistedWith w permanent (permanent_label name) r → Contains (roots_of new) r
  exists r s = of_kind permanent (Contains (roots_of new)) r
      (λ is. permanents w (λ x. (x.label ≡ permanent_label name → ⊥) → Contains (roots_of new) x)
      (λ n t e f. (each_root new).permanent n t (k.others n (λ same. f (ap permanent_label same)) ∙ e)) r s.existed is
      (s.other is))
      (λ f. moved permanent w new (turned permanent new w agree) r f s.existed)

  -- so the roots are those, and one of this name if there is
  pub permanent_roots : (P : Root → Type 0) → ((r : Root) → CoexistedWith w permanent (permanent_label name) r → P r)
      → ((t : Path) → finite.get new.permanent name ≡ Some t → P (permanent_root (name, t))) → (r : Root)
      → Contains (roots_of new) r → P r
  permanent_roots P f here r c = of_kind permanent P r
      (λ is. permanents new P (λ n t e. by n t e (same_or_not nat_list_cmp_total bytes_antisymmetric n name)) r c is)
      (λ apart. f r (next_to w permanent (permanent_label name) r (moved permanent new w agree r apart c) apart))
    where
      by : (n : List ℕ) (t : Path) → finite.get new.permanent n ≡ Some t → (n ≡ name) ⊎ (n ≡ name → ⊥)
          → P (permanent_root (n, t))
      by n t e (inl same) =
          subst (λ (m : List ℕ). P (permanent_root (m, t))) (sym same)
          (here t (ap (finite.get new.permanent) (sym same) ∙ e))
      by n t e (inr apart) = f (permanent_root (n, t)) (existed n t apart e)

  pub permanent_removed : finite.contains_key new.permanent name ≡ false → (r : Root)
      → Contains (roots_of new) r ↔ CoexistedWith w permanent (permanent_label name) r
  permanent_removed deleted r = (
    permanent_roots (CoexistedWith w permanent (permanent_label name)) (λ x b. b)
        (λ t e. absurd (false≢true (sym deleted ∙ ap is_some e))) r,
    exists r,
  )

  pub permanent_present : (p : Path) → finite.get new.permanent name ≡ Some p
      → (r : Root) → Contains (roots_of new) r
      ↔ ((r ≡ permanent_root (name, p)) ⊎ CoexistedWith w permanent (permanent_label name) r)
  permanent_present p present r = (
    permanent_roots (λ x. (x ≡ permanent_root (name, p)) ⊎ CoexistedWith w permanent (permanent_label name) x)
        (λ x b. inr b)
        (λ t e. inl (ap (λ (q : Path). permanent_root (name, q)) (same_Some t p (sym e ∙ present)))) r,
    λ h. elim h as (λ _. Contains (roots_of new) r) [
      | inl is ↦ subst (Contains (roots_of new)) (sym is) ((each_root new).permanent name p present)
      | inr b ↦ exists r b
    ],
  )

-- ---- user roots

module _ (dir : List ℕ) (w new : World) (sound : IsSound dir w) (owner name : List ℕ)
    (plain : IsTrue (is_plain_name owner)) (k : ChangesUserRoot w new (owner, name)) where
  agree_users : AgreeBut user new w
  agree_users = record {
    permanent_ = λ _. k.permanent;
    user_ = λ apart. absurd (apart refl);
    generation_ = λ _. k.profiles;
    runtime_ = λ _. k.runtime;
    temporary_ = λ _. k.temporary;
  }

  existed_user : (o : Pair) (t : Path) → (o ≡ (owner, name) → ⊥) → finite.get new.user_roots o ≡ Some t
      → CoexistedWith w user (user_label owner name) (user_root (o, t))
  existed_user o t apart e = record {
    existed = (each_root w).user o t (sym (k.others o apart) ∙ e);
    other = λ _ l.
        let both =
        same_user o.0 owner o.1 name (sound.user_root_owner o (ap is_some (sym (k.others o apart) ∙ e))) plain l in
        apart (λ i. (both.0 i, both.1 i));
  }

  exists_user : (r : Root) → CoexistedWith w user (user_label owner name) r → Contains (roots_of new) r
  exists_user r s = of_kind user (Contains (roots_of new)) r
      (λ is. users w (λ x. (x.label ≡ user_label owner name → ⊥) → Contains (roots_of new) x)
      (λ o t e f. (each_root new).user o t (k.others o (λ same. f (ap (λ (x : Pair). user_label x.0 x.1) same)) ∙ e)) r
      s.existed is (s.other is))
      (λ f. moved user w new (turned user new w agree_users) r f s.existed)

  user_roots_now : (P : Root → Type 0) → ((r : Root) → CoexistedWith w user (user_label owner name) r → P r)
      → ((t : Path) → finite.get new.user_roots (owner, name) ≡ Some t → P (user_root ((owner, name), t))) → (r : Root)
      → Contains (roots_of new) r → P r
  user_roots_now P f here r c = of_kind user P r
      (λ is. users new P (λ o t e. by o t e (same_or_not pair_total pair_antisymmetric o (owner, name))) r c is)
      (λ apart. f r (next_to w user (user_label owner name) r (moved user new w agree_users r apart c) apart))
    where
      by : (o : Pair) (t : Path) → finite.get new.user_roots o ≡ Some t → (o ≡ (owner, name)) ⊎ (o ≡ (owner, name) → ⊥)
          → P (user_root (o, t))
      by o t e (inl same) =
          subst (λ (x : Pair). P (user_root (x, t))) (sym same) (here t (ap (finite.get new.user_roots) (sym same) ∙ e))
      by o t e (inr apart) = f (user_root (o, t)) (existed_user o t apart e)

  pub user_removed : finite.contains_key new.user_roots (owner, name) ≡ false → (r : Root)
      → Contains (roots_of new) r ↔ CoexistedWith w user (user_label owner name) r
  user_removed deleted r = (
    user_roots_now (CoexistedWith w user (user_label owner name)) (λ x b. b)
        (λ t e. absurd (false≢true (sym deleted ∙ ap is_some e))) r,
    exists_user r,
  )

  pub user_present : (p : Path) → finite.get new.user_roots (owner, name) ≡ Some p
      → (r : Root) → Contains (roots_of new) r
      ↔ ((r ≡ user_root ((owner, name), p)) ⊎ CoexistedWith w user (user_label owner name) r)
  user_present p present r = (
    user_roots_now (λ x. (x ≡ user_root ((owner, name), p)) ⊎ CoexistedWith w user (user_label owner name) x)
        (λ x b. inr b)
        (λ t e. inl (ap (λ (q : Path). user_root ((owner, name), q)) (same_Some t p (sym e ∙ present)))) r,
    λ h. elim h as (λ _. Contains (roots_of new) r) [
      | inl is ↦ subst (Contains (roots_of new)) (sym is) ((each_root new).user (owner, name) p present)
      | inr b ↦ exists_user r b
    ],
  )
