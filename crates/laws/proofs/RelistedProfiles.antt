-- Which roots there are after a call on a profile.
use Rattle.std.proofs.Common.{◌≡◌, ◌↔◌, ℕ, ◌≤◌, List, Some, None, Option, refl, sym, ap, arith, ◌∙◌, IsTrue, subst, inl}
use Rattle.std.proofs.Common.{inr, ◌⊎◌}
use Rattle.std.specs.Prelude.{is_some, Contains}
use Rattle.std.specs.Ordering.{nat_cmp}
use Rattle.std.specs.Cmp.{nat_cmp_total}
use Rattle.std.specs.FinMap as finite
use Rattle.std.proofs.lemmas.Bool.{false≢true}
use Rattle.std.proofs.lemmas.Option.{same_Some}
use Rattle.paths.specs.Root.{profile, Root, generation_label}
use Rattle.model.specs.World.{Path, Pair, Profile, World, generation_root, roots_of}
use Rattle.model.specs.Sound.{IsSound}
use Rattle.model.proofs.Empty.{no_entry}
use Rattle.model.specs.Reply.{Answer}
use Rattle.model.specs.Profiles.{profile_or_new, profile_at, has_generation}
use Rattle.laws.specs.Generations.{ChangesProfile, IsNumberFor, again, next, first, SetsProfile, MovesTo}
use Rattle.laws.specs.Generations.{LosesGeneration}
use Rattle.laws.specs.Relisted.{CoexistedWith}
use Rattle.model.proofs.MapMembers.{nat_antisymmetric, pair_total, pair_antisymmetric}
use Rattle.model.proofs.EveryRoot.{each_root}
use Rattle.laws.proofs.LabelsDiffer.{same_generation}
use Rattle.laws.proofs.RootsByTable.{same_or_not, AgreeBut, turned, moved, of_kind, next_to, generations}

-- ---- the roots of a world and of the next, whose one profile changed

module _ (w new : World) (owned : Pair) (now : Profile) (k : ChangesProfile w new owned now) where
  agree : AgreeBut profile new w
  agree = record {
    permanent_ = λ _. k.permanent;
    user_ = λ _. k.user_roots;
    generation_ = λ apart. absurd (apart refl);
    runtime_ = λ _. k.runtime;
    temporary_ = λ _. k.temporary;
  }

  -- those of the next: roots of other kinds that existed, generations of other profiles that existed, and those of this
  -- one as it is now
  forward : (P : Root → Type 0) → ((r : Root) → Contains (roots_of w) r → (r.kind ≡ profile → ⊥) → P r)
      → ((o : Pair) (q : Profile) (m : ℕ) (t : Path) → (o ≡ owned → ⊥) → finite.get w.profiles o ≡ Some q
      → finite.get q.generations m ≡ Some t → P (generation_root o (m, t)))
      → ((m : ℕ) (t : Path) → finite.get now.generations m ≡ Some t → P (generation_root owned (m, t))) → (r : Root)
      → Contains (roots_of new) r → P r
  forward P kinds others here r c = of_kind profile P r
      (λ is. generations new P (λ o q m t e g. by o q m t e g (same_or_not pair_total pair_antisymmetric o owned)) r c
      is)
      (λ apart. kinds r (moved profile new w agree r apart c) apart)
    where
      by : (o : Pair) (q : Profile) (m : ℕ) (t : Path) → finite.get new.profiles o ≡ Some q
          → finite.get q.generations m ≡ Some t → (o ≡ owned) ⊎ (o ≡ owned → ⊥) → P (generation_root o (m, t))
      by o q m t e g (inl same) =
          let is : q ≡ now = same_Some q now (sym e ∙ ap (finite.get new.profiles) same ∙ k.exists) in
          subst (λ (x : Pair). P (generation_root x (m, t))) (sym same)
          (here m t (ap (λ (x : Profile). finite.get x.generations m) (sym is) ∙ g))
      by o q m t e g (inr apart) = others o q m t apart (sym (k.others o apart) ∙ e) g

  -- those of the first, in the next: all but, perhaps, those of this profile
  backward : (P : Root → Type 0) → ((r : Root) → Contains (roots_of new) r → P r)
      → ((q : Profile) (m : ℕ) (t : Path) → finite.get w.profiles owned ≡ Some q → finite.get q.generations m ≡ Some t
      → P (generation_root owned (m, t))) → (r : Root) → Contains (roots_of w) r → P r
  backward P stays here r c = of_kind profile P r
      (λ is. generations w P (λ o q m t e g. by o q m t e g (same_or_not pair_total pair_antisymmetric o owned)) r c is)
      (λ apart. stays r (moved profile w new (turned profile new w agree) r apart c))
    where
      by : (o : Pair) (q : Profile) (m : ℕ) (t : Path) → finite.get w.profiles o ≡ Some q
          → finite.get q.generations m ≡ Some t → (o ≡ owned) ⊎ (o ≡ owned → ⊥) → P (generation_root o (m, t))
      by o q m t e g (inl same) =
          subst (λ (x : Pair). P (generation_root x (m, t))) (sym same)
          (here q m t (ap (finite.get w.profiles) (sym same) ∙ e) g)
      by o q m t e g (inr apart) =
          stays (generation_root o (m, t)) ((each_root new).generation o q m t (k.others o apart ∙ e) g)

-- a generation of a profile, which is new where there was none
at_profile : (w : World) (owned : Pair) (m : ℕ) (t : Path) → finite.get (profile_at w owned).generations m ≡ Some t
    → Contains (roots_of w) (generation_root owned (m, t))
at_profile w owned m t = by (finite.get w.profiles owned) refl
  where
    by : (o : Option Profile) → finite.get w.profiles owned ≡ o → finite.get (profile_or_new o).generations m ≡ Some t
        → Contains (roots_of w) (generation_root owned (m, t))
    by None e g = absurd (no_entry nat_cmp m t g)
    by (Some q) e g = (each_root w).generation owned q m t e g

-- ---- a path is set

module _ (w new : World) (owned : Pair) (p : Path) (a : Answer) (x : SetsProfile w owned p a new) where
  -- a number that was taken was the path's
  taken : (t : Path) → finite.get (profile_at w owned).generations x.number ≡ Some t → t ≡ p
  taken t e = by x.chosen
    where
      by : IsNumberFor (profile_at w owned) p x.number → t ≡ p
      by (again high is) = same_Some t p (sym e ∙ is)
      by (next m high other is) =
          let over : x.number ≤ m = high.greatest x.number (ap is_some e) in
          absurd (omega (arith, over, is))
      by (first none is) = absurd (false≢true (sym (none x.number) ∙ ap is_some e))

  pub generation_present : (r : Root)
      → Contains (roots_of new) r ↔ ((r ≡ generation_root owned (x.number, p)) ⊎ Contains (roots_of w) r)
  generation_present r = (
    forward w new owned x.now x.change (λ y. (y ≡ generation_root owned (x.number, p)) ⊎ Contains (roots_of w) y)
        (λ y c _. inr c)
        (λ o q m t _ e g. inr ((each_root w).generation o q m t e g))
        (λ m t e. now_or_before m t e (same_or_not nat_cmp_total nat_antisymmetric m x.number)) r,
    λ h. elim h as (λ _. Contains (roots_of new) r) [
      | inl is ↦ subst (Contains (roots_of new)) (sym is) present
      | inr c ↦ backward w new owned x.now x.change (Contains (roots_of new)) (λ y d. d)
          (λ q m t e g. still m t (ap (λ o. finite.get (profile_or_new o).generations m) e ∙ g)
          (same_or_not nat_cmp_total nat_antisymmetric m x.number)) r c
    ],
  )
    where
      present : Contains (roots_of new) (generation_root owned (x.number, p))
      present = (each_root new).generation owned x.now x.number p x.change.exists x.target

      now_or_before : (m : ℕ) (t : Path) → finite.get x.now.generations m ≡ Some t → (m ≡ x.number) ⊎ (m ≡ x.number → ⊥)
          → (generation_root owned (m, t) ≡ generation_root owned (x.number, p))
          ⊎ Contains (roots_of w) (generation_root owned (m, t))
      now_or_before m t e (inl same) =
          let target : t ≡ p = same_Some t p (sym e ∙ ap (finite.get x.now.generations) same ∙ x.target) in
          inl (λ i. generation_root owned (same i, target i))
      now_or_before m t e (inr apart) = inr (at_profile w owned m t (sym (x.others m apart) ∙ e))

      still : (m : ℕ) (t : Path) → finite.get (profile_at w owned).generations m ≡ Some t
          → (m ≡ x.number) ⊎ (m ≡ x.number → ⊥) → Contains (roots_of new) (generation_root owned (m, t))
      still m t e (inl same) =
          let target : t ≡ p = taken t (ap (finite.get (profile_at w owned).generations) (sym same) ∙ e) in
          subst (Contains (roots_of new)) (λ i. generation_root owned (sym same i, sym target i)) present
      still m t e (inr apart) = (each_root new).generation owned x.now m t x.change.exists (x.others m apart ∙ e)

-- ---- another generation becomes the current one

pub generations_stay : (w new : World) (owned : Pair) (n : ℕ) → MovesTo w owned n new → (r : Root)
    → Contains (roots_of new) r ↔ Contains (roots_of w) r
generations_stay w new owned n x r = (
  forward w new owned x.now x.change (Contains (roots_of w)) (λ y c _. c)
      (λ o q m t _ e g. (each_root w).generation o q m t e g)
      (λ m t e. (each_root w).generation owned x.was m t x.existed (ap (λ g. finite.get g m) (sym x.generations) ∙ e))
      r,
  backward w new owned x.now x.change (Contains (roots_of new)) (λ y d. d)
      (λ q m t e g. (each_root new).generation owned x.now m t x.change.exists
      (ap (λ y. finite.get y m) x.generations
      ∙ ap (λ (y : Profile). finite.get y.generations m) (same_Some x.was q (sym x.existed ∙ e)) ∙ g)) r,
)

-- ---- a generation is deleted

module _ (dir : List ℕ) (w new : World) (sound : IsSound dir w) (owner name : List ℕ) (n : ℕ)
    (x : LosesGeneration w (owner, name) n new) where
  -- the label of another generation is another
  label_differ : (o : Pair) (q : Profile) (m : ℕ) → finite.get w.profiles o ≡ Some q → IsTrue (has_generation q m)
      → generation_label o.0 o.1 m ≡ generation_label owner name n
      → (o.0 ≡ owner) × (o.1 ≡ name) × (m ≡ n)
  label_differ o q m e present =
      let mine = sound.profiles (owner, name) x.was x.existed in
      let other_owner = sound.profiles o q e in
      let low : n ≤ 9999 = mine.highest n x.present in
      let small : m ≤ 9999 = other_owner.highest m present in
      same_generation o.0 owner o.1 name m n other_owner.owner mine.owner (omega (arith, small)) (omega (arith, low))

  differ_from : (o : Pair) (q : Profile) (m : ℕ) (t : Path) → finite.get w.profiles o ≡ Some q
      → finite.get q.generations m ≡ Some t → (o ≡ (owner, name) → m ≡ n → ⊥)
      → CoexistedWith w profile (generation_label owner name n) (generation_root o (m, t))
  differ_from o q m t e g other = record {
    existed = (each_root w).generation o q m t e g;
    other = λ _ l. let is = label_differ o q m e (ap is_some g) l in other (λ i. (is.0 i, is.1 i)) is.2;
  }

  pub generation_absent : (r : Root)
      → Contains (roots_of new) r ↔ CoexistedWith w profile (generation_label owner name n) r
  generation_absent r = (
    forward w new (owner, name) x.now x.change (CoexistedWith w profile (generation_label owner name n))
        (λ y c apart. next_to w profile (generation_label owner name n) y c apart)
        (λ o q m t apart e g. differ_from o q m t e g (λ same _. apart same))
        (λ m t e. left m t e (same_or_not nat_cmp_total nat_antisymmetric m n)) r,
    λ s. backward w new (owner, name) x.now x.change
        (λ y. (y.kind ≡ profile → y.label ≡ generation_label owner name n → ⊥) → Contains (roots_of new) y) (λ y d _. d)
        (λ q m t e g other. still m t
        (ap (λ (y : Profile). finite.get y.generations m) (same_Some x.was q (sym x.existed ∙ e)) ∙ g)
        (λ same. other refl (ap (generation_label owner name) same))) r s.existed s.other,
  )
    where
      left : (m : ℕ) (t : Path) → finite.get x.now.generations m ≡ Some t → (m ≡ n) ⊎ (m ≡ n → ⊥)
          → CoexistedWith w profile (generation_label owner name n) (generation_root (owner, name) (m, t))
      left m t e (inl same) =
          absurd (false≢true (sym x.deleted ∙ ap (λ k. is_some (finite.get x.now.generations k)) (sym same)
          ∙ ap is_some e))
      left m t e (inr apart) =
          differ_from (owner, name) x.was m t x.existed (sym (x.others m apart) ∙ e) (λ _ is. apart is)

      still : (m : ℕ) (t : Path) → finite.get x.was.generations m ≡ Some t → (m ≡ n → ⊥)
          → Contains (roots_of new) (generation_root (owner, name) (m, t))
      still m t e apart = (each_root new).generation (owner, name) x.now m t x.change.exists (x.others m apart ∙ e)
