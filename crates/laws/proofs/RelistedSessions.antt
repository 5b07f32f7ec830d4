-- Which roots there are after a call on runtime roots or on a session, and what is reported after each call.
use Rattle.std.proofs.Common.{◌≡◌, ◌↔◌, ℕ, ◌<◌, ◌^◌, List, nat_le, ◌&&◌, refl, sym, ap, arith, ◌∙◌, IsTrue, subst, inl}
use Rattle.std.proofs.Common.{inr, ◌⊎◌, leb-true}
use Rattle.std.specs.Prelude.{Contains}
use Rattle.std.specs.Cmp.{nat_cmp_total}
use Rattle.std.specs.Cmp.Lexicographic.{nat_list_cmp_total}
use Rattle.std.specs.FinMap as finite
use Rattle.std.proofs.lemmas.Bool.{false≢true, and_parts}
use Rattle.paths.specs.Names.{is_plain_name}
use Rattle.paths.specs.Root.{permanent, user, profile, runtime, temporary, Root, permanent_label, user_label}
use Rattle.paths.specs.Root.{generation_label, temporary_label, is_session}
use Rattle.model.specs.World.{Pair, Temporary, World, permanent_root, user_root, generation_root, temporary_root}
use Rattle.model.specs.World.{roots_of}
use Rattle.model.specs.Sound.{IsSound}
use Rattle.model.specs.Request.{drop_user_root, set_user_root, end_session}
use Rattle.model.specs.Reply.{Answer, generation}
use Rattle.model.specs.declared.refusal.Refusal.TheVariants.{BadRootName, BadSession}
use Rattle.model.specs.Tests.{tests}
use Rattle.laws.specs.RootChanges.{ReplacesRuntime, KeepsAllButTemporary, AddsTemporary, Ends}
use Rattle.laws.specs.Relisted.{CoexistedWith, IsGiven, IsKeptByAnother, DropsAreListed, SetsAreListed}
use Rattle.model.proofs.MapMembers.{bytes_antisymmetric, nat_antisymmetric, temporary_total, temporary_antisymmetric}
use Rattle.model.proofs.EveryRoot.{each_root}
use Rattle.laws.proofs.LabelsDiffer.{same_session}
use Rattle.laws.proofs.RootsByTable.{same_or_not, AgreeBut, turned, moved, of_kind, next_to, runtimes, temporaries}
use Rattle.laws.proofs.RootChanges.{sets_permanent, drops_permanent, sets_user_roots, drops_user_roots, replaces}
use Rattle.laws.proofs.RootChanges.{adds_for_sessions, ends_sessions}
use Rattle.laws.proofs.ProfileChanges.{sets, rolls_back, switches, deletes_generations}
use Rattle.laws.proofs.Relisted.{relisted, permanent_removed, permanent_present, user_removed, user_present}
use Rattle.laws.proofs.RelistedProfiles.{generation_present, generations_stay, generation_absent}
use Rattle.model.proofs.Passed.{met, each_passed}

-- ---- runtime roots

module _ (w new : World) (pairs : List Pair) (a : Answer) (k : ReplacesRuntime w pairs a new) where
  agree : AgreeBut runtime new w
  agree = record {
    permanent_ = λ _. k.permanent;
    user_ = λ _. k.user_roots;
    generation_ = λ _. k.profiles;
    runtime_ = λ apart. absurd (apart refl);
    temporary_ = λ _. k.temporary;
  }

  runtime_now : (r : Root) → Contains (roots_of new) r
      ↔ (IsGiven w pairs r ⊎ (Contains (roots_of w) r × (r.kind ≡ runtime → ⊥)))
  runtime_now r = (
    λ c. of_kind runtime (λ x. IsGiven w pairs x ⊎ (Contains (roots_of w) x × (x.kind ≡ runtime → ⊥))) r
        (λ is. runtimes new (λ x. IsGiven w pairs x ⊎ (Contains (roots_of w) x × (x.kind ≡ runtime → ⊥)))
        (λ pair h. let both = (k.roots pair).0 h in
        inl (record { pair = pair; listed = both.0; valid = both.1; is = refl })) r c is)
        (λ apart. inr (moved runtime new w agree r apart c, apart)),
    λ h. elim h as (λ _. Contains (roots_of new) r) [
      | inl g ↦ subst (Contains (roots_of new)) (sym g.is)
          ((each_root new).runtime g.pair ((k.roots g.pair).1 (g.listed, g.valid)))
      | inr s ↦ moved runtime w new (turned runtime new w agree) r s.1 s.0
    ],
  )

-- ---- what sessions keep

but_temporary : (w new : World) → KeepsAllButTemporary w new → AgreeBut temporary new w
but_temporary w new k = record {
  permanent_ = λ _. k.permanent;
  user_ = λ _. k.user_roots;
  generation_ = λ _. k.profiles;
  runtime_ = λ _. k.runtime;
  temporary_ = λ apart. absurd (apart refl);
}

module _ (w new : World) (added : Temporary) (k : AddsTemporary w added new) where
  added_now : (r : Root) → Contains (roots_of new) r ↔ ((r ≡ temporary_root added) ⊎ Contains (roots_of w) r)
  added_now r = (
    λ c. of_kind temporary (λ x. (x ≡ temporary_root added) ⊎ Contains (roots_of w) x) r
        (λ is. temporaries new (λ x. (x ≡ temporary_root added) ⊎ Contains (roots_of w) x)
        (λ t h. forth t h (same_or_not temporary_total temporary_antisymmetric t added)) r c is)
        (λ apart. inr (moved temporary new w (but_temporary w new k.rest) r apart c)),
    λ h. elim h as (λ _. Contains (roots_of new) r) [
      | inl is ↦ subst (Contains (roots_of new)) (sym is) ((each_root new).temporary added k.present)
      | inr c ↦ of_kind temporary (Contains (roots_of new)) r
          (λ is. temporaries w (Contains (roots_of new))
          (λ t h. back t h (same_or_not temporary_total temporary_antisymmetric t added)) r c is)
          (λ apart. moved temporary w new (turned temporary new w (but_temporary w new k.rest)) r apart c)
    ],
  )
    where
      forth : (t : Temporary) → IsTrue (finite.contains_key new.temporary t) → (t ≡ added) ⊎ (t ≡ added → ⊥)
          → (temporary_root t ≡ temporary_root added) ⊎ Contains (roots_of w) (temporary_root t)
      forth t h (inl same) = inl (ap temporary_root same)
      forth t h (inr apart) = inr ((each_root w).temporary t (sym (k.others t apart) ∙ h))

      back : (t : Temporary) → IsTrue (finite.contains_key w.temporary t) → (t ≡ added) ⊎ (t ≡ added → ⊥)
          → Contains (roots_of new) (temporary_root t)
      back t h (inl same) = (each_root new).temporary t (ap (finite.contains_key new.temporary) same ∙ k.present)
      back t h (inr apart) = (each_root new).temporary t (k.others t apart ∙ h)

in_bounds : (n : ℕ) → IsTrue (is_session n) → n < 2 ^ 64
in_bounds n h = let most = leb-true n 4194304 (and_parts (nat_le 1 n) (nat_le n 4194304) h).1 in omega (arith, most)

module _ (dir : List ℕ) (w new : World) (sound : IsSound dir w) (owner : List ℕ) (session : ℕ)
    (bounds : IsTrue (is_session session)) (a : Answer) (k : Ends w owner session a new) where
  Stays : Root → Type 0
  Stays r = IsKeptByAnother w owner session r ⊎ CoexistedWith w temporary (temporary_label session) r

  forth : (t : Temporary) → IsTrue (finite.contains_key new.temporary t) → Stays (temporary_root t)
  unfolding Stays
  forth t h =
      by (same_or_not nat_list_cmp_total bytes_antisymmetric t.owner owner)
      (same_or_not nat_cmp_total nat_antisymmetric t.session session)
    where
      existed : ((t.owner ≡ owner) × (t.session ≡ session) → ⊥) → IsTrue (finite.contains_key w.temporary t)
      existed apart = sym (k.others t apart) ∙ h

      by : (t.owner ≡ owner) ⊎ (t.owner ≡ owner → ⊥) → (t.session ≡ session) ⊎ (t.session ≡ session → ⊥)
          → Stays (temporary_root t)
      by (inl o) (inl n) = absurd (false≢true (sym (k.deleted t o n) ∙ h))
      by (inr o) (inl n) = inl (record {
        foreign_owner = t.owner;
        other = o;
        keeps =
            ap (λ (m : ℕ). finite.contains_key w.temporary (record { owner = t.owner; session = m; path = t.path }))
            (sym n) ∙ existed (λ both. o both.0);
        is = ap (λ (m : ℕ). temporary_root (record { owner = t.owner; session = m; path = t.path })) n;
      })
      by o (inr n) =
          let was = existed (λ both. n both.1) in
          inr (record {
            existed = (each_root w).temporary t was;
            other =
                λ _ l. n (same_session t.session session (in_bounds t.session (sound.temporary_session t was))
                (in_bounds session bounds) l);
          })

  back : (t : Temporary) → IsTrue (finite.contains_key w.temporary t)
      → (temporary_label t.session ≡ temporary_label session → ⊥) → Contains (roots_of new) (temporary_root t)
  back t h other = (each_root new).temporary t (k.others t (λ both. other (ap temporary_label both.1)) ∙ h)

  ended_now : (r : Root) → Contains (roots_of new) r ↔ Stays r
  unfolding Stays
  ended_now r = (
    λ c. of_kind temporary Stays r (λ is. temporaries new Stays forth r c is)
        (λ apart. inr (next_to w temporary (temporary_label session) r
        (moved temporary new w (but_temporary w new k.rest) r apart c) apart)),
    λ h. elim h as (λ _. Contains (roots_of new) r) [
      | inl s ↦ subst (Contains (roots_of new)) (sym s.is)
          ((each_root new).temporary (record { owner = s.foreign_owner; session = session; path = r.target })
          (k.others _ (λ both. s.other both.0) ∙ s.keeps))
      | inr s ↦ of_kind temporary (Contains (roots_of new)) r
          (λ is. temporaries w (λ x. (x.label ≡ temporary_label session → ⊥) → Contains (roots_of new) x) back r
          s.existed is (s.other is))
          (λ apart. moved temporary w new (turned temporary new w (but_temporary w new k.rest)) r apart s.existed)
    ],
  )

-- ---- what is reported

number_in : Answer → ℕ
number_in (generation n) = n
number_in _ = 0

pub drops_are_reported : DropsAreListed
unfolding Stays
drops_are_reported s w c mid next sound = record {
  permanent_ = λ name a h. let x =
      drops_permanent s w c name a mid h in
      relisted s mid next (CoexistedWith w permanent (permanent_label name)) (permanent_removed w mid name x.3 x.2);
  user_ = λ owner name a h.
      let x = drops_user_roots s w c owner name a mid h in
      let plain =
      and_parts (is_plain_name owner) (is_plain_name name)
      (met (is_plain_name owner && is_plain_name name) BadRootName
      (each_passed (tests s w (drop_user_root owner name)) h.1 _ (0, omega arith, refl))) in
      relisted s mid next (CoexistedWith w user (user_label owner name))
      (user_removed s.store_dir w mid sound owner name plain.0 x.3 x.2);
  generation_ =
      λ owner name n a h. relisted s mid next (CoexistedWith w profile (generation_label owner name n))
      (generation_absent s.store_dir w mid sound owner name n (deletes_generations s w c owner name n a mid h).1);
  runtime_ =
      λ pairs a h. relisted s mid next (λ r. IsGiven w pairs r ⊎ (Contains (roots_of w) r × (r.kind ≡ runtime → ⊥)))
      (runtime_now w mid pairs a (replaces s w c pairs a mid h));
  session_ = λ owner session a h.
      relisted s mid next (λ r. IsKeptByAnother w owner session r
      ⊎ CoexistedWith w temporary (temporary_label session) r)
      (ended_now s.store_dir w mid sound owner session
      (met (is_session session) BadSession
      (each_passed (tests s w (end_session owner session)) h.1 _ (1, omega arith, refl))) a
      (ends_sessions s w c owner session a mid h));
}

pub sets_are_reported : SetsAreListed
unfolding number_in
sets_are_reported s w c mid next sound = record {
  permanent_ = λ name p a h. let x =
      sets_permanent s w c name p a mid h in
      relisted s mid next (λ r. (r ≡ permanent_root (name, p)) ⊎ CoexistedWith w permanent (permanent_label name) r)
      (permanent_present w mid name x.2 p x.1);
  user_ = λ owner name p a h.
      let x = sets_user_roots s w c owner name p a mid h in
      let plain =
      and_parts (is_plain_name owner) (is_plain_name name)
      (met (is_plain_name owner && is_plain_name name) BadRootName
      (each_passed (tests s w (set_user_root owner name p)) h.1 _ (0, omega arith, refl))) in
      relisted s mid next (λ r. (r ≡ user_root ((owner, name), p)) ⊎ CoexistedWith w user (user_label owner name) r)
      (user_present s.store_dir w mid sound owner name plain.0 x.2 p x.1);
  generation_ = λ owner name p n h.
      let x = sets s w c owner name p (generation n) mid h in
      relisted s mid next (λ r. (r ≡ generation_root (owner, name) (n, p)) ⊎ Contains (roots_of w) r)
      (subst (λ (m : ℕ). (r : Root)
      → Contains (roots_of mid) r ↔ ((r ≡ generation_root (owner, name) (m, p)) ⊎ Contains (roots_of w) r))
      (sym (ap number_in x.reported)) (generation_present w mid (owner, name) p (generation n) x));
  back = λ owner name a h. let x =
      rolls_back s w c owner name a mid h in
      relisted s mid next (Contains (roots_of w)) (generations_stay w mid (owner, name) x.number x.moves);
  switch_ =
      λ owner name n a h. relisted s mid next (Contains (roots_of w))
      (generations_stay w mid (owner, name) n (switches s w c owner name n a mid h).1);
  session_ =
      λ owner session p a h. relisted s mid next
      (λ r. (r ≡ temporary_root (record { owner = owner; session = session; path = p })) ⊎ Contains (roots_of w) r)
      (added_now w mid (record { owner = owner; session = session; path = p })
      (adds_for_sessions s w c owner session p a mid h).1);
}
