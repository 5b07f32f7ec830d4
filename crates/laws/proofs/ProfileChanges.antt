-- What requests that are done make of a profile.
use Rattle.std.proofs.Common.{◌≡◌, ℕ, ◌+◌, Bool, true, false, not, Some, None, Option, refl, sym, ap, arith, ◌∙◌}
use Rattle.std.proofs.Common.{IsTrue, subst}
use Rattle.std.specs.Prelude.{◌==◌, is_some, if◌then◌else◌, unwrap_or}
use Rattle.std.specs.Cmp.{nat_cmp_total}
use Rattle.std.specs.FinMap as finite
use Rattle.std.proofs.lemmas.Bool.{false≢true, not-true}
use Rattle.std.proofs.Math.Dec.{eqb_refl}
use Rattle.model.specs.World.{Path, Pair, Profile, World}
use Rattle.model.specs.Request.{rollback, switch, delete_generation}
use Rattle.model.specs.Reply.{generation}
use Rattle.model.specs.Profiles.{profile_or_new, profile_at, has_profile, has_generation, highest, is_highest}
use Rattle.model.specs.Profiles.{number_for, previous, set_to, rolled_back, switched, without_generation}
use Rattle.model.specs.Tests.{tests}
use Rattle.model.specs.Effects.{with_profile}
use Rattle.laws.specs.Generations.{ChangesProfile, SetsProfile, SetsAsSpecified, MovesTo, RollsBack}
use Rattle.laws.specs.Generations.{RollsBackAsSpecified, SwitchesAsSpecified, LosesGeneration, DeletesGenerations}
use Rattle.model.proofs.MapMembers.{nat_antisymmetric, pair_total, pair_antisymmetric}
use Rattle.laws.proofs.Changed.{at_inserted, next_to_inserted, at_removed, next_to_removed}
use Rattle.model.proofs.Passed.{met, each_passed}
use Rattle.laws.proofs.Numbers.{highest_path, chosen, before}
use lib.Dec.{T}

change : (w : World) (owned : Pair) (now : Profile) → ChangesProfile w (with_profile w owned now) owned now
change w owned now = record {
  exists = at_inserted pair_total pair_antisymmetric w.profiles owned now;
  others = λ other apart. next_to_inserted pair_total pair_antisymmetric w.profiles owned now other apart;
  objects = refl;
  permanent = refl;
  user_roots = refl;
  runtime = refl;
  temporary = refl;
}

existed : (o : Option Profile) → IsTrue (is_some o) → o ≡ Some (profile_or_new o)
existed None h = absurd (false≢true h)
existed (Some p) h = refl

-- ---- a path is set

record IsSet (p : Profile) (t : Path) (n : ℕ) (now : Profile) : Type 0 where
  current : now.current ≡ n
  target : finite.get now.generations n ≡ Some t
  others : (m : ℕ) → (m ≡ n → ⊥) → finite.get now.generations m ≡ finite.get p.generations m

is_set : (p : Profile) (t : Path) → IsSet p t (number_for p t) (set_to p t)
is_set p t = by (is_highest p t) refl
  where
    by : (b : Bool) → is_highest p t ≡ b → IsSet p t (if b then highest p else highest p + 1) (if b
        then switched p (highest p)
        else record { generations = finite.insert p.generations (highest p + 1) t; current = highest p + 1 })
    by true e = record { current = refl; target = highest_path p t e; others = λ m apart. refl }
    by false e = record {
      current = refl;
      target = at_inserted nat_cmp_total nat_antisymmetric p.generations (highest p + 1) t;
      others = λ m apart. next_to_inserted nat_cmp_total nat_antisymmetric p.generations (highest p + 1) t m apart;
    }

pub sets : SetsAsSpecified
sets s w c owner name t a new h =
    let p = profile_at w (owner, name) in
    let is = is_set p t in
    subst (λ (u : World). SetsProfile w (owner, name) t a u) (sym h.3) (record {
      number = number_for p t;
      reported = h.2;
      chosen = chosen p t;
      now = set_to p t;
      change = change w (owner, name) (set_to p t);
      current = is.current;
      target = is.target;
      others = is.others;
    })

-- ---- another generation becomes the current one

moves : (w : World) (owned : Pair) (n : ℕ) → IsTrue (has_profile w owned)
    → IsTrue (has_generation (profile_at w owned) n)
    → MovesTo w owned n (with_profile w owned (switched (profile_at w owned) n))
moves w owned n h present = record {
  was = profile_at w owned;
  existed = existed (finite.get w.profiles owned) h;
  present = present;
  now = switched (profile_at w owned) n;
  change = change w owned (switched (profile_at w owned) n);
  current = refl;
  generations = refl;
}

leads_back : (w : World) (owned : Pair) (o : Option ℕ) → previous (profile_at w owned) ≡ o
    → IsTrue (has_profile w owned) → IsTrue (is_some o)
    → RollsBack w owned (generation (unwrap_or o (profile_at w owned).current))
    (with_profile w owned (switched (profile_at w owned) (unwrap_or o (profile_at w owned).current)))
unfolding moves
leads_back w owned None e h some = absurd (false≢true some)
leads_back w owned (Some n) e h some =
    let is = before (profile_at w owned) n e in
    record { number = n; reported = refl; moves = moves w owned n h is.present; chosen = is }

pub rolls_back : RollsBackAsSpecified
rolls_back s w c owner name a new h =
    subst (λ (u : World). RollsBack w (owner, name) a u) (sym h.3)
    (subst (λ x. RollsBack w (owner, name) x
    (with_profile w (owner, name) (rolled_back (profile_at w (owner, name))))) (sym h.2)
    (leads_back w (owner, name) (previous (profile_at w (owner, name))) refl
    (met (has_profile w (owner, name)) _ (each_passed (tests s w (rollback owner name)) h.1 _ (1, omega arith, refl)))
    (met (is_some (previous (profile_at w (owner, name)))) _
    (each_passed (tests s w (rollback owner name)) h.1 _ (2, omega arith, refl)))))

pub switches : SwitchesAsSpecified
switches s w c owner name n a new h = (
  h.2,
  subst (λ (u : World). MovesTo w (owner, name) n u) (sym h.3) (moves w (owner, name) n
      (met (has_profile w (owner, name)) _ (each_passed (tests s w (switch owner name n)) h.1 _ (1, omega arith, refl)))
      (met (has_generation (profile_at w (owner, name)) n) _
      (each_passed (tests s w (switch owner name n)) h.1 _ (2, omega arith, refl)))),
)

-- ---- a generation is deleted

differs : (k n : ℕ) → IsTrue (not (k == n)) → k ≡ n → ⊥
differs k n h e = false≢true (sym (not-true (k == n) h) ∙ (ap (λ (x : ℕ). x == n) e ∙ true_of (n == n) (eqb_refl n)))
  where
    true_of : (b : Bool) → T b → b ≡ true
    true_of true h = refl
    true_of false h = absurd h

pub deletes_generations : DeletesGenerations
deletes_generations s w c owner name n a new h = (
  h.2,
  subst (λ (u : World). LosesGeneration w (owner, name) n u) (sym h.3) (record {
    was = profile_at w (owner, name);
    existed =
        existed (finite.get w.profiles (owner, name))
        (met (has_profile w (owner, name)) _
        (each_passed (tests s w (delete_generation owner name n)) h.1 _ (1, omega arith, refl)));
    present =
        met (has_generation (profile_at w (owner, name)) n) _
        (each_passed (tests s w (delete_generation owner name n)) h.1 _ (2, omega arith, refl));
    not_current =
        differs (profile_at w (owner, name)).current n
        (met (not ((profile_at w (owner, name)).current == n)) _
        (each_passed (tests s w (delete_generation owner name n)) h.1 _ (3, omega arith, refl)));
    now = without_generation (profile_at w (owner, name)) n;
    change = change w (owner, name) (without_generation (profile_at w (owner, name)) n);
    deleted = at_removed nat_cmp_total nat_antisymmetric (profile_at w (owner, name)).generations n;
    others =
        λ m apart. next_to_removed nat_cmp_total nat_antisymmetric (profile_at w (owner, name)).generations n m apart;
    current = refl;
  }),
)
