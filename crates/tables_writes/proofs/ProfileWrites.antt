-- What a write of one profile makes of the world.
use Rattle.std.proofs.Common.{◌≡◌, ℕ, false, List, Bool, true, ◌&&◌, not, cond, Some, None, Option, option_map, is_some}
use Rattle.std.proofs.Common.{refl, sym, ap, ap₂, ◌∙◌, IsTrue}
use Rattle.std.specs.Prelude.{ℤ, pos}
use Rattle.std.specs.declared.cmp.Ordering.{Ordering}
use Rattle.std.specs.declared.cmp.Ordering.TheVariants.{Less, Equal, Greater}
use Rattle.std.specs.Ordering.{eq_by_cmp, int_cmp, nat_cmp, is_eq, ordering_then}
use Rattle.std.specs.Cmp.{eq_by_cmp_equiv, nat_cmp_total, int_cmp_total}
use Rattle.std.specs.FinMap as finite
use Rattle.std.proofs.lemmas.Bool.{false≢true}
use Rattle.sqlite_trees.specs.declared.store.Store.{Ghosts}
use Rattle.sqlite.specs.State.{HasCleanDisk}
use Rattle.sqlite.specs.Held.{state}
use Rattle.tables_sql.specs.Contents.{Contents, Triple, contents_of}
use Rattle.tables_sql.proofs.Orders.{triple_total, triple_antisymmetric}
use Rattle.paths.specs.Root.{bytes_cmp}
use Rattle.model.specs.World.{Path, Pair, pair_cmp, Profile}
use Rattle.model.specs.Profiles.{profile_or_new, profile_at, switched, without_generation}
use Rattle.tables_world.specs.Rows.{profile_in, number_in}
use Rattle.tables_world.specs.Worlds.{IsSoundContents, rows_of, world_in}
use Rattle.tables_world.proofs.Columns.{generation_at}
use Rattle.tables_world.proofs.Columns as columns
use Rattle.tables_outline.specs.Outline.{OutlineValue, with_profile, profile_of}
use Rattle.tables_outline.proofs.Orders.{pair_total, pair_antisymmetric}
use Rattle.tables_outline.proofs.Puts.{tied_is, get-kept}
use Rattle.tables_writes.specs.Entries.{with_profile_by}
use Rattle.tables_writes.specs.Writes.{StaysSound}
use Rattle.tables_writes.specs.TablesValue.{TablesValue, Agrees}
use Rattle.tables_writes.proofs.AfterWrites.{Follows, IsWrite}
use Rattle.tables_writes.proofs.ProfileRows.{profile_follows}

-- a profile is changed
module _ (owned : Pair) (next : Profile → Profile) where
  abbrev pub outline_next : OutlineValue → OutlineValue
  outline_next o = with_profile o owned (next (profile_of o owned))

  pub profile_write : (f : Contents → Contents) {S : Type 0} (g : Ghosts S) (k now : TablesValue S) → k ≡ now
      → Agrees g k → StaysSound g now (with_profile_by owned next)
      → (HasCleanDisk (state g k.connection) → IsTrue (state g k.connection).is_open
      → Follows k.dir f (with_profile_by owned next) (contents_of (state g k.connection).now))
      → IsWrite g k now f (with_profile_by owned next) outline_next
  profile_write f g k now view agrees sound follows =
      record { view = view; law = λ w. refl; follows = follows; agrees = agrees; sound = sound }

-- ---- the rows of the profile

none_of : {X : Type 0} (o : Option X) → (IsTrue (is_some o) → ⊥) → o ≡ None
none_of None h = refl
none_of (Some x) h = absurd (h refl)

pub both_tied : (r s : Ordering) → is_eq (ordering_then r s) ≡ (is_eq r && is_eq s)
both_tied Less s = refl
both_tied Equal s = refl
both_tied Greater s = refl

same_tests : (a b : Bool) → (IsTrue a → IsTrue b) → (IsTrue b → IsTrue a) → a ≡ b
same_tests true b f g = sym (f refl)
same_tests false true f g = g refl
same_tests false false f g = refl

-- numbers that aren't negative tie as their values do
pub numbers_tie : (n m : ℕ) → eq_by_cmp int_cmp (pos n) (pos m) ≡ eq_by_cmp nat_cmp n m
numbers_tie n m = same_tests (eq_by_cmp int_cmp (pos n) (pos m)) (eq_by_cmp nat_cmp n m)
    (λ h. ap (λ (z : ℤ). eq_by_cmp nat_cmp n (number_in z))
    (sym (tied_is finite.int_cmp-IsAntisymmetric (pos n) (pos m) h)) ∙ (eq_by_cmp_equiv nat_cmp_total).refl n)
    (λ h. ap (λ (k : ℕ). eq_by_cmp int_cmp (pos n) (pos k)) (sym (tied_is finite.nat_cmp-IsAntisymmetric n m h))
    ∙ (eq_by_cmp_equiv int_cmp_total).refl (pos n))

module _ (dir : List ℕ) (c : Contents) (rows : IsSoundContents dir c) (owned : Pair) where
  abbrev pub here : Profile
  here = profile_at (world_in c) owned

  -- the generations told of it are its rows, of which there are none where it isn't there
  pub reported_generation : (n : ℕ) → finite.get here.generations n ≡ finite.get c.generations (owned.0, owned.1, pos n)
  reported_generation n =
      ap (λ (o : Option Profile). finite.get (profile_or_new o).generations n) (columns.profile_at (rows_of c) owned)
      ∙ by (finite.get c.profiles owned) refl
    where
      by : (o : Option ℤ) → finite.get c.profiles owned ≡ o
          → finite.get (profile_or_new (option_map (profile_in (rows_of c) owned) o)).generations n
          ≡ finite.get c.generations (owned.0, owned.1, pos n)
      by None e =
          finite.get-empty nat_cmp n ∙ sym
          (none_of (finite.get c.generations (owned.0, owned.1, pos n))
          (λ present. false≢true (ap is_some (sym e) ∙ rows.generations owned.0 owned.1 (pos n) present)))
      by (Some z) e = generation_at (rows_of c) rows.numbers owned.0 owned.1 n

  -- at each key the rows of generations are those of this profile, or of another
  of_either : (q : Pair) (n : ℕ)
      → finite.get c.generations (q.0, q.1, pos n)
      ≡ cond (eq_by_cmp pair_cmp q owned) (finite.get here.generations n) (finite.get c.generations (q.0, q.1, pos n))
  of_either q n = by (eq_by_cmp pair_cmp q owned) refl
    where
      by : (b : Bool) → eq_by_cmp pair_cmp q owned ≡ b
          → finite.get c.generations (q.0, q.1, pos n)
          ≡ cond b (finite.get here.generations n) (finite.get c.generations (q.0, q.1, pos n))
      by true t =
          ap (λ (j : Pair). finite.get c.generations (j.0, j.1, pos n)) (tied_is pair_antisymmetric q owned t)
          ∙ sym (reported_generation n)
      by false t = refl

  -- a number becomes current
  pub switch_follows : (n : ℕ) → Follows dir (λ x. record x { profiles = finite.insert x.profiles owned (pos n) })
      (with_profile_by owned (λ p. switched p n)) c
  switch_follows n =
      let it =
      profile_follows dir c rows (finite.insert c.profiles owned (pos n)) c.generations owned (switched here n)
      (record {
        profile = finite.get-insert pair_total c.profiles owned (pos n);
        generation = of_either;
        numbers = rows.numbers;
      }) (with_profile_by owned (λ p. switched p n)) refl in
      record { world = it.world; sound = it.sound }

  -- ---- a generation is deleted

  -- the row of a profile that is there has its current number
  current_row : IsTrue (finite.contains_key (world_in c).profiles owned)
      → finite.get c.profiles owned ≡ Some (pos here.current)
  current_row present = by (finite.get c.profiles owned) refl
    where
      reported : (o : Option ℤ) → finite.get c.profiles owned ≡ o
          → finite.get (world_in c).profiles owned ≡ option_map (profile_in (rows_of c) owned) o
      reported o e = columns.profile_at (rows_of c) owned ∙ ap (option_map (profile_in (rows_of c) owned)) e

      by : (o : Option ℤ) → finite.get c.profiles owned ≡ o → o ≡ Some (pos here.current)
      by None e = absurd (false≢true (sym (ap is_some (reported None e)) ∙ present))
      by (Some z) e =
          let m = rows.current owned z e in
          ap Some (m.1 ∙ ap (λ (y : ℤ). pos (number_in y)) (sym m.1))
          ∙ ap (λ (o : Option Profile). Some (pos (profile_or_new o).current)) (sym (reported (Some z) e))

  abbrev gone : ℕ → Triple → Bool
  gone n k = eq_by_cmp bytes_cmp k.0 owned.0 && (eq_by_cmp bytes_cmp k.1 owned.1 && eq_by_cmp int_cmp k.2 (pos n))

  left_of : (n : ℕ) (k : Triple)
      → finite.get (finite.retain_keys c.generations (λ j. not (gone n j))) k
      ≡ cond (not (gone n k)) (finite.get c.generations k) None
  left_of n k = get-kept triple_total triple_antisymmetric c.generations (λ j. not (gone n j)) k

  still : (b : Bool) (g : Option Path) → is_some (cond b g None) ≡ true → is_some g ≡ true
  still true g h = h
  still false g h = absurd (false≢true h)

  pub drop_follows : (n : ℕ) → IsTrue (finite.contains_key (world_in c).profiles owned)
      → Follows dir (λ x. record x {
        generations =
            finite.retain_keys x.generations
            (λ k. not (eq_by_cmp bytes_cmp k.0 owned.0
            && (eq_by_cmp bytes_cmp k.1 owned.1 && eq_by_cmp int_cmp k.2 (pos n))));
      })
      (with_profile_by owned (λ p. without_generation p n)) c
  drop_follows n present =
      let it =
      profile_follows dir c rows c.profiles (finite.retain_keys c.generations (λ k. not (gone n k))) owned
      (without_generation here n) (record {
        profile = λ q. same_row q (eq_by_cmp pair_cmp q owned) refl;
        generation = λ q m. left_of n (q.0, q.1, pos m)
            ∙ each q m (eq_by_cmp pair_cmp q owned) refl;
        numbers =
            λ owner name z h. rows.numbers owner name z
            (still (not (gone n (owner, name, z))) (finite.get c.generations (owner, name, z))
            (ap is_some (sym (left_of n (owner, name, z))) ∙ h));
      }) (with_profile_by owned (λ p. without_generation p n)) refl in
      record { world = it.world; sound = it.sound }
    where
      same_row : (q : Pair) (b : Bool) → eq_by_cmp pair_cmp q owned ≡ b
          → finite.get c.profiles q ≡ cond b (Some (pos here.current)) (finite.get c.profiles q)
      same_row q true t = ap (finite.get c.profiles) (tied_is pair_antisymmetric q owned t) ∙ current_row present
      same_row q false t = refl

      turn : (b : Bool) (g : Option Path) → cond (not b) g None ≡ cond b None g
      turn true g = refl
      turn false g = refl

      -- in its first two columns it is this profile's, or it stays
      by_parts : (a b d : Bool) (r : Bool) (g : Option Path) → (a && b) ≡ r
          → cond (not (a && (b && d))) g None ≡ cond r (cond d None g) g
      by_parts true true d true g e = turn d g
      by_parts true true d false g e = absurd (false≢true (sym e))
      by_parts true false d true g e = absurd (false≢true e)
      by_parts true false d false g e = refl
      by_parts false b d true g e = absurd (false≢true e)
      by_parts false b d false g e = refl

      each : (q : Pair) (m : ℕ) (b : Bool) → eq_by_cmp pair_cmp q owned ≡ b
          → cond (not (gone n (q.0, q.1, pos m))) (finite.get c.generations (q.0, q.1, pos m)) None
          ≡ cond b (finite.get (without_generation here n).generations m)
          (finite.get c.generations (q.0, q.1, pos m))
      each q m b t =
          by_parts (eq_by_cmp bytes_cmp q.0 owned.0) (eq_by_cmp bytes_cmp q.1 owned.1)
          (eq_by_cmp int_cmp (pos m) (pos n)) b (finite.get c.generations (q.0, q.1, pos m))
          (sym (both_tied (bytes_cmp q.0 owned.0) (bytes_cmp q.1 owned.1)) ∙ t)
          ∙ own b t
        where
          own : (b : Bool) → eq_by_cmp pair_cmp q owned ≡ b
              → cond b (cond (eq_by_cmp int_cmp (pos m) (pos n)) None (finite.get c.generations (q.0, q.1, pos m)))
              (finite.get c.generations (q.0, q.1, pos m))
              ≡ cond b (finite.get (without_generation here n).generations m)
              (finite.get c.generations (q.0, q.1, pos m))
          own false t = refl
          own true t =
              ap₂ (λ d g. cond d None g) (numbers_tie m n)
              (ap (λ (j : Pair). finite.get c.generations (j.0, j.1, pos m)) (tied_is pair_antisymmetric q owned t)
              ∙ sym (reported_generation m))
              ∙ sym (finite.get-remove nat_cmp_total here.generations n m)
