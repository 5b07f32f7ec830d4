-- A generation that is put in a profile, new or not, and taken back.
use Rattle.std.proofs.Common.{◌≡◌, ℕ, List, Bool, true, false, not, ◌&&◌, cond, Some, None, Option, option_map, is_some}
use Rattle.std.proofs.Common.{Result, Ok, Err, refl, sym, ap, ap₂, subst, ◌∙◌, IsTrue}
use Rattle.std.specs.Prelude.{ℤ, pos}
use Rattle.std.specs.Ordering.{eq_by_cmp, int_cmp, nat_cmp, ordering_then}
use Rattle.std.specs.Cmp.{eq_by_cmp_equiv, nat_cmp_total}
use Rattle.std.specs.FinMap as finite
use Rattle.sqlite_trees.specs.declared.store.Store.{Ghosts}
use Rattle.sqlite.specs.State.{HasCleanDisk}
use Rattle.sqlite.specs.Held.{Held, state}
use Rattle.tables_sql.specs.Contents.{Contents, Triple, triple_cmp}
use Rattle.tables_sql.specs.declared.failure.Failed.{Failed}
use Rattle.tables_sql.proofs.Orders.{triple_total, triple_antisymmetric}
use Rattle.paths.specs.Root.{bytes_cmp}
use Rattle.model.specs.World.{Path, Pair, pair_cmp, Profile}
use Rattle.model.specs.Profiles.{profile_or_new, put_at, switched, without_generation}
use Rattle.tables_world.specs.Worlds.{IsSoundContents}
use Rattle.tables_outline.specs.Outline.{OutlineValue, with_profile, profile_of, current_of, without_added}
use Rattle.tables_outline.proofs.Orders.{nat_antisymmetric, pair_total, pair_antisymmetric}
use Rattle.tables_outline.proofs.Puts.{tied_is, unput_put, has_put}
use Rattle.tables_rows.specs.Reasons.{IsReason}
use Rattle.tables_writes.specs.Writes.{StaysSound, CommitsRows, ChangesTables}
use Rattle.tables_writes.specs.Rewritten.{put_generation}
use Rattle.tables_writes.specs.RowsPut.{GenerationRows}
use Rattle.tables_writes.specs.TablesValue.{TablesValue, Agrees}
use Rattle.tables_writes.proofs.AfterWrites.{Follows, IsWrite, write_agrees, write_commits, write_fails, failure_agrees}
use Rattle.tables_writes.proofs.AfterWrites.{failure_seen, rows_as}
use Rattle.tables_writes.proofs.ProfileRows.{profile_follows}
use Rattle.tables_writes.specs.Entries.{with_profile_by}
use Rattle.tables_writes.proofs.ProfileWrites.{both_tied, numbers_tie, here, outline_next, profile_write}
use Rattle.tables_writes.proofs.ProfileWrites.{reported_generation}

-- ---- the rows of the profile

triple_tied : (k j : Triple) → eq_by_cmp triple_cmp k j
    ≡ (eq_by_cmp bytes_cmp k.0 j.0 && (eq_by_cmp bytes_cmp k.1 j.1 && eq_by_cmp int_cmp k.2 j.2))
triple_tied k j =
    both_tied (bytes_cmp k.0 j.0) (ordering_then (bytes_cmp k.1 j.1) (int_cmp k.2 j.2))
    ∙ ap (λ b. eq_by_cmp bytes_cmp k.0 j.0 && b) (both_tied (bytes_cmp k.1 j.1) (int_cmp k.2 j.2))

-- an entry of two texts and a number is taken away by a test of each
pub without_triple : {X : Type 0} (m : finite.FinMap triple_cmp X) (owner name : List ℕ) (n : ℤ)
    → finite.retain_keys m (λ k. not
    (eq_by_cmp bytes_cmp k.0 owner && (eq_by_cmp bytes_cmp k.1 name && eq_by_cmp int_cmp k.2 n)))
    ≡ finite.retain_keys m (λ k. not (eq_by_cmp triple_cmp k (owner, name, n)))
without_triple m owner name n = λ i. finite.retain_keys m (λ k. not (sym (triple_tied k (owner, name, n)) i))

-- in its first two columns it is this profile's, or it stays
by_parts : (t : Path) (a b d r : Bool) (g : Option Path) → (a && b) ≡ r
    → cond (a && (b && d)) (Some t) g ≡ cond r (cond d (Some t) g) g
by_parts t true b d r g e = first b r e
  where
    first : (b r : Bool) → b ≡ r → cond (b && d) (Some t) g ≡ cond r (cond d (Some t) g) g
    first true r e = ap (λ x. cond x (cond d (Some t) g) g) e
    first false r e = ap (λ x. cond x (cond d (Some t) g) g) e
by_parts t false b d r g e = ap (λ x. cond x (cond d (Some t) g) g) e

module _ (dir : List ℕ) (c : Contents) (rows : IsSoundContents dir c) (owned : Pair) (n : ℕ) (t : Path) where
  abbrev key : Triple
  key = (owned.0, owned.1, pos n)

  own : (q : Pair) (m : ℕ) (b : Bool) → eq_by_cmp pair_cmp q owned ≡ b
      → cond b (cond (eq_by_cmp int_cmp (pos m) (pos n)) (Some t) (finite.get c.generations (q.0, q.1, pos m)))
      (finite.get c.generations (q.0, q.1, pos m))
      ≡ cond b (finite.get (put_at (here dir c rows owned) n t).generations m)
      (finite.get c.generations (q.0, q.1, pos m))
  own q m false e = refl
  own q m true e =
      ap₂ (λ d g. cond d (Some t) g) (numbers_tie m n)
      (ap (λ (j : Pair). finite.get c.generations (j.0, j.1, pos m)) (tied_is pair_antisymmetric q owned e)
      ∙ sym (reported_generation dir c rows owned m))
      ∙ sym (finite.get-insert nat_cmp_total (here dir c rows owned).generations n t m)

  each : (q : Pair) (m : ℕ) → finite.get (finite.insert c.generations key t) (q.0, q.1, pos m)
      ≡ cond (eq_by_cmp pair_cmp q owned) (finite.get (put_at (here dir c rows owned) n t).generations m)
      (finite.get c.generations (q.0, q.1, pos m))
  each q m =
      finite.get-insert triple_total c.generations key t (q.0, q.1, pos m)
      ∙ ap (λ b. cond b (Some t) (finite.get c.generations (q.0, q.1, pos m))) (triple_tied (q.0, q.1, pos m) key)
      ∙ by_parts t (eq_by_cmp bytes_cmp q.0 owned.0) (eq_by_cmp bytes_cmp q.1 owned.1)
      (eq_by_cmp int_cmp (pos m) (pos n)) (eq_by_cmp pair_cmp q owned) (finite.get c.generations (q.0, q.1, pos m))
      (sym (both_tied (bytes_cmp q.0 owned.0) (bytes_cmp q.1 owned.1)))
      ∙ own q m (eq_by_cmp pair_cmp q owned) refl

  numbers : (owner name : List ℕ) (z : ℤ)
      → IsTrue (finite.contains_key (finite.insert c.generations key t) (owner, name, z)) → (m : ℕ) × (z ≡ pos m)
  numbers owner name z present =
      by (eq_by_cmp triple_cmp (owner, name, z) key) refl
      (sym (ap is_some (finite.get-insert triple_total c.generations key t (owner, name, z))) ∙ present)
    where
      by : (b : Bool) → eq_by_cmp triple_cmp (owner, name, z) key ≡ b
          → is_some (cond b (Some t) (finite.get c.generations (owner, name, z))) ≡ true → (m : ℕ) × (z ≡ pos m)
      by true e h = (n, ap (λ (k : Triple). k.2) (tied_is triple_antisymmetric (owner, name, z) key e))
      by false e h = rows.numbers owner name z h

  -- a number gets a path, and a number becomes current
  pub add_follows : (current : ℕ)
      → Follows dir (put_generation owned n t current) (with_profile_by owned (λ p. switched (put_at p n t) current)) c
  add_follows current =
      let it =
      profile_follows dir c rows (finite.insert c.profiles owned (pos current)) (finite.insert c.generations key t)
      owned (switched (put_at (here dir c rows owned) n t) current) (record {
        profile = finite.get-insert pair_total c.profiles owned (pos current);
        generation = each;
        numbers = numbers;
      }) (with_profile_by owned (λ p. switched (put_at p n t) current)) refl in
      record { world = it.world; sound = it.sound }

-- ---- the outline

get_put : (m : finite.FinMap pair_cmp Profile) (k : Pair) (x : Profile) → finite.get (finite.insert m k x) k ≡ Some x
get_put m k x =
    finite.get-insert pair_total m k x k
    ∙ ap (λ b. cond b (Some x) (finite.get m k)) ((eq_by_cmp_equiv pair_total).refl k)

-- a profile that is put over one that was just put
put_again : (m : finite.FinMap pair_cmp Profile) (k : Pair) (x y : Profile)
    → finite.insert (finite.insert m k x) k y ≡ finite.insert m k y
put_again m k x y = finite.same_map pair_total pair_antisymmetric _ _ (λ q.
    finite.get-insert pair_total (finite.insert m k x) k y q
    ∙ ap (cond (eq_by_cmp pair_cmp q k) (Some y)) (finite.get-insert pair_total m k x q)
    ∙ by (eq_by_cmp pair_cmp q k) (finite.get m q) ∙ sym (finite.get-insert pair_total m k y q))
  where
    by : (b : Bool) (g : Option Profile) → cond b (Some y) (cond b (Some x) g) ≡ cond b (Some y) g
    by true g = refl
    by false g = refl

module _ (old put : OutlineValue) (owned key again : Pair) (n : ℕ) (target value : Path) (same : key ≡ owned)
    (same_again : again ≡ owned) (same_value : value ≡ target)
    (is : put ≡ with_profile old key (put_at (profile_of old key) n value)) where
  abbrev added : Profile
  added = put_at (profile_of old owned) n target

  put_is : put ≡ with_profile old owned added
  put_is = is ∙ ap₂ (λ k v. with_profile old k (put_at (profile_of old k) n v)) same same_value

  pub put_present : IsTrue (finite.contains_key put.profiles again)
  put_present =
      ap₂ (λ (o : OutlineValue) k. finite.contains_key o.profiles k) put_is same_again
      ∙ has_put pair_total pair_antisymmetric old.profiles owned added

  module _ (now : OutlineValue) (current : ℕ)
      (switch : now ≡ with_profile put again (switched (profile_of put again) current)) where
    pub generation_put : now ≡ with_profile old owned (switched added current)
    generation_put =
        switch ∙ ap₂ (λ (o : OutlineValue) k. with_profile o k (switched (profile_of o k) current)) put_is same_again
        ∙ ap (λ (o : Option Profile). with_profile (with_profile old owned added) owned
        (switched (profile_or_new o) current)) (get_put old.profiles owned added)
        ∙ ap (λ m. record old { profiles = m }) (put_again old.profiles owned added (switched added current))

    pub generation_present : IsTrue (finite.contains_key now.profiles again)
    generation_present =
        ap₂ (λ (o : OutlineValue) k. finite.contains_key o.profiles k) generation_put same_again
        ∙ has_put pair_total pair_antisymmetric old.profiles owned (switched added current)

    -- one that was added is taken away again
    loaded : (o : Option Profile) → finite.get old.profiles owned ≡ o
        → finite.get (profile_or_new o).generations n ≡ None → (x : Profile)
        → x ≡ switched (put_at (profile_or_new o) n target) current
        → without_added (with_profile old owned x) owned n (option_map (λ (p : Profile). p.current) o) ≡ old.profiles
    loaded None e new x at = unput_put pair_total pair_antisymmetric old.profiles owned x None (sym e)
    loaded (Some p) e new x at =
        ap (λ (o : Option Profile). finite.insert (finite.insert old.profiles owned x) owned
        (switched (without_generation (profile_or_new o) n) p.current))
        (get_put old.profiles owned x ∙ ap Some at)
        ∙ ap (λ (m : finite.FinMap nat_cmp Path). finite.insert (finite.insert old.profiles owned x) owned
        (record { generations = m; current = p.current }))
        (unput_put nat_cmp_total nat_antisymmetric p.generations n target None (sym new))
        ∙ unput_put pair_total pair_antisymmetric old.profiles owned x (Some p) (sym e)

    pub generation_undone : finite.get (profile_of old owned).generations n ≡ None
        → (undone : OutlineValue) (had : Option ℕ) → had ≡ current_of old key
        → undone ≡ record now { profiles = without_added now again n had } → undone ≡ old
    generation_undone new undone had was back =
        back ∙ (λ i. record (generation_put i) {
          profiles =
              without_added (generation_put i) (same_again i) n ((was ∙ ap (current_of old) same) i);
        })
        ∙ ap (λ m. record old { profiles = m })
        (loaded (finite.get old.profiles owned) refl new (switched added current) refl)

-- ---- the write as a whole

module _ {S : Type 0} (g : Ghosts S) (k now : TablesValue S) (view : k ≡ now) (agrees : Agrees g k) (owned : Pair)
    (n : ℕ) (target : Path) (current : ℕ)
    (sound : StaysSound g now (with_profile_by owned (λ p. switched (put_at p n target) current)))
  where
    abbrev next : Profile → Profile
    next p = switched (put_at p n target) current

    generation_write : IsWrite g k now (put_generation owned n target current) (with_profile_by owned next)
        (outline_next owned next)
    generation_write =
        profile_write owned next (put_generation owned n target current) g k now view agrees sound
        (λ clean is_open. add_follows k.dir _ (agrees.rows clean is_open).sound owned n target current)

    -- the path is put as its text
    module _ (text : Path) (is_text : text ≡ target) (conn : Held S) (outline : OutlineValue) where
      abbrev changed : TablesValue S
      changed = record { connection = conn; dir = k.dir; outline = outline }

      of_target : {T E : Type 0} (r : Result T E)
          → CommitsRows g k.connection conn r (put_generation owned n text current)
          → CommitsRows g k.connection conn r (put_generation owned n target current)
      of_target r =
          rows_as g (put_generation owned n text current) (put_generation owned n target current)
          (ap {B = Contents → Contents} (λ (t : List ℕ). put_generation owned n t current) is_text)

      module _ {T : Type 0} (u : T)
          (rows : CommitsRows g {T = T} {E = Failed} k.connection conn (Ok u) (put_generation owned n text current))
          (is : outline ≡ outline_next owned next k.outline) where
        pub made_agrees : Agrees g changed
        made_agrees = write_agrees g generation_write conn outline u (of_target (Ok u) rows) is

        pub generation_made : {U : Type 0} (v : U)
            → ChangesTables g now changed (Ok v) (with_profile_by owned next) (GenerationRows owned n target current)
        generation_made v =
            record {
              frame = write_commits g generation_write conn outline u (of_target (Ok u) rows) is v;
              cause = λ clean. tt;
            }

      -- where it failed the outline is as before
      module _ {T : Type 0} (e : Failed)
          (rows : CommitsRows g {T = T} {E = Failed} k.connection conn (Err e) (put_generation owned n text current))
          (is : outline ≡ k.outline) where
        pub unmade_agrees : Agrees g changed
        unmade_agrees = failure_agrees g generation_write conn outline e (of_target (Err e) rows) is

        pub generation_unmade : {U : Type 0}
            → (HasCleanDisk (state g conn)
            → IsReason (GenerationRows owned n text current) (state g k.connection) (state g conn) e)
            → ChangesTables g {T = U} now changed (Err e) (with_profile_by owned next)
            (GenerationRows owned n target current)
        generation_unmade cause = record {
          frame = write_fails g generation_write conn outline e (of_target (Err e) rows) is e;
          cause =
              subst (λ (t : List ℕ). HasCleanDisk (state g conn)
              → IsReason (GenerationRows owned n t current) (state g now.connection) (state g conn) e) is_text
              (failure_seen g conn (GenerationRows owned n text current) e view cause);
        }
