-- What changed rows of one profile make of the world.
use Rattle.std.proofs.Common.{◌≡◌, ℕ, List, Bool, true, false, cond, Some, None, Option, option_map, is_some, refl, sym}
use Rattle.std.proofs.Common.{ap, subst, ◌∙◌, IsTrue}
use Rattle.std.specs.Prelude.{ℤ, pos}
use Rattle.std.specs.Ordering.{eq_by_cmp, nat_cmp}
use Rattle.std.specs.Cmp.{nat_cmp_total, eq_by_cmp_equiv}
use Rattle.std.specs.FinMap as finite
use Rattle.std.proofs.lemmas.Option.{same_Some}
use Rattle.tables_sql.specs.Contents.{Contents, triple_cmp}
use Rattle.model.specs.World.{Path, Pair, pair_cmp, Profile, World}
use Rattle.model.specs.Sound.{IsSound}
use Rattle.tables_world.specs.Rows.{generations_in, profile_in, number_in}
use Rattle.tables_world.specs.Worlds.{IsSoundContents, rows_of, world_in}
use Rattle.tables_world.proofs.Columns.{generation_at, profile_at}
use Rattle.tables_outline.proofs.Orders.{nat_antisymmetric, pair_total, pair_antisymmetric}
use Rattle.tables_outline.proofs.Puts.{tied_is}
use Rattle.tables_writes.proofs.AfterWrites.{Follows}

-- Rows of profiles and generations after a change: one profile has this current number and these generations.
pub record AreChanged (c : Contents) (profiles : finite.FinMap pair_cmp ℤ) (generations : finite.FinMap triple_cmp Path)
    (owned : Pair) (p : Profile) : Type 0 where
  pub profile : (q : Pair) → finite.get profiles q
      ≡ cond (eq_by_cmp pair_cmp q owned) (Some (pos p.current)) (finite.get c.profiles q)
  pub generation : (q : Pair) (n : ℕ)
      → finite.get generations (q.0, q.1, pos n)
      ≡ cond (eq_by_cmp pair_cmp q owned) (finite.get p.generations n) (finite.get c.generations (q.0, q.1, pos n))
  pub numbers : (owner name : List ℕ) (n : ℤ) → IsTrue (finite.contains_key generations (owner, name, n))
      → (m : ℕ) × (n ≡ pos m)

module _ (dir : List ℕ) (c : Contents) (rows : IsSoundContents dir c) (profiles : finite.FinMap pair_cmp ℤ)
    (generations : finite.FinMap triple_cmp Path) (owned : Pair) (p : Profile)
    (are : AreChanged c profiles generations owned p) where
  abbrev after : Contents
  after = record c { profiles = profiles; generations = generations }

  own : generations_in (rows_of after) owned ≡ p.generations
  own = finite.same_map nat_cmp_total nat_antisymmetric _ _ (λ n.
      generation_at (rows_of after) are.numbers owned.0 owned.1 n ∙ are.generation owned n
      ∙ ap (λ b. cond b (finite.get p.generations n) (finite.get c.generations (owned.0, owned.1, pos n))) itself)
    where
      itself : eq_by_cmp pair_cmp owned owned ≡ true
      itself = (eq_by_cmp_equiv pair_total).refl owned

  other : (q : Pair) → eq_by_cmp pair_cmp q owned ≡ false
      → generations_in (rows_of after) q ≡ generations_in (rows_of c) q
  other q apart = finite.same_map nat_cmp_total nat_antisymmetric _ _ (λ n.
      generation_at (rows_of after) are.numbers q.0 q.1 n ∙ are.generation q n
      ∙ ap (λ b. cond b (finite.get p.generations n) (finite.get c.generations (q.0, q.1, pos n))) apart
      ∙ sym (generation_at (rows_of c) rows.numbers q.0 q.1 n))

  profiles_after : (world_in after).profiles ≡ finite.insert (world_in c).profiles owned p
  profiles_after = finite.same_map pair_total pair_antisymmetric _ _ (λ q.
      profile_at (rows_of after) q ∙ ap (option_map (profile_in (rows_of after) q)) (are.profile q)
      ∙ by q (eq_by_cmp pair_cmp q owned) refl (finite.get c.profiles q)
      ∙ sym (finite.get-insert pair_total (world_in c).profiles owned p q
      ∙ ap (cond (eq_by_cmp pair_cmp q owned) (Some p)) (profile_at (rows_of c) q)))
    where
      each : (q : Pair) → eq_by_cmp pair_cmp q owned ≡ false → (g : Option ℤ)
          → option_map (profile_in (rows_of after) q) g ≡ option_map (profile_in (rows_of c) q) g
      each q apart None = refl
      each q apart (Some n) =
          ap (λ (m : finite.FinMap nat_cmp Path). Some (record { generations = m; current = number_in n }))
          (other q apart)

      by : (q : Pair) (b : Bool) → eq_by_cmp pair_cmp q owned ≡ b → (g : Option ℤ)
          → option_map (profile_in (rows_of after) q) (cond b (Some (pos p.current)) g)
          ≡ cond b (Some p) (option_map (profile_in (rows_of c) q) g)
      by q true t g =
          ap (λ (j : Pair). Some (profile_in (rows_of after) j (pos p.current))) (tied_is pair_antisymmetric q owned t)
          ∙ ap (λ (m : finite.FinMap nat_cmp Path). Some (record { generations = m; current = p.current })) own
      by q false t g = each q t g

  still_present : (q : Pair) → (eq_by_cmp pair_cmp q owned ≡ false → IsTrue (finite.contains_key c.profiles q))
      → IsTrue (finite.contains_key profiles q)
  still_present q h = ap is_some (are.profile q) ∙ by (eq_by_cmp pair_cmp q owned) refl
    where
      by : (b : Bool) → eq_by_cmp pair_cmp q owned ≡ b
          → is_some (cond b (Some (pos p.current)) (finite.get c.profiles q)) ≡ true
      by true t = refl
      by false t = h t

  pub profile_follows : (F : World → World)
      → F (world_in c) ≡ record (world_in c) { profiles = finite.insert (world_in c).profiles owned p }
      → Follows dir (λ x. record x { profiles = profiles; generations = generations }) F c
  profile_follows F is =
      let world_after : world_in after ≡ F (world_in c) =
      ap (λ m. record (world_in c) { profiles = m }) profiles_after ∙ sym is in
      record {
        world = world_after;
        sound = λ world. record {
          directory = rows.directory;
          settings_are = rows.settings_are;
          no_pieces = rows.no_pieces;
          no_temporary = rows.no_temporary;
          cut = rows.cut;
          pieces = rows.pieces;
          sessions = rows.sessions;
          address = rows.address;
          hash = rows.hash;
          references = rows.references;
          outputs = rows.outputs;
          generations = λ owner name n present. still_present (owner, name) (λ apart.
              let m = are.numbers owner name n present in
              rows.generations owner name n (ap (λ k. is_some (finite.get c.generations (owner, name, k))) m.1
              ∙ ap is_some (sym (are.generation (owner, name) m.0
              ∙ ap (λ b. cond b (finite.get p.generations m.0)
              (finite.get c.generations (owner, name, pos m.0))) apart))
              ∙ ap (λ k. is_some (finite.get generations (owner, name, k))) (sym m.1) ∙ present));
          numbers = are.numbers;
          current = λ q n e. current_of q n (eq_by_cmp pair_cmp q owned) (sym (are.profile q) ∙ e);
          world = subst (IsSound dir) (sym world_after) world;
        };
      }
    where
      current_of : (q : Pair) (n : ℤ) (b : Bool) → cond b (Some (pos p.current)) (finite.get c.profiles q) ≡ Some n
          → (m : ℕ) × (n ≡ pos m)
      current_of q n true e = (p.current, sym (same_Some (pos p.current) n e))
      current_of q n false e = rows.current q n e
