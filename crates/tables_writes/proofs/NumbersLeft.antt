-- The number that a path gets in a profile, which has it already or not.
use Rattle.std.proofs.Common.{◌≡◌, ℕ, ◌+◌, ◌<◌, List, [], ◌∷◌, map, Bool, true, false, cond, Some, None, Option}
use Rattle.std.proofs.Common.{is_some, refl, sym, ap, ◌∙◌, arith, T}
use Rattle.std.specs.Prelude.{if◌then◌else◌, unwrap_or}
use Rattle.std.specs.List.{last_or}
use Rattle.std.specs.Ordering.{eq_by_cmp, is_lt, nat_cmp}
use Rattle.std.proofs.lemmas.Cmp.{ranked}
use Rattle.std.specs.FinMap as finite
use Rattle.std.specs.FinMap.Entries.{find as find_entry, is_sorted, below_all}
use Rattle.std.proofs.lemmas.Bool.{false≢true}
use Rattle.std.specs.declared.cmp.Ordering.TheVariants.{Less}
use Rattle.model.specs.World.{Path, Profile}
use Rattle.model.specs.Profiles.{has_generation, highest, is_highest, number_for, profile_or_new, put_at, set_to}
use Rattle.model.specs.Profiles.{switched}
use Rattle.tables_outline.proofs.Orders.{nat_antisymmetric}
use Rattle.tables_outline.proofs.Puts.{tied_is}
use Rattle.tables_outline.proofs.ProfileEntries.{set_is_put}
use Rattle.tables_writes.proofs.Free.{both_T, lesser}

abbrev firsts : List (ℕ × Path) → List ℕ
firsts es = map (λ (e : ℕ × Path). e.0) es

apart : (m n : ℕ) → n < m → eq_by_cmp nat_cmp m n ≡ false
apart m n less = by (eq_by_cmp nat_cmp m n) refl
  where
    by : (b : Bool) → eq_by_cmp nat_cmp m n ≡ b → b ≡ false
    by true e = let same : m ≡ n = tied_is nat_antisymmetric m n e in absurd (omega (arith, less, same))
    by false e = refl

-- what is above the last number is above all, and there is none of it
above : (x : ℕ) (es : List (ℕ × Path)) (m : ℕ) → T (below_all nat_cmp x es) → T (is_sorted nat_cmp es)
    → unwrap_or (last_or (Some x) (firsts es)) 0 < m → (x < m) × (find_entry nat_cmp m es ≡ None)
above x [] m below sorted less = (less, refl)
above x (e ∷ es) m below sorted less =
    let parts = both_T (below_all nat_cmp e.0 es) (is_sorted nat_cmp es) sorted in
    let here = both_T (is_lt (nat_cmp x e.0)) (below_all nat_cmp x es) below in
    let first : x < e.0 = ranked x e.0 Less (sym (lesser (nat_cmp x e.0) here.0)) in
    let later = above e.0 es m parts.0 parts.1 less in (
      omega (arith, first, later.0),
      ap (λ b. cond b (Some e.1) (find_entry nat_cmp m es)) (apart m e.0 later.0) ∙ later.1,
    )

next_free : (es : List (ℕ × Path)) → T (is_sorted nat_cmp es)
    → find_entry nat_cmp (unwrap_or (last_or None (firsts es)) 0 + 1) es ≡ None
next_free [] sorted = refl
next_free (e ∷ es) sorted =
    let parts = both_T (below_all nat_cmp e.0 es) (is_sorted nat_cmp es) sorted in
    let top = unwrap_or (last_or (Some e.0) (firsts es)) 0 in
    let later = above e.0 es (top + 1) parts.0 parts.1 (omega arith) in
    ap (λ b. cond b (Some e.1) (find_entry nat_cmp (top + 1) es)) (apart (top + 1) e.0 later.0) ∙ later.1

-- the next number is free
pub free : (p : Profile) → finite.get p.generations (highest p + 1) ≡ None
free p =
    finite.get-entries p.generations (highest p + 1)
    ∙ next_free (finite.entries p.generations) (finite.entries_sorted p.generations)

-- a number that is there is the highest generation's, and it becomes current
pub set_is_switch : (p : Profile) (t : Path) (n : ℕ) → n ≡ number_for p t → has_generation p n ≡ true
    → switched p n ≡ set_to p t
set_is_switch p t n is present = by (is_highest p t) refl
  where
    by : (b : Bool) → is_highest p t ≡ b → switched p n ≡ set_to p t
    by true h =
        ap (switched p) (is ∙ ap (λ b. if b then highest p else highest p + 1) h)
        ∙ sym (ap (λ b. if b then switched p (highest p)
        else record { generations = finite.insert p.generations (highest p + 1) t; current = highest p + 1 }) h)
    by false h =
        absurd (false≢true (sym (ap is_some (free p))
        ∙ ap (λ k. is_some (finite.get p.generations k))
        (sym (is ∙ ap (λ b. if b then highest p else highest p + 1) h)) ∙ present))

-- one that isn't there is the next
pub set_is_new : (p : Profile) (t : Path) (n : ℕ) → n ≡ number_for p t → put_at p n t ≡ set_to p t
set_is_new p t n is = ap (λ k. put_at p k t) is ∙ set_is_put p t

pub none_present : (p : Profile) (n : ℕ) → has_generation p n ≡ false → finite.get p.generations n ≡ None
none_present p n h = by (finite.get p.generations n) h
  where
    by : (o : Option Path) → is_some o ≡ false → o ≡ None
    by None e = refl
    by (Some q) e = absurd (false≢true (sym e))

pub present_of : (o : Option Profile) (n : ℕ) → has_generation (profile_or_new o) n ≡ true → is_some o ≡ true
present_of None n h = absurd (false≢true (sym (ap is_some (finite.get-empty nat_cmp n)) ∙ h))
present_of (Some p) n h = refl
