-- The suffixes of the rows that follow a parameter.
use Rattle.std.proofs.Common.{◌≡◌, ℕ, List, [], ◌∷◌, Bool, true, false, cond, ◌==◌, ◌⊎◌, inl, inr, refl, ap, ◌∙◌, arith}
use Rattle.std.proofs.lemmas.Bool.Decides.{nat_tests}
use Rattle.matchit.specs.Rows.{RowsOf}
use Rattle.matchit.specs.Seek.{segment, has_slash, cuts, better, longest_from}
use Rattle.wire_requests.specs.Rows.{Has}
use Rattle.wire_requests.specs.Patterns.{is_at_end}
use Rattle.wire_requests.proofs.Texts.{}

pub better_none : (seg t : List ℕ) → is_at_end t ≡ true → cuts seg (47 ∷ []) ≡ false → better seg [] (segment t) ≡ []
better_none seg [] e no_cut = refl
better_none seg (x ∷ t) e no_cut = rw (e, (let same : x ≡ 47 = grind (arith, nat_tests) in same), no_cut) refl

pub better_kept : (seg t : List ℕ) → is_at_end t ≡ true → better seg (47 ∷ []) (segment t) ≡ 47 ∷ []
better_kept seg [] e = refl
better_kept seg (x ∷ t) e = rw e refl

pub better_some : (seg : List ℕ) (x : ℕ) (t : List ℕ) → is_at_end (x ∷ t) ≡ true → cuts seg (47 ∷ []) ≡ true
    → better seg [] (segment (x ∷ t)) ≡ 47 ∷ []
better_some seg x t e cut = let same : x ≡ 47 = grind (arith, nat_tests) in rw (e, same, cut) refl

pub slash_ahead : (b : ℕ) (path : List ℕ) (v : Bool) → (b == 47) ≡ false → has_slash path ≡ v → has_slash (b ∷ path) ≡ v
slash_ahead b path v e f = ap (λ w. cond w true (has_slash path)) e ∙ f

module _ {K : Type 0} where
  -- a slash or nothing follows in each row
  abbrev pub AtEnds : RowsOf K → Type 0
  AtEnds rs = (t : List ℕ) (k : K) → Has (t, k) rs → is_at_end t ≡ true

  pub none_longest : (seg : List ℕ) (rs : RowsOf K) → AtEnds rs → cuts seg (47 ∷ []) ≡ false
      → longest_from seg [] rs ≡ []
  none_longest seg [] ends no_cut = refl
  none_longest seg ((t, k) ∷ rs) ends no_cut =
      ap (λ b. longest_from seg b rs) (better_none seg t (ends t k (inl refl)) no_cut)
      ∙ none_longest seg rs (λ u l h. ends u l (inr h)) no_cut

  pub kept_longest : (seg : List ℕ) (rs : RowsOf K) → AtEnds rs → longest_from seg (47 ∷ []) rs ≡ 47 ∷ []
  kept_longest seg [] ends = refl
  kept_longest seg ((t, k) ∷ rs) ends =
      ap (λ b. longest_from seg b rs) (better_kept seg t (ends t k (inl refl)))
      ∙ kept_longest seg rs (λ u l h. ends u l (inr h))

  pub found_longest : (seg u : List ℕ) (l : K) (rs : RowsOf K) → AtEnds rs → cuts seg (47 ∷ []) ≡ true
      → Has (47 ∷ u, l) rs → longest_from seg [] rs ≡ 47 ∷ []
  found_longest seg u l [] ends cut has = absurd has
  found_longest seg u l (([], k) ∷ rs) ends cut (inl e) = let h : [] ≡ 47 ∷ u = ap (λ r. r.0) e in cc
  found_longest seg u l (([], k) ∷ rs) ends cut (inr has) = found_longest seg u l rs (λ v m h. ends v m (inr h)) cut has
  found_longest seg u l ((x ∷ t, k) ∷ rs) ends cut has =
      ap (λ b. longest_from seg b rs) (better_some seg x t (ends (x ∷ t) k (inl refl)) cut)
      ∙ kept_longest seg rs (λ v m h. ends v m (inr h))

  pub either_longest : (seg : List ℕ) (rs : RowsOf K) → AtEnds rs → cuts seg (47 ∷ []) ≡ true
      → (longest_from seg [] rs ≡ []) ⊎ (longest_from seg [] rs ≡ 47 ∷ [])
  either_longest seg [] ends cut = inl refl
  either_longest seg (([], k) ∷ rs) ends cut = either_longest seg rs (λ v m h. ends v m (inr h)) cut
  either_longest seg ((x ∷ t, k) ∷ rs) ends cut = inr (found_longest_here seg x t k rs ends cut)
    where
      found_longest_here : (seg : List ℕ) (x : ℕ) (t : List ℕ) (k : K) (rs : RowsOf K) → AtEnds ((x ∷ t, k) ∷ rs)
          → cuts seg (47 ∷ []) ≡ true
          → longest_from seg [] ((x ∷ t, k) ∷ rs) ≡ 47 ∷ []
      found_longest_here seg x t k rs ends cut =
          ap (λ b. longest_from seg b rs) (better_some seg x t (ends (x ∷ t) k (inl refl)) cut)
          ∙ kept_longest seg rs (λ v m h. ends v m (inr h))
