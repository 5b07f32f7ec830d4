-- Listings lose nothing: their text says which paths or roots they have.
use Rattle.std.proofs.Common.{◌≡◌, ℕ, List, [], ◌∷◌, ◌++◌, true, not, ◌&&◌, ◌==◌, codes, refl, sym, ap, ap₂, ◌∙◌}
use Rattle.std.proofs.Common.{IsTrue, append_assoc, arith}
use Rattle.std.proofs.lemmas.Bool.{and_parts, false≢true}
use Rattle.paths.specs.StorePath.{full_path}
use Rattle.model.specs.World.{Path, Pair}
use Rattle.report.specs.Stops.{root_text}
use Rattle.report.specs.Replies.{paths_text, roots_text}
use Rattle.report.specs.Laws.{omits, are_unbroken, are_plain, ListingsDiffer}
use Rattle.report.proofs.Lacking.{omits_both}

-- ---- two texts cut at one byte

heads : {a b : ℕ} {x y : List ℕ} → a ∷ x ≡ b ∷ y → a ≡ b
heads e = cc

tails : {a b : ℕ} {x y : List ℕ} → a ∷ x ≡ b ∷ y → x ≡ y
tails e = cc

isnt : (byte b : ℕ) (bs : List ℕ) → IsTrue (omits byte (b ∷ bs)) → b ≡ byte → ⊥
isnt byte b bs h e = false≢true (sym (ap not (here b byte e)) ∙ (and_parts (not (b == byte)) (omits byte bs) h).0)
  where
    here : (c d : ℕ) → c ≡ d → (c == d) ≡ true
    here c d same = grind (arith, same)

pub cut : (byte : ℕ) (a b x y : List ℕ) → IsTrue (omits byte a) → IsTrue (omits byte b) → a ++ byte ∷ x ≡ b ++ byte ∷ y
    → (a ≡ b) × (x ≡ y)
cut byte [] [] x y p q e = (refl, tails e)
cut byte [] (d ∷ b) x y p q e = absurd (isnt byte d b q (sym (heads e)))
cut byte (c ∷ a) [] x y p q e = absurd (isnt byte c a p (heads e))
cut byte (c ∷ a) (d ∷ b) x y p q e =
    let rest =
    cut byte a b x y (and_parts (not (c == byte)) (omits byte a) p).1
    (and_parts (not (d == byte)) (omits byte b) q).1 (tails e) in
    (ap₂ (λ u v. u ∷ v) (heads e) rest.0, rest.1)

-- both begin with the same prefix
prefix_off : (a x y : List ℕ) → a ++ x ≡ a ++ y → x ≡ y
prefix_off [] x y e = e
prefix_off (c ∷ a) x y e = prefix_off a x y (tails e)

nothing_or_more : (a x : List ℕ) (b : ℕ) → a ++ b ∷ x ≡ [] → ⊥
nothing_or_more [] x b e = cc
nothing_or_more (c ∷ a) x b e = cc

module _ (dir : List ℕ) (unbroken : IsTrue (omits 10 dir)) where
  -- ---- full paths

  full_lacks : (p : Path) → IsTrue (omits 10 p) → IsTrue (omits 10 (full_path dir p))
  full_lacks p h = omits_both 10 (dir ++ codes "/") p (omits_both 10 dir (codes "/") unbroken refl) h

  -- the first full path of a text, and what follows its line
  first_path : (p q : Path) (x y : List ℕ) → IsTrue (omits 10 p) → IsTrue (omits 10 q)
      → full_path dir p ++ 10 ∷ x ≡ full_path dir q ++ 10 ∷ y → (p ≡ q) × (x ≡ y)
  first_path p q x y h g e =
      let parts = cut 10 (full_path dir p) (full_path dir q) x y (full_lacks p h) (full_lacks q g) e in
      (prefix_off (dir ++ codes "/") p q parts.0, parts.1)

  path_first : (p : Path) (ps : List Path) → paths_text dir (p ∷ ps) ≡ full_path dir p ++ 10 ∷ paths_text dir ps
  path_first p ps = append_assoc (full_path dir p) (codes "\n") (paths_text dir ps)

  pub same_paths : (a b : List Path) → IsTrue (are_unbroken a) → IsTrue (are_unbroken b)
      → paths_text dir a ≡ paths_text dir b → a ≡ b
  same_paths [] [] p q e = refl
  same_paths [] (y ∷ ys) p q e =
      absurd (nothing_or_more (full_path dir y) (paths_text dir ys) 10 (sym (path_first y ys) ∙ sym e))
  same_paths (x ∷ xs) [] p q e =
      absurd (nothing_or_more (full_path dir x) (paths_text dir xs) 10 (sym (path_first x xs) ∙ e))
  same_paths (x ∷ xs) (y ∷ ys) p q e =
      let px = and_parts (omits 10 x) (are_unbroken xs) p in
      let py = and_parts (omits 10 y) (are_unbroken ys) q in
      let parts =
      first_path x y (paths_text dir xs) (paths_text dir ys) px.0 py.0
      (sym (path_first x xs) ∙ e ∙ path_first y ys) in
      ap₂ (λ u v. u ∷ v) parts.0 (same_paths xs ys px.1 py.1 parts.1)

  -- ---- roots

  root_first : (r : Pair) (rs : List Pair)
      → roots_text dir (r ∷ rs) ≡ r.0 ++ 32 ∷ (full_path dir r.1 ++ 10 ∷ roots_text dir rs)
  root_first r rs =
      append_assoc (root_text dir r) (codes "\n") (roots_text dir rs)
      ∙ append_assoc (r.0 ++ codes " ") (full_path dir r.1) (10 ∷ roots_text dir rs)
      ∙ append_assoc r.0 (codes " ") (full_path dir r.1 ++ 10 ∷ roots_text dir rs)

  pub same_roots : (a b : List Pair) → IsTrue (are_plain a) → IsTrue (are_plain b) → roots_text dir a ≡ roots_text dir b
      → a ≡ b
  same_roots [] [] p q e = refl
  same_roots [] (y ∷ ys) p q e =
      absurd (nothing_or_more y.0 (full_path dir y.1 ++ 10 ∷ roots_text dir ys) 32 (sym (root_first y ys) ∙ sym e))
  same_roots (x ∷ xs) [] p q e =
      absurd (nothing_or_more x.0 (full_path dir x.1 ++ 10 ∷ roots_text dir xs) 32 (sym (root_first x xs) ∙ e))
  same_roots (x ∷ xs) (y ∷ ys) p q e =
      let px = and_parts (omits 32 x.0 && omits 10 x.1) (are_plain xs) p in
      let py = and_parts (omits 32 y.0 && omits 10 y.1) (are_plain ys) q in
      let ax = and_parts (omits 32 x.0) (omits 10 x.1) px.0 in
      let ay = and_parts (omits 32 y.0) (omits 10 y.1) py.0 in
      let labels =
      cut 32 x.0 y.0 (full_path dir x.1 ++ 10 ∷ roots_text dir xs) (full_path dir y.1 ++ 10 ∷ roots_text dir ys)
      ax.0 ay.0 (sym (root_first x xs) ∙ e ∙ root_first y ys) in
      let targets = first_path x.1 y.1 (roots_text dir xs) (roots_text dir ys) ax.1 ay.1 labels.1 in
      let one : x ≡ y = λ i. (labels.0 i, targets.0 i) in
      ap₂ (λ u v. u ∷ v) one (same_roots xs ys px.1 py.1 targets.1)

  pub listings : ListingsDiffer dir
  listings = record { paths = same_paths; roots = same_roots }
