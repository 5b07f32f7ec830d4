-- What a pattern's parameters stand for are whole parts of the text, by their numbers.
use Rattle.std.proofs.Common.{◌≡◌, ℕ, suc, ◌+◌, List, [], ◌∷◌, drop, Bool, true, false, cond, ◌==◌, ◌&&◌, not, refl}
use Rattle.std.proofs.Common.{sym, ap, ◌∙◌, arith}
use Rattle.std.proofs.lemmas.Bool.Decides.{nat_tests}
use Rattle.std.specs.Prelude.{map}
use Rattle.wire_requests.specs.Parts.{part, after_slashes}
use Rattle.wire_requests.specs.Patterns.{fits, matched, prefix, suffix}
use Rattle.wire_requests.proofs.Texts.{and_first, and_last, not_true}
use Rattle.wire_requests.proofs.Prefixes.{before_is_prefix, after_is_last, after_after}

-- each parameter begins where a part does
abbrev pub begins_parts : Bool → List ℕ → Bool
begins_parts begin [] = true
begins_parts begin (x ∷ pattern) =
    cond (x == 256) (begin && begins_parts false pattern) (begins_parts (x == 47) pattern)

-- the numbers of the parts that parameters are
abbrev pub places : ℕ → List ℕ → List ℕ
places n [] = []
places n (x ∷ pattern) =
    cond (x == 256) (n ∷ places n pattern) (cond (x == 47) (places (n + 1) pattern) (places n pattern))

module _ (path : List ℕ) where
  abbrev Placed : List ℕ → Type 0
  Placed pattern = (p : List ℕ) (begin : Bool) (n : ℕ) → begins_parts begin pattern ≡ true → fits pattern p ≡ true
      → (begin ≡ true → p ≡ after_slashes n path) → suffix p ≡ suffix (after_slashes n path)
      → matched pattern p ≡ map (λ i. part i path) (places n pattern)

  placed : (pattern : List ℕ) → Placed pattern
  placed [] p begin n starts f here rest = refl
  placed (x ∷ pattern) [] begin n starts f here rest = let h : false ≡ true = f in cc
  placed (x ∷ pattern) (b ∷ p) begin n starts f here rest = by (placed pattern) (x == 256) refl starts f
    where
      by_byte : Placed pattern → (x == b) ≡ true → fits pattern p ≡ true → (w : Bool) → (x == 47) ≡ w
          → begins_parts w pattern ≡ true
          → matched pattern p ≡ map (λ i. part i path) (cond w (places (n + 1) pattern) (places n pattern))
      by_byte ih same f true e starts =
          let slash : (b == 47) ≡ true = grind (arith, nat_tests) in
          let left : b ∷ p ≡ suffix (after_slashes n path) = ap (λ v. cond v (b ∷ p) (suffix p)) (sym slash) ∙ rest in
          let next : p ≡ after_slashes (n + 1) path =
          let more : suc n ≡ n + 1 = omega arith in
          ap (drop 1) left ∙ after_is_last (after_slashes n path) ∙ ap (λ k. after_slashes k path) more in
          ih p true (n + 1) starts f (λ e. next) (ap suffix next)
      by_byte ih same f false e starts =
          let no_slash : (b == 47) ≡ false = grind (arith, nat_tests) in
          let left : suffix p ≡ suffix (after_slashes n path) =
          ap (λ v. cond v (b ∷ p) (suffix p)) (sym no_slash) ∙ rest in
          ih p false n starts f (λ e. let h : false ≡ true = e in cc) left

      by : Placed pattern → (v : Bool) → (x == 256) ≡ v
          → cond v (begin && begins_parts false pattern) (begins_parts (x == 47) pattern) ≡ true
          → cond v (not (b == 47) && fits pattern (suffix p)) (x == b && fits pattern p) ≡ true
          → cond v ((b ∷ prefix p) ∷ matched pattern (suffix p)) (matched pattern p)
          ≡ map (λ i. part i path) (cond v (n ∷ places n pattern)
          (cond (x == 47) (places (n + 1) pattern) (places n pattern)))
      by ih true e starts f =
          let no_slash = not_true (b == 47) (and_first (not (b == 47)) (fits pattern (suffix p)) f) in
          let is = here (and_first begin (begins_parts false pattern) starts) in
          let one : b ∷ prefix p ≡ part n path =
          ap (λ v. cond v [] (b ∷ prefix p)) (sym no_slash) ∙ ap prefix is
          ∙ before_is_prefix (after_slashes n path) in
          let left : suffix (suffix p) ≡ suffix (after_slashes n path) =
          after_after p ∙ ap (λ v. cond v (b ∷ p) (suffix p)) (sym no_slash) ∙ rest in
          ap (λ t. t ∷ matched pattern (suffix p)) one
          ∙ ap (λ ts. part n path ∷ ts)
          (ih (suffix p) false n (and_last begin (begins_parts false pattern) starts)
          (and_last (not (b == 47)) (fits pattern (suffix p)) f) (λ e. let h : false ≡ true = e in cc) left)
      by ih false e starts f =
          by_byte ih (and_first (x == b) (fits pattern p) f) (and_last (x == b) (fits pattern p) f) (x == 47) refl
          starts

  pub used_parts : (pattern : List ℕ) → begins_parts false pattern ≡ true → fits pattern path ≡ true
      → matched pattern path ≡ map (λ i. part i path) (places 0 pattern)
  used_parts pattern starts f = placed pattern path false 0 starts f (λ e. refl) refl
