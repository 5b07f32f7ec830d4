-- `matchit` walks over a path that a pattern fits, and takes what the pattern's parameters stand for.
use Rattle.std.proofs.Common.{◌≡◌, ℕ, suc, ◌+◌, ◌-◌, ◌<◌, List, [], ◌∷◌, length, drop, take, get_or, Bool, true, false}
use Rattle.std.proofs.Common.{cond, ◌==◌, ◌&&◌, ◌||◌, not, refl, sym, ap, ◌∙◌, arith, ltb}
use Rattle.std.proofs.lemmas.Bool.{lt-ltb, le-ltb, le-leb}
use Rattle.std.proofs.lemmas.Bool.Decides.{nat_tests}
use Rattle.std.proofs.lemmas.List.{drop-drop, length-drop, get_or-drop, length-append, take_all}
use Rattle.std.proofs.Math.Nat.{min-eq_left}
use Rattle.std.specs.Prelude.{nat_le, leb}
use Rattle.matchit.specs.Params.{walk, wild_from, wild_stop, part_of, next_at, after_token}
use Rattle.matchit.specs.Seek.{segment}
use Rattle.wire_requests.specs.Patterns.{fits, matched, prefix, suffix, is_at_end, is_plain}
use Rattle.wire_requests.proofs.Texts.{and_first, and_last, not_true}
use Rattle.wire_requests.proofs.Prefixes.{prefix_after, take_prefix, drop_prefix, segment_prefix, some_slash}
use Rattle.wire_requests.proofs.Prefixes.{nothing_left}

-- how many parameters a pattern has
abbrev pub parameters_of : List ℕ → ℕ
parameters_of [] = 0
parameters_of (x ∷ pattern) = cond (x == 256) (parameters_of pattern + 1) (parameters_of pattern)

module _ (pattern text path : List ℕ) (short : length pattern < 1000) where
  -- each name with what its parameter stands for
  abbrev pub pairs : List (ℕ × ℕ) → List (List ℕ) → List (List ℕ × List ℕ)
  pairs [] values = []
  pairs (n ∷ names) [] = []
  pairs (n ∷ names) (v ∷ values) = (part_of text n.0 n.1, v) ∷ pairs names values

  -- what is left of a walk where the next parameter is at a place
  abbrev walk_at : ℕ × ℕ → List (ℕ × ℕ) → List (List ℕ × List ℕ)
  walk_at w [] = []
  walk_at w (n ∷ names) =
      (part_of text n.0 n.1, part_of path w.1 (wild_stop pattern w.0 path w.1))
      ∷ walk pattern text path names (after_token w.0) (wild_stop pattern w.0 path w.1)

  walk_is : (names : List (ℕ × ℕ)) (token at : ℕ)
      → walk pattern text path names token at ≡ walk_at (wild_from (drop token pattern) (length path) token at) names
  walk_is [] token at = refl
  walk_is (n ∷ names) token at = refl

  dropped : (token x : ℕ) (rest : List ℕ) → drop token pattern ≡ x ∷ rest → drop (token + 1) pattern ≡ rest
  dropped token x rest is = sym (drop-drop 1 token pattern) ∙ ap (drop 1) is

  over_byte : (token at x : ℕ) (rest : List ℕ) (names : List (ℕ × ℕ)) → drop token pattern ≡ x ∷ rest → x < 256
      → at < length path
      → walk pattern text path names token at ≡ walk pattern text path names (token + 1) (at + 1)
  over_byte token at x rest names is byte within =
      let here : wild_from (drop token pattern) (length path) token at ≡ wild_from (x ∷ rest) (length path) token at =
      ap (λ l. wild_from l (length path) token at) is in
      let step : wild_from (x ∷ rest) (length path) token at ≡ wild_from rest (length path) (token + 1)
      (next_at (length path) at) =
      ap (λ v. cond v (wild_from rest (length path) (token + 1) (next_at (length path) at)) (token, at))
      (lt-ltb x 256 byte) in
      let more : next_at (length path) at ≡ at + 1 = ap (λ v. cond v (at + 1) at) (lt-ltb at (length path) within) in
      let present : wild_from rest (length path) (token + 1) (at + 1)
      ≡ wild_from (drop (token + 1) pattern) (length path) (token + 1) (at + 1) =
      ap (λ l. wild_from l (length path) (token + 1) (at + 1)) (sym (dropped token x rest is)) in
      walk_is names token at
      ∙ ap (λ w. walk_at w names) (here ∙ step ∙ ap (λ a. wild_from rest (length path) (token + 1) a) more ∙ present)
      ∙ sym (walk_is names (token + 1) (at + 1))

  at_parameter : (token at : ℕ) (rest : List ℕ) (names : List (ℕ × ℕ)) → drop token pattern ≡ 256 ∷ rest
      → walk pattern text path names token at ≡ walk_at (token, at) names
  at_parameter token at rest names is =
      walk_is names token at ∙ ap (λ l. walk_at (wild_from l (length path) token at) names) is

  token_is : (token : ℕ) (rest : List ℕ) → drop token pattern ≡ 256 ∷ rest → (get_or pattern token 0 == 256) ≡ true
  token_is token rest is =
      let none : token + 0 ≡ token = omega arith in
      let here : get_or pattern token 0 ≡ 256 =
      ap (λ n. get_or pattern n 0) (sym none) ∙ sym (get_or-drop token pattern 0 0) ∙ ap (λ l. get_or l 0 0) is in
      grind (arith, nat_tests)

  left : (token x : ℕ) (rest : List ℕ) → drop token pattern ≡ x ∷ rest → length pattern ≡ token + 1 + length rest
  left token x rest is =
      let size = ap length is in
      omega (arith, size, length-drop token pattern)

  stop_is : (token at : ℕ) (rest : List ℕ) (v : Bool) → drop token pattern ≡ 256 ∷ rest
      → ltb (token + 1) (length pattern) ≡ v
      → wild_stop pattern token path at ≡ cond v
      (at + length (segment (drop at path)) - length (segment (drop (token + 1) pattern))) (length path)
  stop_is token at rest v is more =
      let present : ltb token (length pattern) ≡ true =
      lt-ltb token (length pattern) (omega (arith, left token 256 rest is)) in
      ap (λ a. cond (a && (get_or pattern token 0 == 256) && ltb (token + 1) (length pattern))
      (at + length (segment (drop at path)) - length (segment (drop (token + 1) pattern))) (length path)) present
      ∙ ap (λ a. cond (a && ltb (token + 1) (length pattern))
      (at + length (segment (drop at path)) - length (segment (drop (token + 1) pattern))) (length path))
      (token_is token rest is)
      ∙ ap (λ a. cond a (at + length (segment (drop at path)) - length (segment (drop (token + 1) pattern)))
      (length path)) more

  -- the last parameter takes all that is left
  at_last : (token at b : ℕ) (p : List ℕ) (names : List (ℕ × ℕ)) → drop token pattern ≡ 256 ∷ [] → drop at path ≡ b ∷ p
      → at + length (b ∷ p) ≡ length path
      → length names ≡ 1 → fits [] (suffix p) ≡ true
      → walk pattern text path names token at ≡ pairs names ((b ∷ prefix p) ∷ [])
  at_last token at b p [] is here size one f = absurd (omega (arith, one))
  at_last token at b p (n ∷ m ∷ names) is here size one f = absurd (omega (arith, one))
  at_last token at b p (n ∷ []) is here size one f =
      let stop =
      stop_is token at [] false is (le-ltb (token + 1) (length pattern) (omega (arith, left token 256 [] is))) in
      let long : length path - at ≡ length (b ∷ p) = omega (arith, size) in
      let part : part_of path at (length path) ≡ b ∷ prefix p =
      ap (λ v. cond (v && leb (length path) (length path)) (take (length path - at) (drop at path)) [])
      (le-leb at (length path) (omega (arith, size)))
      ∙ ap (λ v. cond v (take (length path - at) (drop at path)) []) (le-leb (length path) (length path) (omega arith))
      ∙ ap (take (length path - at)) here ∙ ap (λ k. take k (b ∷ p)) long
      ∙ take_all (length (b ∷ p)) (b ∷ p) (omega arith) ∙ ap (λ t. b ∷ t) (sym (nothing_left p f)) in
      at_parameter token at [] (n ∷ []) is
      ∙ ap (λ e. (part_of text n.0 n.1, part_of path at e) ∷ []) stop
      ∙ ap (λ v. (part_of text n.0 n.1, v) ∷ []) part

  -- another takes all up to the next slash
  module _ (token at b y : ℕ) (p rest : List ℕ) (is : drop token pattern ≡ 256 ∷ y ∷ rest) (here : drop at path ≡ b ∷ p)
      (size : at + length (b ∷ p) ≡ length path)
      (slash : y ≡ 47) (apart : (b == 47) ≡ false) (f : fits (y ∷ rest) (suffix p) ≡ true) where
    whole : length (prefix p) + length (suffix p) ≡ length p
    whole = sym (length-append (prefix p) (suffix p)) ∙ ap length (prefix_after p)

    stop : wild_stop pattern token path at ≡ at + (length (prefix p) + 1)
    stop =
        let more =
        stop_is token at (y ∷ rest) true is
        (lt-ltb (token + 1) (length pattern) (omega (arith, left token 256 (y ∷ rest) is))) in
        let one : length (segment (drop (token + 1) pattern)) ≡ 1 =
        ap (λ l. length (segment l)) (dropped token 256 (y ∷ rest) is) ∙ ap (λ z. length (segment (z ∷ rest))) slash in
        let long : length (segment (drop at path)) ≡ length (prefix p) + 1 + 1 =
        ap (λ l. length (segment l)) here ∙ ap (λ v. length (cond v (b ∷ []) (b ∷ segment p))) apart
        ∙ ap suc (segment_prefix p (some_slash y rest p f)) ∙ omega arith in
        more ∙ omega (arith, one, long)

    part : part_of path at (at + (length (prefix p) + 1)) ≡ b ∷ prefix p
    part =
        let long : at + (length (prefix p) + 1) - at ≡ suc (length (prefix p)) = omega arith in
        ap (λ v. cond (v && leb (at + (length (prefix p) + 1)) (length path))
        (take (at + (length (prefix p) + 1) - at) (drop at path)) [])
        (le-leb at (at + (length (prefix p) + 1)) (omega arith))
        ∙ ap (λ v. cond v (take (at + (length (prefix p) + 1) - at) (drop at path)) [])
        (le-leb (at + (length (prefix p) + 1)) (length path) (omega (arith, size, whole)))
        ∙ ap (take (at + (length (prefix p) + 1) - at)) here ∙ ap (λ k. take k (b ∷ p)) long
        ∙ ap (λ t. b ∷ t) (take_prefix p)

    next : after_token token ≡ token + 1
    next = min-eq_left (omega (arith, short, left token 256 (y ∷ rest) is))

    behind_present : drop (at + (length (prefix p) + 1)) path ≡ suffix p
    behind_present =
        let long : length (prefix p) + 1 ≡ suc (length (prefix p)) = omega arith in
        sym (drop-drop (length (prefix p) + 1) at path) ∙ ap (drop (length (prefix p) + 1)) here
        ∙ ap (λ k. drop k (b ∷ p)) long ∙ drop_prefix p

    behind_size : at + (length (prefix p) + 1) + length (suffix p) ≡ length path
    behind_size = omega (arith, size, whole)

    at_slash : (n : ℕ × ℕ) (names : List (ℕ × ℕ)) → walk pattern text path (n ∷ names) token at
        ≡ (part_of text n.0 n.1, b ∷ prefix p) ∷ walk pattern text path names (token + 1) (at + (length (prefix p) + 1))
    at_slash n names =
        at_parameter token at (y ∷ rest) (n ∷ names) is
        ∙ ap (λ e. (part_of text n.0 n.1, part_of path at e) ∷ walk pattern text path names (after_token token) e) stop
        ∙ ap (λ v. (part_of text n.0 n.1, v)
        ∷ walk pattern text path names (after_token token) (at + (length (prefix p) + 1))) part
        ∙ ap (λ t. (part_of text n.0 n.1, b ∷ prefix p) ∷ walk pattern text path names t (at + (length (prefix p) + 1)))
        next

  -- the walk, from a place on, gives each name what its parameter stands for
  abbrev Walks : List ℕ → Type 0
  Walks pat =
      (p : List ℕ) (names : List (ℕ × ℕ)) (token at : ℕ) → drop token pattern ≡ pat → drop at path ≡ p
      → at + length p ≡ length path → length names ≡ parameters_of pat
      → is_plain pat ≡ true → fits pat p ≡ true → walk pattern text path names token at ≡ pairs names (matched pat p)

  over_parameter : (pat : List ℕ) → Walks pat → (b : ℕ) (p : List ℕ) (names : List (ℕ × ℕ)) (token at : ℕ)
      → drop token pattern ≡ 256 ∷ pat → drop at path ≡ b ∷ p → at + length (b ∷ p) ≡ length path
      → length names ≡ parameters_of pat + 1 → is_at_end pat ≡ true → is_plain pat ≡ true → (b == 47) ≡ false
      → fits pat (suffix p) ≡ true
      → walk pattern text path names token at ≡ pairs names ((b ∷ prefix p) ∷ matched pat (suffix p))
  over_parameter [] ih b p names token at is here size count end plain apart f =
      at_last token at b p names is here size count f
  over_parameter (y ∷ rest) ih b p [] token at is here size count end plain apart f = absurd (omega (arith, count))
  over_parameter (y ∷ rest) ih b p (n ∷ names) token at is here size count end plain apart f =
      let slash : y ≡ 47 = grind (arith, nat_tests) in
      at_slash token at b y p rest is here size slash apart f n names
      ∙ ap (λ t. (part_of text n.0 n.1, b ∷ prefix p) ∷ t)
      (ih (suffix p) names (token + 1) (at + (length (prefix p) + 1)) (dropped token 256 (y ∷ rest) is)
      (behind_present token at b y p rest is here size slash apart f)
      (behind_size token at b y p rest is here size slash apart f) (omega (arith, count)) plain f)

  walked : (pat : List ℕ) → Walks pat
  walked [] p [] token at is here size count plain f = refl
  walked [] p (n ∷ names) token at is here size count plain f = absurd (omega (arith, count))
  walked (x ∷ pat) [] names token at is here size count plain f = let h : false ≡ true = f in cc
  walked (x ∷ pat) (b ∷ p) names token at is here size count plain f =
      by (walked pat) (x == 256) refl count f (and_first _ (is_plain pat) plain)
    where
      by : Walks pat → (v : Bool) → (x == 256) ≡ v → length names ≡ cond v (parameters_of pat + 1) (parameters_of pat)
          → cond v (not (b == 47) && fits pat (suffix p)) (x == b && fits pat p) ≡ true
          → (nat_le x 256 && (not v || is_at_end pat)) ≡ true
          → walk pattern text path names token at ≡ pairs names
          (cond v ((b ∷ prefix p) ∷ matched pat (suffix p)) (matched pat p))
      by ih true e count f low =
          let same : x ≡ 256 = grind (arith, nat_tests) in
          over_parameter pat ih b p names token at (is ∙ ap (λ z. z ∷ pat) same) here size count
          (and_last (nat_le x 256) (is_at_end pat) low) (and_last _ (is_plain pat) plain)
          (not_true (b == 47) (and_first (not (b == 47)) (fits pat (suffix p)) f))
          (and_last (not (b == 47)) (fits pat (suffix p)) f)
      by ih false e count f low =
          let most = and_first (nat_le x 256) true low in
          let byte : x < 256 = grind (arith, nat_tests) in
          let within : at < length path = omega (arith, size) in
          over_byte token at x pat names is byte within
          ∙ ih p names (token + 1) (at + 1) (dropped token x pat is) (sym (drop-drop 1 at path) ∙ ap (drop 1) here)
          (omega (arith, size)) count
          (and_last _ (is_plain pat) plain) (and_last (x == b) (fits pat p) f)

  -- the whole walk
  pub walk_used : (names : List (ℕ × ℕ)) → length names ≡ parameters_of pattern → is_plain pattern ≡ true
      → fits pattern path ≡ true
      → walk pattern text path names 0 0 ≡ pairs names (matched pattern path)
  walk_used names count plain f = walked pattern path names 0 0 refl refl (omega arith) count plain f
