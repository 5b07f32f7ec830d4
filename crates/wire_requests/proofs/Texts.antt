-- Texts with slashes, and tests on them.
use Rattle.std.proofs.Common.{◌≡◌, ℕ, suc, ◌-◌, ◌<◌, ◌≤◌, List, [], ◌∷◌, length, drop, get_or, Bool, true, false, cond}
use Rattle.std.proofs.Common.{◌==◌, ◌&&◌, not, refl, ap, ◌∙◌, arith, ltb}
use Rattle.std.proofs.lemmas.Bool.{lt-ltb}
use Rattle.std.proofs.lemmas.Bool.Decides.{nat_tests}
use Rattle.std.specs.Prelude.{nat_eq}
use Rattle.std.specs.List.{ends_with}
use Rattle.std.specs.Cmp.Lexicographic.{pointwise}
use Rattle.matchit.specs.Seek.{segment, has_slash, cuts}
use Rattle.wire_requests.specs.Patterns.{fits, suffix}

-- a text with no slash has nothing after its first part
pub no_slash : (text : List ℕ) → has_slash text ≡ false → suffix text ≡ []
no_slash [] e = refl
no_slash (b ∷ text) e = by (b == 47) refl e (no_slash text)
  where
    by : (v : Bool) → (b == 47) ≡ v → cond v true (has_slash text) ≡ false → (has_slash text ≡ false → suffix text ≡ [])
        → cond v (b ∷ text) (suffix text) ≡ []
    by true is e ih = let h : true ≡ false = e in cc
    by false is e ih = ih e

pub with_slash : (text : List ℕ) → has_slash text ≡ true → (rest : List ℕ) × (suffix text ≡ 47 ∷ rest)
with_slash [] e = let h : false ≡ true = e in cc
with_slash (b ∷ text) e = by (b == 47) refl e (with_slash text)
  where
    by : (v : Bool) → (b == 47) ≡ v → cond v true (has_slash text) ≡ true
        → (has_slash text ≡ true → (rest : List ℕ) × (suffix text ≡ 47 ∷ rest))
        → (rest : List ℕ) × (cond v (b ∷ text) (suffix text) ≡ 47 ∷ rest)
    by true is e ih = let same : b ≡ 47 = grind (arith, nat_tests) in (text, ap (λ c. c ∷ text) same)
    by false is e ih = ih e

-- the segment of a text is not empty where the text isn't
pub segment_some : (b : ℕ) (text : List ℕ) → 0 < length (segment (b ∷ text))
segment_some b text = by (b == 47)
  where
    by : (v : Bool) → 0 < length (cond v (b ∷ []) (b ∷ segment text))
    by true = omega arith
    by false = omega arith

pub slash_some : (text : List ℕ) → has_slash text ≡ true → 0 < length (segment text)
slash_some [] e = let h : false ≡ true = e in cc
slash_some (b ∷ text) e = segment_some b text

-- what follows the first part is what is left after the segment, but for its slash
pub after_segment : (text : List ℕ) → has_slash text ≡ true → drop (length (segment text) - 1) text ≡ suffix text
after_segment [] e = refl
after_segment (b ∷ text) e = by (b == 47) e (after_segment text)
  where
    by : (v : Bool) → cond v true (has_slash text) ≡ true
        → (has_slash text ≡ true → drop (length (segment text) - 1) text ≡ suffix text)
        → drop (length (cond v (b ∷ []) (b ∷ segment text)) - 1) (b ∷ text) ≡ cond v (b ∷ text) (suffix text)
    by true e ih = refl
    by false e ih =
        let some = slash_some text e in
        let size : length (b ∷ segment text) - 1 ≡ suc (length (segment text) - 1) = omega arith in
        ap (λ n. drop n (b ∷ text)) size ∙ ih e

-- a segment ends in a slash where the text has one
pub ends_in_slash : (b : ℕ) (text : List ℕ) → (b == 47) ≡ false
    → pointwise nat_eq (47 ∷ []) (drop (length (segment text)) (b ∷ segment text)) ≡ has_slash text
ends_in_slash b [] e = let f : (47 == b) ≡ false = grind (arith, nat_tests) in rw f refl
ends_in_slash b (c ∷ text) e = by (c == 47) refl (ends_in_slash c text)
  where
    by : (v : Bool) → (c == 47) ≡ v
        → ((c == 47) ≡ false → pointwise nat_eq (47 ∷ []) (drop (length (segment text)) (c ∷ segment text))
        ≡ has_slash text)
        → pointwise nat_eq (47 ∷ []) (drop (length (cond v (c ∷ []) (c ∷ segment text)))
        (b ∷ cond v (c ∷ []) (c ∷ segment text))) ≡ cond v true (has_slash text)
    by true is ih = let f : (47 == c) ≡ true = grind (arith, nat_tests) in rw f refl
    by false is ih = ih is

-- where a parameter may stop at a slash
pub cuts_more : (s : List ℕ) (b : ℕ) → 0 < length s
    → cuts (b ∷ s) (47 ∷ []) ≡ pointwise nat_eq (47 ∷ []) (drop (length s) (b ∷ s))
cuts_more s b some =
    let longer : ltb 1 (length (b ∷ s)) ≡ true = lt-ltb 1 (length (b ∷ s)) (omega arith) in
    let size : length (b ∷ s) - 1 ≡ length s = omega arith in
    ap (λ v. v && ends_with nat_eq (b ∷ s) (47 ∷ [])) longer
    ∙ ap (λ n. pointwise nat_eq (47 ∷ []) (drop n (b ∷ s))) size

pub cuts_slash : (b : ℕ) (text : List ℕ) → (b == 47) ≡ false → cuts (segment (b ∷ text)) (47 ∷ []) ≡ has_slash text
cuts_slash b [] e = rw e refl
cuts_slash b (c ∷ text) e =
    ap (λ v. cuts (cond v (b ∷ []) (b ∷ segment (c ∷ text))) (47 ∷ [])) e
    ∙ cuts_more (segment (c ∷ text)) b (segment_some c text)
    ∙ ends_in_slash b (c ∷ text) e

pub cuts_at_slash : (b : ℕ) (text : List ℕ) → (b == 47) ≡ true → cuts (segment (b ∷ text)) (47 ∷ []) ≡ false
cuts_at_slash b text e = rw e refl

pub and_first : (a b : Bool) → (a && b) ≡ true → a ≡ true
and_first true b e = refl
and_first false b e = e

pub and_last : (a b : Bool) → (a && b) ≡ true → b ≡ true
and_last true b e = e
and_last false b e = let h : false ≡ true = e in cc

pub not_true : (a : Bool) → not a ≡ true → a ≡ false
not_true true e = let h : false ≡ true = e in cc
not_true false e = refl

-- each byte is below 256
abbrev pub AllBytes : List ℕ → Type 0
AllBytes text = (i : ℕ) → get_or text i 0 < 256

pub bytes_after : (text : List ℕ) → AllBytes text → AllBytes (suffix text)
bytes_after [] bytes i = bytes i
bytes_after (b ∷ text) bytes i = by (b == 47) (bytes_after text (λ j. bytes (suc j)))
  where
    by : (v : Bool) → AllBytes (suffix text) → get_or (cond v (b ∷ text) (suffix text)) i 0 < 256
    by true ih = bytes i
    by false ih = ih i

pub short_after : (text : List ℕ) → length (suffix text) ≤ length text
short_after [] = omega arith
short_after (b ∷ text) = by (b == 47) (short_after text)
  where
    by : (v : Bool) → length (suffix text) ≤ length text → length (cond v (b ∷ text) (suffix text)) ≤ length (b ∷ text)
    by true ih = omega arith
    by false ih = omega arith

-- a parameter that fits, and a byte
pub fits_parameter : (t : List ℕ) (b : ℕ) (path : List ℕ) → (b == 47) ≡ false → fits t (suffix path) ≡ true
    → fits (256 ∷ t) (b ∷ path) ≡ true
fits_parameter t b path e f = ap (λ v. not v && fits t (suffix path)) e ∙ f

pub fits_byte : (t : List ℕ) (b : ℕ) (path : List ℕ) → b < 256 → fits t path ≡ true → fits (b ∷ t) (b ∷ path) ≡ true
fits_byte t b path byte f =
    let no_parameter : (b == 256) ≡ false = grind (arith, nat_tests) in
    let same : (b == b) ≡ true = grind (arith, nat_tests) in
    ap (λ v. cond v (not (b == 47) && fits t (suffix path)) (b == b && fits t path)) no_parameter
    ∙ ap (λ v. v && fits t path) same ∙ f
