-- The part of a text before the first slash, and what follows.
use Rattle.std.proofs.Common.{◌≡◌, ℕ, zero, suc, ◌+◌, ◌<◌, List, [], ◌∷◌, ◌++◌, length, drop, take, get_or, append-nil}
use Rattle.std.proofs.Common.{Bool, true, false, cond, ◌==◌, not, refl, sym, ap, ◌∙◌, arith, subst}
use Rattle.std.proofs.lemmas.List.{get_or-drop, length-append}
use Rattle.std.proofs.lemmas.Bool.Decides.{nat_tests}
use Rattle.std.proofs.lemmas.Str.{IsUtf8-take, IsUtf8-drop, IsUtf8-past_char, encode_ascii}
use Rattle.std.proofs.Math.Seq.{take-append_seam, drop-append_seam}
use Rattle.std.specs.Prelude.{IsUtf8}
use Rattle.std.specs.Str.{IsCharBoundary}
use Rattle.std.specs.List.{before_first, after_first, prefix_len}
use Rattle.matchit.specs.Seek.{segment, has_slash}
use Rattle.wire_requests.specs.Parts.{is_slash, part, after_slashes}
use Rattle.wire_requests.specs.Patterns.{fits, prefix, suffix}
use Rattle.wire_requests.proofs.Texts.{no_slash}

pub prefix_after : (text : List ℕ) → prefix text ++ suffix text ≡ text
prefix_after [] = refl
prefix_after (b ∷ text) = by (b == 47) (prefix_after text)
  where
    by : (v : Bool) → prefix text ++ suffix text ≡ text
        → cond v [] (b ∷ prefix text) ++ cond v (b ∷ text) (suffix text) ≡ b ∷ text
    by true ih = refl
    by false ih = ap (λ t. b ∷ t) ih

pub segment_prefix : (text : List ℕ) → has_slash text ≡ true → length (segment text) ≡ length (prefix text) + 1
segment_prefix [] e = let h : false ≡ true = e in cc
segment_prefix (b ∷ text) e = by (b == 47) e (segment_prefix text)
  where
    by : (v : Bool) → cond v true (has_slash text) ≡ true
        → (has_slash text ≡ true → length (segment text) ≡ length (prefix text) + 1)
        → length (cond v (b ∷ []) (b ∷ segment text)) ≡ length (cond v [] (b ∷ prefix text)) + 1
    by true e ih = refl
    by false e ih = omega (arith, ih e)

pub take_prefix : (text : List ℕ) → take (length (prefix text)) text ≡ prefix text
take_prefix text =
    ap (take (length (prefix text))) (sym (prefix_after text)) ∙ take-append_seam (prefix text) (suffix text)

pub drop_prefix : (text : List ℕ) → drop (length (prefix text)) text ≡ suffix text
drop_prefix text =
    ap (drop (length (prefix text))) (sym (prefix_after text)) ∙ drop-append_seam (prefix text) (suffix text)

pub some_slash : (y : ℕ) (pattern text : List ℕ) → fits (y ∷ pattern) (suffix text) ≡ true → has_slash text ≡ true
some_slash y pattern text f = by (has_slash text) refl
  where
    by : (v : Bool) → has_slash text ≡ v → v ≡ true
    by true e = refl
    by false e = let h : false ≡ true = sym (ap (fits (y ∷ pattern)) (no_slash text e)) ∙ f in cc

pub nothing_left : (text : List ℕ) → fits [] (suffix text) ≡ true → prefix text ≡ text
nothing_left text f = by (suffix text) refl f
  where
    by : (rest : List ℕ) → suffix text ≡ rest → fits [] rest ≡ true → prefix text ≡ text
    by [] e f = sym (append-nil (prefix text)) ∙ ap (λ r. prefix text ++ r) (sym e) ∙ prefix_after text
    by (b ∷ rest) e f = let h : false ≡ true = f in cc

pub before_is_prefix : (text : List ℕ) → prefix text ≡ before_first is_slash text
before_is_prefix [] = refl
before_is_prefix (b ∷ text) = by (b == 47) (before_is_prefix text)
  where
    by : (v : Bool) → prefix text ≡ take (prefix_len (λ c. not (is_slash c)) text) text
        → cond v [] (b ∷ prefix text) ≡ take (cond (not v) (1 + prefix_len (λ c. not (is_slash c)) text) 0) (b ∷ text)
    by true ih = refl
    by false ih =
        let more : 1 + prefix_len (λ c. not (is_slash c)) text ≡ suc (prefix_len (λ c. not (is_slash c)) text) =
        omega arith in ap (λ t. b ∷ t) ih ∙ ap (λ n. take n (b ∷ text)) (sym more)

pub after_is_last : (text : List ℕ) → drop 1 (suffix text) ≡ after_first is_slash text
after_is_last [] = refl
after_is_last (b ∷ text) = by (b == 47) (after_is_last text)
  where
    by : (v : Bool) → drop 1 (suffix text) ≡ drop (prefix_len (λ c. not (is_slash c)) text + 1) text
        → drop 1 (cond v (b ∷ text) (suffix text))
        ≡ drop (cond (not v) (1 + prefix_len (λ c. not (is_slash c)) text) 0 + 1) (b ∷ text)
    by true ih = refl
    by false ih =
        let more : 1 + prefix_len (λ c. not (is_slash c)) text + 1 ≡ suc (prefix_len (λ c. not (is_slash c)) text + 1) =
        omega arith in ih ∙ ap (λ n. drop n (b ∷ text)) (sym more)

pub after_after : (text : List ℕ) → suffix (suffix text) ≡ suffix text
after_after [] = refl
after_after (b ∷ text) = by (b == 47) refl (after_after text)
  where
    by : (v : Bool) → (b == 47) ≡ v → suffix (suffix text) ≡ suffix text
        → suffix (cond v (b ∷ text) (suffix text)) ≡ cond v (b ∷ text) (suffix text)
    by true e ih = ap (λ v. cond v (b ∷ text) (suffix text)) e
    by false e ih = ih

-- ---- parts of a text are texts

slash_next : (text : List ℕ) → get_or (suffix text) 0 0 < 128
slash_next [] = omega arith
slash_next (b ∷ text) = by (b == 47) refl (slash_next text)
  where
    by : (v : Bool) → (b == 47) ≡ v → get_or (suffix text) 0 0 < 128
        → get_or (cond v (b ∷ text) (suffix text)) 0 0 < 128
    by true e ih = let is : b ≡ 47 = grind (arith, nat_tests) in omega (arith, is)
    by false e ih = ih

boundary : (text : List ℕ) → IsCharBoundary text (length (prefix text))
boundary text =
    let size : length (prefix text) + length (suffix text) ≡ length text =
    sym (length-append (prefix text) (suffix text)) ∙ ap length (prefix_after text) in
    let none : length (prefix text) + 0 ≡ length (prefix text) = omega arith in
    let next : get_or (suffix text) 0 0 ≡ get_or text (length (prefix text)) 0 =
    ap (λ t. get_or t 0 0) (sym (drop_prefix text)) ∙ get_or-drop (length (prefix text)) text 0 0
    ∙ ap (λ n. get_or text n 0) none in
    (omega (arith, size), λ within high. absurd (omega (arith, slash_next text, next, high)))

prefix_utf8 : (text : List ℕ) → IsUtf8 text → IsUtf8 (prefix text)
prefix_utf8 text u = subst IsUtf8 (take_prefix text) (IsUtf8-take text (length (prefix text)) u (boundary text))

rest_utf8 : (text : List ℕ) → IsUtf8 text → IsUtf8 (suffix text)
rest_utf8 text u = subst IsUtf8 (drop_prefix text) (IsUtf8-drop text (length (prefix text)) u (boundary text))

beyond_utf8 : (rest : List ℕ) → get_or rest 0 0 < 128 → IsUtf8 rest → IsUtf8 (drop 1 rest)
beyond_utf8 [] low u = u
beyond_utf8 (b ∷ rest) low u = IsUtf8-past_char (b ∷ rest) rest b u (sym (ap (λ t. t ++ rest) (encode_ascii b low)))

after_utf8 : (n : ℕ) (text : List ℕ) → IsUtf8 text → IsUtf8 (after_slashes n text)
after_utf8 zero text u = u
after_utf8 (suc n) text u =
    let before = after_utf8 n text u in
    subst IsUtf8 (after_is_last (after_slashes n text))
    (beyond_utf8 (suffix (after_slashes n text)) (slash_next (after_slashes n text))
    (rest_utf8 (after_slashes n text) before))

pub part_utf8 : (n : ℕ) (text : List ℕ) → IsUtf8 text → IsUtf8 (part n text)
part_utf8 n text u =
    subst IsUtf8 (before_is_prefix (after_slashes n text)) (prefix_utf8 (after_slashes n text) (after_utf8 n text u))
