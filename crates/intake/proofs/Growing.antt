-- Contents that come piece by piece.
use Rattle.std.proofs.Common.{◌≡◌, ℕ, zero, suc, ◌-◌, ◌<◌, ◌≤◌, Bool, true, false, cond, List, [], ◌∷◌, ◌++◌, length}
use Rattle.std.proofs.Common.{take, drop, ap, sym, ◌∙◌, refl, arith, inl, inr}
use Rattle.std.specs.Str.{bytes_eq}
use Rattle.std.specs.Int.{w64, from_le_bytes}
use Rattle.std.proofs.Math.Seq.{take-nil}
use Rattle.std.proofs.lemmas.Bool.{cases_lt}
use Rattle.std.proofs.lemmas.List.{take-append-le, drop-append-le, take-take, drop-take, drop_all, length-drop}
use Rattle.std.proofs.lemmas.List.{length-take, append-nil}
use Rattle.nar.specs.String.{length_at}
use Rattle.nar.proofs.Feeding.{length_at-append}
use Rattle.intake.specs.Contents.{plain_prefix, begins_plain, after_prefix, contents_so_far}

-- ---- what a piece adds to a part of the whole

pub dropped : (n : ℕ) (xs ys : List ℕ) → drop n (xs ++ ys) ≡ drop n xs ++ drop (n - length xs) ys
dropped zero xs ys = let none : 0 ≡ 0 - length xs = omega arith in ap (λ k. xs ++ drop k ys) none
dropped (suc n) [] ys = let all : suc n ≡ suc n - 0 = omega arith in ap (λ k. drop k ys) all
dropped (suc n) (x ∷ xs) ys = let less : n - length xs ≡ suc n - length (x ∷ xs) =
    omega arith in dropped n xs ys ∙ ap (λ k. drop n xs ++ drop k ys) less

pub take_joined : (n : ℕ) (xs ys : List ℕ) → take n (xs ++ ys) ≡ take n xs ++ take (n - length xs) ys
take_joined zero xs ys = let none : 0 ≡ 0 - length xs = omega arith in ap (λ k. take k ys) none
take_joined (suc n) [] ys = let all : suc n ≡ suc n - 0 = omega arith in ap (λ k. take k ys) all
take_joined (suc n) (x ∷ xs) ys = let less : n - length xs ≡ suc n - length (x ∷ xs) =
    omega arith in ap (λ t. x ∷ t) (take_joined n xs ys ∙ ap (λ k. take n xs ++ take k ys) less)

pub take_after_prefix : (d : ℕ) (xs ys : List ℕ)
    → take d (drop 96 (xs ++ ys)) ≡ take d (drop 96 xs) ++ take (d - (length xs - 96)) (drop (96 - length xs) ys)
take_after_prefix d xs ys =
    ap (take d) (dropped 96 xs ys)
    ∙ take_joined d (drop 96 xs) (drop (96 - length xs) ys)
    ∙ ap (λ k. take d (drop 96 xs) ++ take (d - k) (drop (96 - length xs) ys)) (length-drop 96 xs)

-- ---- the contents before a piece

none_yet : (bytes : List ℕ) → length bytes ≤ 96 → contents_so_far bytes ≡ []
none_yet bytes short =
    let gone : after_prefix bytes ≡ [] =
    ap (take (length_at (drop 88 bytes))) (drop_all 96 bytes short) ∙ take-nil (length_at (drop 88 bytes)) in
    by (begins_plain bytes) (after_prefix bytes) gone
  where
    by : (b : Bool) (xs : List ℕ) → xs ≡ [] → cond b xs [] ≡ []
    by true xs e = e
    by false xs e = refl

same_prefix : (old piece : List ℕ) → 96 ≤ length old → begins_plain (old ++ piece) ≡ begins_plain old
same_prefix old piece long = ap (λ t. bytes_eq t plain_prefix) (take-append-le 88 old piece (omega arith))

same_length : (old piece : List ℕ) → 96 ≤ length old → length_at (drop 88 (old ++ piece)) ≡ length_at (drop 88 old)
same_length old piece long =
    ap length_at (drop-append-le 88 old piece (omega arith))
    ∙ length_at-append (drop 88 old) piece (omega (arith, length-drop 88 old))

pub had_plain : (old piece : List ℕ) → begins_plain (old ++ piece) ≡ true
    → contents_so_far old ≡ take (length_at (drop 88 (old ++ piece))) (drop 96 old)
had_plain old piece plain =
    elim (cases_lt (length old) 96) [
      | inl short ↦ none_yet old (omega arith)
          ∙ sym (ap (take (length_at (drop 88 (old ++ piece)))) (drop_all 96 old (omega arith))
          ∙ take-nil (length_at (drop 88 (old ++ piece))))
      | inr long ↦
          ap (λ b. cond b (after_prefix old) []) (sym (same_prefix old piece long) ∙ plain)
          ∙ ap (λ n. take n (drop 96 old)) (sym (same_length old piece long))
    ]

pub had_none : (old piece : List ℕ) → begins_plain (old ++ piece) ≡ false → contents_so_far old ≡ []
had_none old piece other =
    elim (cases_lt (length old) 96) [
      | inl short ↦ none_yet old (omega arith)
      | inr long ↦ ap (λ b. cond b (after_prefix old) []) (sym (same_prefix old piece long) ∙ other)
    ]

-- ---- by the first piece

pub begins_by_first : (first bytes : List ℕ) → first ≡ take 65536 bytes → begins_plain first ≡ begins_plain bytes
begins_by_first first bytes is =
    ap (λ t. bytes_eq t plain_prefix) (ap (take 88) is ∙ take-take 88 65536 bytes (omega arith))

pub length_by_first : (first bytes : List ℕ) → first ≡ take 65536 bytes
    → length_at (drop 88 first) ≡ length_at (drop 88 bytes)
length_by_first first bytes is =
    ap length_at (ap (drop 88) is ∙ drop-take 88 65448 bytes)
    ∙ ap (from_le_bytes w64) (take-take 8 65448 (drop 88 bytes) (omega arith))

-- no contents come while the prefix isn't there
pub too_short : (first old piece : List ℕ) → first ≡ take 65536 (old ++ piece) → length first < 96
    → contents_so_far (old ++ piece) ≡ contents_so_far old ++ []
too_short first old piece is short =
    let all : length (old ++ piece) < 96 = omega (arith, ap length is, length-take 65536 (old ++ piece)) in
    none_yet (old ++ piece) (omega arith) ∙ sym (none_yet old (omega (arith, length_parts old piece)))
    ∙ sym (append-nil (contents_so_far old))
  where
    length_parts : (xs ys : List ℕ) → length xs ≤ length (xs ++ ys)
    length_parts [] ys = omega arith
    length_parts (x ∷ xs) ys = omega (arith, length_parts xs ys)

pub no_plain : (first old piece : List ℕ) → first ≡ take 65536 (old ++ piece) → begins_plain first ≡ false
    → contents_so_far (old ++ piece) ≡ contents_so_far old ++ []
no_plain first old piece is other =
    let none : begins_plain (old ++ piece) ≡ false = sym (begins_by_first first (old ++ piece) is) ∙ other in
    ap (λ b. cond b (after_prefix (old ++ piece)) []) none ∙ sym (had_none old piece none)
    ∙ sym (append-nil (contents_so_far old))

-- what a piece adds, where its archive begins as that of a file
pub more_contents : (first old piece : List ℕ) → first ≡ take 65536 (old ++ piece) → begins_plain first ≡ true
    → contents_so_far (old ++ piece)
    ≡ contents_so_far old ++ take (length_at (drop 88 first) - (length old - 96)) (drop (96 - length old) piece)
more_contents first old piece is plain =
    let all = old ++ piece in
    let plain_all : begins_plain all ≡ true = sym (begins_by_first first all is) ∙ plain in
    let n = length_at (drop 88 all) in
    ap (λ b. cond b (after_prefix all) []) plain_all
    ∙ take_after_prefix n old piece
    ∙ ap (λ t. t ++ take (n - (length old - 96)) (drop (96 - length old) piece)) (sym (had_plain old piece plain_all))
    ∙ ap (λ k. contents_so_far old ++ take (k - (length old - 96)) (drop (96 - length old) piece))
    (sym (length_by_first first all is))
