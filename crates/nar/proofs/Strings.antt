-- A string that is read is the one that was written, and what was written is read again.
use Rattle.std.proofs.Common.{◌≡◌, ℕ, zero, suc, ◌+◌, ◌-◌, ◌%◌, ◌^◌, ◌<◌, ◌≤◌, Bool, true, false, cond, eqb, ltb, List}
use Rattle.std.proofs.Common.{[], ◌∷◌, ◌++◌, length, take, drop, replicate, Result, Ok, Err, refl, sym, ap, ap₂, subst}
use Rattle.std.proofs.Common.{◌∙◌, append_assoc, arith, inl, inr}
use Rattle.std.specs.List.{list_all}
use Rattle.std.specs.Int.{w64, from_le_bytes, to_le_bytes}
use Rattle.std.proofs.lemmas.Bool.{cases_lt, ltb-false, le-ltb, eqb-true, and_parts}
use Rattle.std.proofs.lemmas.List.{take_at, drop_at, take-append-drop, length-append, length-take, length-take-le}
use Rattle.std.proofs.lemmas.List.{length-drop, drop-drop, get_or-drop, get_or-take, get_or_past, length-replicate}
use Rattle.std.proofs.lemmas.List.{take-replicate, take_rest}
use Rattle.std.proofs.lemmas.Nat.{le_bytes_8, from_le_bytes-to_le_bytes_8}
use Rattle.nar.specs.declared.error.NarError.{NarError}
use Rattle.nar.specs.declared.error.NarError.TheVariants.{Truncated, TooLarge, BadPadding}
use Rattle.nar.specs.Tree.{IsBytes}
use Rattle.nar.specs.String.{padded, size_of, string, length_at, string_of_length, string_at}
use Rattle.nar.specs.Reader.{ReadsString}

pub IsBytes-drop : (n : ℕ) (bytes : List ℕ) → IsBytes bytes → IsBytes (drop n bytes)
IsBytes-drop n bytes h i = rw get_or-drop (h (n + i))

pub IsBytes-take : (n : ℕ) (bytes : List ℕ) → IsBytes bytes → IsBytes (take n bytes)
IsBytes-take n bytes h i =
    elim (cases_lt i n) [
      | inl lt ↦ rw (get_or-take n bytes i 0 lt) (h i)
      | inr le ↦ rw (get_or_past (take n bytes) i 0 (omega (arith, length-take n bytes))) (omega arith)
    ]

-- a test that did not fail
guard_ok : {A : Type 0} (b : Bool) (d : NarError) (r : Result A NarError) (y : A) → cond b (Err d) r ≡ Ok y
    → (b ≡ false) × (r ≡ Ok y)
guard_ok true d r y e = absurd cc
guard_ok false d r y e = (refl, e)

pass_ok : {A : Type 0} (b : Bool) (d : NarError) (r y : A) → cond b (Ok r) (Err d) ≡ Ok y → (b ≡ true) × (r ≡ y)
pass_ok true d r y e = (refl, cc)
pass_ok false d r y e = absurd cc

zeros : (l : List ℕ) → list_all (λ b. eqb b 0) l ≡ true → l ≡ replicate (length l) 0
zeros [] e = refl
zeros (b ∷ l) e =
    let both = and_parts (eqb b 0) (list_all (λ b. eqb b 0) l) e in
    ap₂ (λ (x : ℕ) (xs : List ℕ). x ∷ xs) (eqb-true b 0 both.0) (zeros l both.1)

are_zeros : (n : ℕ) → list_all (λ b. eqb b 0) (replicate n 0) ≡ true
are_zeros zero = refl
are_zeros (suc n) = are_zeros n

pub padded_le : (n : ℕ) → n ≤ padded n
padded_le n = omega arith

pub length-string : (s : List ℕ) → length (string s) ≡ size_of (length s)
unfolding string
length-string s =
    omega (
      arith,
      length-append (to_le_bytes w64 (length s) ++ s) (replicate (padded (length s) - length s) 0),
      length-append (to_le_bytes w64 (length s)) s,
      length-replicate (padded (length s) - length s) zero,
      padded_le (length s),
    )

-- what was read from the beginning
pub record Takes (room : ℕ) (bytes s rest : List ℕ) : Type 0 where
  pub parts : bytes ≡ string s ++ rest
  pub fits : size_of (length s) ≤ room
  pub text_bytes : IsBytes s
  pub rest_bytes : IsBytes rest

takes_of : (n room : ℕ) (bytes s rest : List ℕ) → IsBytes bytes → n ≡ length_at bytes
    → string_of_length n room bytes ≡ Ok (s, rest) → Takes room bytes s rest
unfolding string_of_length string
takes_of n room bytes s rest h is e =
    let body : List ℕ = drop 8 bytes in
    let g0 = guard_ok (ltb (length bytes) 8) Truncated _ (s, rest) e in
    let g1 = guard_ok (ltb room (size_of n)) TooLarge _ (s, rest) g0.1 in
    let g2 = guard_ok (ltb (length bytes) (size_of n)) Truncated _ (s, rest) g1.1 in
    let g3 =
    pass_ok (list_all (λ b. eqb b 0) (take (padded n - n) (drop n body))) BadPadding
    (take n body, drop (size_of n) bytes) (s, rest) g2.1 in
    let long : size_of n ≤ length bytes = ltb-false _ _ g2.0 in
    let fits : size_of n ≤ room = ltb-false _ _ g1.0 in
    let above = padded_le n in
    let len : length (take n body) ≡ n = length-take-le n body (omega (arith, length-drop 8 bytes)) in
    let gap : length (take (padded n - n) (drop n body)) ≡ padded n - n =
    length-take-le (padded n - n) (drop n body) (omega (arith, length-drop n body, length-drop 8 bytes)) in
    let head : to_le_bytes w64 n ≡ take 8 bytes =
    le_bytes_8 (take 8 bytes) n (length-take-le 8 bytes (ltb-false _ _ g0.0)) (IsBytes-take 8 bytes h) is in
    let fill : take (padded n - n) (drop n body) ≡ replicate (padded n - n) 0 =
    zeros _ g3.0 ∙ ap (λ (k : ℕ). replicate k 0) gap in
    let behind : drop (padded n - n) (drop n body) ≡ drop (size_of n) bytes =
    drop-drop (padded n - n) n body ∙ ap (λ (k : ℕ). drop k body) (omega arith) ∙ drop-drop (padded n) 8 bytes in
    let end : drop n body ≡ replicate (padded n - n) 0 ++ drop (size_of n) bytes =
    sym (take-append-drop (padded n - n) (drop n body)) ∙ ap₂ (λ (x y : List ℕ). x ++ y) fill behind in
    let cut : bytes ≡ to_le_bytes w64 n ++ (take n body ++ (replicate (padded n - n) 0 ++ drop (size_of n) bytes)) =
    sym (take-append-drop 8 bytes)
    ∙ ap₂ (λ (x y : List ℕ). x ++ y) (sym head)
    (sym (take-append-drop n body) ∙ ap (λ (x : List ℕ). take n body ++ x) end) in
    let grouped : to_le_bytes w64 n ++ (take n body ++ (replicate (padded n - n) 0 ++ drop (size_of n) bytes))
    ≡ ((to_le_bytes w64 n ++ take n body) ++ replicate (padded n - n) 0) ++ drop (size_of n) bytes =
    sym (append_assoc (to_le_bytes w64 n ++ take n body) (replicate (padded n - n) 0) (drop (size_of n) bytes)
    ∙ append_assoc (to_le_bytes w64 n) (take n body) (replicate (padded n - n) 0 ++ drop (size_of n) bytes)) in
    let at_n : bytes ≡ ((to_le_bytes w64 n ++ take n body) ++ replicate (padded n - n) 0) ++ drop (size_of n) bytes =
    cut ∙ grouped in
    let whole : bytes ≡ string (take n body) ++ drop (size_of n) bytes =
    subst (λ (k : ℕ). bytes ≡ ((to_le_bytes w64 k ++ take n body) ++ replicate (padded k - k) 0)
    ++ drop (size_of n) bytes) (sym len) at_n in
    let made : Takes room bytes (take n body) (drop (size_of n) bytes) =
    record {
      parts = whole;
      fits = subst (λ (k : ℕ). size_of k ≤ room) (sym len) fits;
      text_bytes = IsBytes-take n body (IsBytes-drop 8 bytes h);
      rest_bytes = IsBytes-drop (size_of n) bytes h;
    } in
    subst (λ (p : List ℕ × List ℕ). Takes room bytes p.0 p.1) g3.1 made

pub string_takes : (room : ℕ) (bytes s rest : List ℕ) → IsBytes bytes → string_at room bytes ≡ Ok (s, rest)
    → Takes room bytes s rest
string_takes room bytes s rest h e = takes_of (length_at bytes) room bytes s rest h refl e

again : (room : ℕ) (head s rest : List ℕ) → length head ≡ 8 → size_of (length s) ≤ room
    → string_of_length (length s) room (head ++ (s ++ (replicate (padded (length s) - length s) 0 ++ rest)))
    ≡ Ok (s, rest)
unfolding string_of_length
again room head s rest len fits =
    let n : ℕ = length s in
    let fill : List ℕ = replicate (padded n - n) 0 in
    let above = padded_le n in
    let filled : length fill ≡ padded n - n = length-replicate (padded n - n) (zero) in
    let all : length (head ++ (s ++ (fill ++ rest))) ≡ 8 + (n + (padded n - n + length rest)) =
    omega (
      arith,
      length-append head (s ++ (fill ++ rest)),
      length-append s (fill ++ rest),
      length-append fill rest,
    ) in
    let a : ltb (length (head ++ (s ++ (fill ++ rest)))) 8 ≡ false = le-ltb _ _ (omega arith) in
    let b : ltb room (size_of n) ≡ false = le-ltb _ _ fits in
    let c : ltb (length (head ++ (s ++ (fill ++ rest)))) (size_of n) ≡ false = le-ltb _ _ (omega arith) in
    let body : drop 8 (head ++ (s ++ (fill ++ rest))) ≡ s ++ (fill ++ rest) =
    drop_at head (s ++ (fill ++ rest)) 8 len in
    let text : take n (s ++ (fill ++ rest)) ≡ s = take_at s (fill ++ rest) n refl in
    let after : drop n (s ++ (fill ++ rest)) ≡ fill ++ rest = drop_at s (fill ++ rest) n refl in
    let gap : take (padded n - n) (fill ++ rest) ≡ fill = take_at fill rest (padded n - n) filled in
    let end : drop (size_of n) (head ++ (s ++ (fill ++ rest))) ≡ rest =
    sym (drop-drop (padded n) 8 (head ++ (s ++ (fill ++ rest)))) ∙ ap (drop (padded n)) body
    ∙ ap (λ (k : ℕ). drop k (s ++ (fill ++ rest))) (omega arith)
    ∙ sym (drop-drop (padded n - n) n (s ++ (fill ++ rest)))
    ∙ ap (drop (padded n - n)) after ∙ drop_at fill rest (padded n - n) filled in
    rw (a, b, c, body, after, gap, text, end, are_zeros (padded n - n)) refl

-- the length that a string begins with
pub length_at-string : (s rest : List ℕ) → length s < 2 ^ 64 → length_at (string s ++ rest) ≡ length s
unfolding string
length_at-string s rest small =
    let n : ℕ = length s in
    let head : List ℕ = to_le_bytes w64 n in
    let fill : List ℕ = replicate (padded n - n) 0 in
    let grouped : string s ++ rest ≡ head ++ (s ++ (fill ++ rest)) =
    append_assoc (head ++ s) fill rest ∙ append_assoc head s (fill ++ rest) in
    ap length_at grouped ∙ ap (from_le_bytes w64) (take_at head (s ++ (fill ++ rest)) 8 refl)
    ∙ from_le_bytes-to_le_bytes_8 n small

pub string_again : (room : ℕ) (s rest : List ℕ) → length s < 2 ^ 64 → size_of (length s) ≤ room
    → string_at room (string s ++ rest) ≡ Ok (s, rest)
unfolding string
string_again room s rest small fits =
    let n : ℕ = length s in
    let head : List ℕ = to_le_bytes w64 n in
    let fill : List ℕ = replicate (padded n - n) 0 in
    let grouped : string s ++ rest ≡ head ++ (s ++ (fill ++ rest)) =
    append_assoc (head ++ s) fill rest ∙ append_assoc head s (fill ++ rest) in
    let len : length_at (string s ++ rest) ≡ n = length_at-string s rest small in
    ap (λ (k : ℕ). string_of_length k room (string s ++ rest)) len ∙ ap (string_of_length n room) grouped
    ∙ again room head s rest refl fits

-- what the code has seen where it gives a string
pub is_read : (room n : ℕ) (bytes text tail after : List ℕ) → IsBytes bytes → n ≡ length_at bytes → 8 ≤ length bytes
    → size_of n ≤ room → size_of n ≤ length bytes
    → text ≡ take n (take (length bytes - 8) (drop 8 bytes)) → tail ≡ drop n (take (length bytes - 8) (drop 8 bytes))
    → list_all (λ b. eqb b 0) (take (size_of n - 8 - n) tail) ≡ true
    → after ≡ take (length bytes - size_of n) (drop (size_of n) bytes)
    → ReadsString room bytes text (room - size_of n) after
unfolding string_of_length
is_read room n bytes text tail after h is long fits whole text_is tail_is zeros_are after_is =
    let body = take_rest bytes 8 in
    let a : ltb (length bytes) 8 ≡ false = le-ltb _ _ long in
    let b : ltb room (size_of n) ≡ false = le-ltb _ _ fits in
    let d : ltb (length bytes) (size_of n) ≡ false = le-ltb _ _ whole in
    let t : text ≡ take n (drop 8 bytes) = text_is ∙ ap (take n) body in
    let u : tail ≡ drop n (drop 8 bytes) = tail_is ∙ ap (drop n) body in
    let v : after ≡ drop (size_of n) bytes = after_is ∙ take_rest bytes (size_of n) in
    let gap : padded n - n ≡ size_of n - 8 - n = omega arith in
    let z : list_all (λ b. eqb b 0) (take (padded n - n) (drop n (drop 8 bytes))) ≡ true =
    ap (λ (k : ℕ). list_all (λ b. eqb b 0) (take k (drop n (drop 8 bytes)))) gap
    ∙ ap (λ (l : List ℕ). list_all (λ b. eqb b 0) (take (size_of n - 8 - n) l)) (sym u) ∙ zeros_are in
    let at_n : string_of_length n room bytes ≡ Ok (take n (drop 8 bytes), drop (size_of n) bytes) =
    rw (a, b, d, z) refl in
    let present : string_at room bytes ≡ Ok (text, after) =
    ap (λ (k : ℕ). string_of_length k room bytes) (sym is) ∙ at_n
    ∙ ap₂ (λ (x y : List ℕ). Ok (x, y)) (sym t) (sym v) in
    let found = string_takes room bytes text after h present in
    let len : length text ≡ n =
    ap length t ∙ length-take-le n (drop 8 bytes) (omega (arith, length-drop 8 bytes, padded_le n)) in
    let size : size_of (length text) + (room - size_of n) ≡ room =
    ap (λ (k : ℕ). size_of k + (room - size_of n)) len ∙ omega arith in
    record { is = present; parts = found.parts; text_bytes = found.text_bytes; size = size }

fill_is : (n zero' : ℕ) → take ((8 - n % 8) % 8) (replicate 8 zero') ≡ replicate (padded n - n) zero'
fill_is n zero' =
    let same : (8 - n % 8) % 8 ≡ padded n - n = omega arith in
    take-replicate ((8 - n % 8) % 8) 8 zero' (omega arith) ∙ ap (λ (k : ℕ). replicate k zero') same

-- what the code has seen where it has written a string
pub is_written : (old text head a b after : List ℕ) → head ≡ to_le_bytes w64 (length text) → a ≡ old ++ head
    → b ≡ a ++ text → after ≡ b ++ take ((8 - length text % 8) % 8) (0 ∷ 0 ∷ 0 ∷ 0 ∷ 0 ∷ 0 ∷ 0 ∷ 0 ∷ [])
    → after ≡ old ++ string text
unfolding string
is_written old text head a b after h ea eb ec =
    let n : ℕ = length text in
    ec ∙ ap₂ (λ (x y : List ℕ). x ++ y) (eb ∙ ap (λ (x : List ℕ). x ++ text) (ea ∙ ap (λ (x : List ℕ). old ++ x) h))
    (fill_is n 0)
    ∙ ap (λ (x : List ℕ). x ++ replicate (padded n - n) 0) (append_assoc old (to_le_bytes w64 n) text)
    ∙ append_assoc old (to_le_bytes w64 n ++ text) (replicate (padded n - n) 0)
