-- As many bytes as an archive may have, and 8 more, decide.
use Rattle.std.proofs.Common.{◌≡◌, ℕ, zero, suc, ◌+◌, ◌-◌, ◌<◌, ◌≤◌, Bool, true, false, cond, ltb, eqb, List, [], ◌∷◌}
use Rattle.std.proofs.Common.{◌++◌, length, take, drop, Result, Ok, Err, refl, sym, ap, ◌∙◌, arith, inl, inr}
use Rattle.std.specs.Prelude.{unwrap_or}
use Rattle.std.specs.List.{list_all}
use Rattle.std.specs.Int.{w64, from_le_bytes}
use Rattle.std.proofs.lemmas.Bool.{cases_lt, ltb-false, le-ltb, lt-ltb}
use Rattle.std.proofs.lemmas.List.{length-take, length-take-le, length-drop, take-take, drop-take}
use Rattle.nar.specs.declared.error.NarError.{NarError}
use Rattle.nar.specs.declared.error.NarError.TheVariants.{Truncated, TooLarge, BadPadding}
use Rattle.nar.specs.String.{padded, size_of, length_at, string_of_length, string_at}
use Rattle.nar.specs.Archive.{Part, limit}
use Rattle.nar.specs.Steps.{Symbol, consumed, start, check}
use Rattle.nar.specs.Outcome.{and_then, parts_from, tree_from, outcome_of}
use Rattle.nar.proofs.Grammar.{chosen}
use Rattle.nar.proofs.Strings.{padded_le}
use Rattle.nar.proofs.Faults.{ok_is}
use Rattle.nar.proofs.Feeding.{not_ok, padding_of}
use Rattle.nar.proofs.Decided.{short}

-- the string that was read, with no more of the rest than the room that is left, and 8 bytes
abbrev cut : ℕ → Result (List ℕ × List ℕ) NarError → Result (List ℕ × List ℕ) NarError
cut room (Ok next) = Ok (next.0, take ((room - size_of (length next.0)) + 8) next.1)
cut room (Err e) = Err e

-- the string of length n, and what is after it
abbrev reading : ℕ → List ℕ → Result (List ℕ × List ℕ) NarError
reading n bytes = Ok (take n (drop 8 bytes), drop (size_of n) bytes)

-- where the whole string is there
whole_prefix : (n room : ℕ) (bytes : List ℕ) → size_of n ≤ room → size_of n ≤ length bytes
    → cond (padding_of n (take (room + 8) bytes)) (reading n (take (room + 8) bytes)) (Err BadPadding)
    ≡ cut room (cond (padding_of n bytes) (reading n bytes) (Err BadPadding))
whole_prefix n room bytes fits whole =
    let above = padded_le n in
    let body : drop 8 (take (room + 8) bytes) ≡ take room (drop 8 bytes) =
    ap (λ (k : ℕ). drop 8 (take k bytes)) (omega arith) ∙ drop-take 8 room bytes in
    let text : take n (take room (drop 8 bytes)) ≡ take n (drop 8 bytes) =
    take-take n room (drop 8 bytes) (omega arith) in
    let behind : drop n (take room (drop 8 bytes)) ≡ take (room - n) (drop n (drop 8 bytes)) =
    ap (λ (k : ℕ). drop n (take k (drop 8 bytes))) (omega arith) ∙ drop-take n (room - n) (drop 8 bytes) in
    let fill : take (padded n - n) (take (room - n) (drop n (drop 8 bytes)))
    ≡ take (padded n - n) (drop n (drop 8 bytes)) =
    take-take (padded n - n) (room - n) (drop n (drop 8 bytes)) (omega arith) in
    let after : drop (size_of n) (take (room + 8) bytes) ≡ take ((room - size_of n) + 8) (drop (size_of n) bytes) =
    ap (λ (k : ℕ). drop (size_of n) (take k bytes)) (omega arith)
    ∙ drop-take (size_of n) ((room - size_of n) + 8) bytes in
    let len : length (take n (drop 8 bytes)) ≡ n =
    length-take-le n (drop 8 bytes) (omega (arith, length-drop 8 bytes)) in
    let zeros : padding_of n (take (room + 8) bytes) ≡ padding_of n bytes =
    ap (λ (l : List ℕ). list_all (λ b. eqb b 0) (take (padded n - n) l)) (ap (drop n) body ∙ behind)
    ∙ ap (list_all (λ b. eqb b 0)) fill in
    let front : reading n (take (room + 8) bytes) ≡ cut room (reading n bytes) = rw (body, text, after, len) refl in
    by_padding (padding_of n (take (room + 8) bytes)) (padding_of n bytes) (reading n (take (room + 8) bytes)) zeros
    front
  where
    by_padding : (c b : Bool) (r : Result (List ℕ × List ℕ) NarError) → c ≡ b → r ≡ cut room (reading n bytes)
        → cond c r (Err BadPadding) ≡ cut room (cond b (reading n bytes) (Err BadPadding))
    by_padding c true r e f = rw e f
    by_padding c false r e f = rw e refl

string_prefix : (n room : ℕ) (bytes : List ℕ)
    → string_of_length n room (take (room + 8) bytes) ≡ cut room (string_of_length n room bytes)
unfolding string_of_length
string_prefix n room bytes =
    let len = length-take (room + 8) bytes in
    elim (cases_lt (length bytes) 8) [
      | inl a ↦
          let one : ltb (length bytes) 8 ≡ true = lt-ltb _ _ a in
          let two : ltb (length (take (room + 8) bytes)) 8 ≡ true = lt-ltb _ _ (omega arith) in
          rw (one, two) refl
      | inr a ↦
          let one : ltb (length bytes) 8 ≡ false = le-ltb _ _ a in
          let two : ltb (length (take (room + 8) bytes)) 8 ≡ false = le-ltb _ _ (omega arith) in
          elim (cases_lt room (size_of n)) [
            | inl b ↦ (let large : ltb room (size_of n) ≡ true = lt-ltb _ _ b in rw (one, two, large) refl)
            | inr b ↦
                let fits : ltb room (size_of n) ≡ false = le-ltb _ _ b in
                elim (cases_lt (length bytes) (size_of n)) [
                  | inl d ↦
                      let three : ltb (length bytes) (size_of n) ≡ true = lt-ltb _ _ d in
                      let four : ltb (length (take (room + 8) bytes)) (size_of n) ≡ true = lt-ltb _ _ (omega arith) in
                      rw (one, two, fits, three, four) refl
                  | inr d ↦
                      let three : ltb (length bytes) (size_of n) ≡ false = le-ltb _ _ d in
                      let four : ltb (length (take (room + 8) bytes)) (size_of n) ≡ false = le-ltb _ _ (omega arith) in
                      rw (one, two, fits, three, four) (whole_prefix n room bytes b d)
                ]
          ]
    ]

string_at_prefix : (room : ℕ) (bytes : List ℕ)
    → string_at room (take (room + 8) bytes) ≡ cut room (string_at room bytes)
string_at_prefix room bytes =
    let same : length_at (take (room + 8) bytes) ≡ length_at bytes =
    ap (from_le_bytes w64) (take-take 8 (room + 8) bytes (omega arith)) in
    ap (λ (n : ℕ). string_of_length n room (take (room + 8) bytes)) same ∙ string_prefix (length_at bytes) room bytes

-- a string takes bytes
shorter_of : (n room : ℕ) (bytes s rest : List ℕ) → string_of_length n room bytes ≡ Ok (s, rest)
    → length rest < length bytes
unfolding string_of_length
shorter_of n room bytes s rest e =
    elim (chosen (ltb (length bytes) 8) _ _ _ e) [
      | inl a ↦ not_ok Truncated (s, rest) a.1
      | inr a ↦ elim (chosen (ltb room (size_of n)) _ _ _ a.1) [
        | inl b ↦ not_ok TooLarge (s, rest) b.1
        | inr b ↦ elim (chosen (ltb (length bytes) (size_of n)) _ _ _ b.1) [
          | inl d ↦ not_ok Truncated (s, rest) d.1
          | inr d ↦ elim (chosen (padding_of n bytes) _ _ _ d.1) [
            | inl z ↦
                let long = ltb-false _ _ a.0 in
                let q = ok_is (reading n bytes) (take n (drop 8 bytes), drop (size_of n) bytes) (s, rest) refl z.1 in
                let same : drop (size_of n) bytes ≡ rest = ap (λ (p : List ℕ × List ℕ). p.1) q in
                omega (arith, ap length same, length-drop (size_of n) bytes)
            | inr z ↦ not_ok BadPadding (s, rest) z.1
          ]
        ]
      ]
    ]

-- ---- the parts

none_read : (steps : ℕ) (x : Symbol) (κ : List Symbol) (room : ℕ) (bytes : List ℕ) → length bytes < 8
    → parts_from steps (x ∷ κ) room bytes ≡ Err Truncated
none_read zero x κ room bytes h = refl
none_read (suc steps) x κ room bytes h = rw (short room bytes h) refl

parts_prefix : (m n : ℕ) (σ : List Symbol) (room : ℕ) (bytes : List ℕ) → length (take (room + 8) bytes) ≤ m
    → length bytes ≤ n → parts_from m σ room (take (room + 8) bytes) ≡ parts_from n σ room bytes
parts_prefix m n [] room [] h k =
    let some : room + 8 ≡ suc (room + 7) = omega arith in
    ap (λ (j : ℕ). parts_from m [] room (take j [])) some
parts_prefix m n [] room (b ∷ bytes) h k =
    let some : room + 8 ≡ suc (room + 7) = omega arith in
    ap (λ (j : ℕ). parts_from m [] room (take j (b ∷ bytes))) some
parts_prefix m zero (x ∷ κ) room bytes h k =
    none_read m x κ room (take (room + 8) bytes) (omega (arith, length-take (room + 8) bytes))
parts_prefix zero n (x ∷ κ) room bytes h k =
    sym (none_read n x κ room bytes (omega (arith, length-take (room + 8) bytes)))
parts_prefix (suc m) (suc n) (x ∷ κ) room bytes h k =
    by_string (string_at room bytes) refl (λ σ left rest one two. parts_prefix m n σ left rest one two)
  where
    by_check : (s rest : List ℕ) (r : Result Part NarError)
        → ((σ : List Symbol) → parts_from m σ (room - size_of (length s)) (take ((room - size_of (length s)) + 8) rest)
        ≡ parts_from n σ (room - size_of (length s)) rest)
        → and_then r (λ p. and_then (parts_from m (unwrap_or (consumed x p) [] ++ κ) (room - size_of (length s))
        (take ((room - size_of (length s)) + 8) rest)) (λ ps. Ok (p ∷ ps)))
        ≡ and_then r (λ p. and_then (parts_from n (unwrap_or (consumed x p) [] ++ κ) (room - size_of (length s)) rest)
        (λ ps. Ok (p ∷ ps)))
    by_check s rest (Err e) later = refl
    by_check s rest (Ok p) later =
        ap (λ (r : Result (List Part) NarError). and_then r (λ ps. Ok (p ∷ ps)))
        (later (unwrap_or (consumed x p) [] ++ κ))

    by_string : (r : Result (List ℕ × List ℕ) NarError) → string_at room bytes ≡ r
        → ((σ : List Symbol) (left : ℕ) (rest : List ℕ) → length (take (left + 8) rest) ≤ m → length rest ≤ n
        → parts_from m σ left (take (left + 8) rest) ≡ parts_from n σ left rest)
        → parts_from (suc m) (x ∷ κ) room (take (room + 8) bytes) ≡ parts_from (suc n) (x ∷ κ) room bytes
    by_string (Err e) is later = rw (string_at_prefix room bytes, is) refl
    by_string (Ok (s, rest)) is later =
        let front : string_at room (take (room + 8) bytes) ≡ Ok (s, take ((room - size_of (length s)) + 8) rest) =
        string_at_prefix room bytes ∙ ap (cut room) is in
        let one = shorter_of (length_at bytes) room bytes s rest is in
        let two =
        shorter_of (length_at (take (room + 8) bytes)) room (take (room + 8) bytes) s
        (take ((room - size_of (length s)) + 8) rest) front in
        rw (front, is) (by_check s rest (check x s)
        (λ σ. later σ (room - size_of (length s)) rest (omega arith) (omega arith)))

-- ---- the outcome

pub outcome_prefix : (input : List ℕ) → outcome_of (take (limit + 8) input) ≡ outcome_of input
unfolding outcome_of
outcome_prefix input =
    ap (λ (r : Result (List Part) NarError). and_then r (λ ps. Ok (tree_from ps)))
    (parts_prefix (length (take (limit + 8) input)) (length input) start limit input (omega arith) (omega arith))
