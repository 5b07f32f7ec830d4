-- The archive of a regular file that isn't executable; and that no fault is out of memory.
use Rattle.std.proofs.Common.{◌≡◌, ℕ, ◌+◌, ◌-◌, ◌^◌, ◌<◌, ◌≤◌, true, false, ltb, eqb, List, [], ◌∷◌, ◌++◌, length, take}
use Rattle.std.proofs.Common.{drop, replicate, zero, suc, Result, Ok, Err, refl, sym, ap, ◌∙◌, subst, append_assoc}
use Rattle.std.proofs.Common.{append-nil, arith, ◌⊎◌, inl, inr}
use Rattle.std.specs.Prelude.{codes, MatchResult}
use Rattle.std.specs.List.{AllByRecursion, list_all}
use Rattle.std.specs.Int.{w64, to_le_bytes}
use Rattle.std.proofs.lemmas.Bool.{le-ltb, lt-ltb, cases_lt}
use Rattle.std.proofs.lemmas.List.{length-append}
use Rattle.nar.specs.declared.error.NarError.{NarError}
use Rattle.nar.specs.declared.error.NarError.TheVariants.{TooLarge, Truncated, BadPadding, Trailing, Memory}
use Rattle.nar.specs.String.{padded, string, size_of, string_of_length, string_at}
use Rattle.nar.specs.Tree.{regular, IsBytes}
use Rattle.nar.specs.Archive.{Part, other, spelled, archive, IsShallow, IsArchive, spelling, limit}
use Rattle.nar.specs.Fault.{IsFault, Refuses, Fails}
use Rattle.nar.specs.Steps.{Symbol, word, any, start, AreBytes, FaultAt, stops}
use Rattle.nar.specs.Outcome.{outcome_of}
use Rattle.nar.proofs.Bytes.{IsBytes-nil, IsBytes-cons, IsBytes-append, archive_bytes}
use Rattle.nar.proofs.Strings.{length-string, length_at-string}
use Rattle.nar.proofs.Grammar.{chosen}
use Rattle.nar.proofs.Faults.{before}
use Rattle.nar.proofs.Longest.{found}
use Rattle.nar.proofs.Decided.{outcome_archive, outcome_fault}

-- ---- what is spelled is bytes

replicate_bytes : (n : ℕ) → IsBytes (replicate n 0)
replicate_bytes zero = IsBytes-nil
replicate_bytes (suc n) = IsBytes-cons 0 (replicate n 0) (omega arith) (replicate_bytes n)

length_bytes : (n : ℕ) → IsBytes (to_le_bytes w64 n)
length_bytes n zero = omega arith
length_bytes n (suc zero) = omega arith
length_bytes n (suc (suc zero)) = omega arith
length_bytes n (suc (suc (suc zero))) = omega arith
length_bytes n (suc (suc (suc (suc zero)))) = omega arith
length_bytes n (suc (suc (suc (suc (suc zero))))) = omega arith
length_bytes n (suc (suc (suc (suc (suc (suc zero)))))) = omega arith
length_bytes n (suc (suc (suc (suc (suc (suc (suc zero))))))) = omega arith
length_bytes n (suc (suc (suc (suc (suc (suc (suc (suc i)))))))) = omega arith

string_bytes : (s : List ℕ) → IsBytes s → IsBytes (string s)
unfolding string
string_bytes s h =
    IsBytes-append (to_le_bytes w64 (length s) ++ s) (replicate (padded (length s) - length s) 0)
    (IsBytes-append (to_le_bytes w64 (length s)) s (length_bytes (length s)) h)
    (replicate_bytes (padded (length s) - length s))

pub spelling_bytes : (ps : List Part) → AreBytes ps → IsBytes (spelling ps)
spelling_bytes [] h = IsBytes-nil
spelling_bytes (p ∷ ps) h =
    IsBytes-append (string (spelled p)) (spelling ps) (string_bytes (spelled p) h.0) (spelling_bytes ps h.1)

-- ---- the archive of a file

length-spelling : (p : Part) (ps : List Part)
    → length (spelling (p ∷ ps)) ≡ size_of (length (spelled p)) + length (spelling ps)
length-spelling p ps =
    length-append (string (spelled p)) (spelling ps)
    ∙ ap (λ (k : ℕ). k + length (spelling ps)) (length-string (spelled p))

-- what comes before the contents
abbrev pub head : List Part
head =
    other (codes "nix-archive-1") ∷ other (codes "(") ∷ other (codes "type") ∷ other (codes "regular")
    ∷ other (codes "contents") ∷ []

abbrev pub close : List Part
close = other (codes ")") ∷ []

pub length-head : length (spelling head) ≡ 88
length-head =
    length-spelling (other (codes "nix-archive-1"))
    (other (codes "(") ∷ other (codes "type") ∷ other (codes "regular") ∷ other (codes "contents") ∷ [])
    ∙ ap (λ (k : ℕ). 24 + k) (length-spelling (other (codes "("))
    (other (codes "type") ∷ other (codes "regular") ∷ other (codes "contents") ∷ [])
    ∙ ap (λ (k : ℕ). 16 + k) (length-spelling (other (codes "type"))
    (other (codes "regular") ∷ other (codes "contents") ∷ [])
    ∙ ap (λ (k : ℕ). 16 + k) (length-spelling (other (codes "regular")) (other (codes "contents") ∷ [])
    ∙ ap (λ (k : ℕ). 16 + k) (length-spelling (other (codes "contents")) []))))

length-close : length (spelling close) ≡ 16
length-close = length-spelling (other (codes ")")) []

-- the archive in three
pub in_three : (c : List ℕ) → spelling (archive (regular false c)) ≡ spelling head ++ (string c ++ spelling close)
in_three c =
    let a : List ℕ = string (codes "nix-archive-1") in
    let b : List ℕ = string (codes "(") in
    let d : List ℕ = string (codes "type") in
    let e : List ℕ = string (codes "regular") in
    let f : List ℕ = string (codes "contents") in
    let r : List ℕ = string c ++ spelling close in
    let grouped : (a ++ (b ++ (d ++ (e ++ (f ++ []))))) ++ r ≡ a ++ (b ++ (d ++ (e ++ (f ++ r)))) =
    simp (append_assoc, append-nil {A = ℕ}) in
    sym grouped

pub length-file : (c : List ℕ) → length (spelling (archive (regular false c))) ≡ 112 + padded (length c)
length-file c =
    ap length (in_three c) ∙ omega (
      arith,
      length-append (spelling head) (string c ++ spelling close),
      length-append (string c) (spelling close),
      length-head,
      length-close,
      length-string c,
    )

file_bytes : (c : List ℕ) → IsBytes c → IsBytes (spelling (archive (regular false c)))
file_bytes c h = spelling_bytes (archive (regular false c)) (archive_bytes (regular false c) h)

pub file_is_read : (c : List ℕ) → IsBytes c → 112 + padded (length c) ≤ limit
    → outcome_of (spelling (archive (regular false c))) ≡ Ok (regular false c)
file_is_read c h fits =
    let is : IsArchive (regular false c) (spelling (archive (regular false c))) =
    record {
      legal = h;
      shallow = (tt, (tt, (tt, (tt, (tt, (tt, (tt, tt)))))));
      spells = refl;
      fits = omega (arith, length-file c);
    } in
    (outcome_archive (spelling (archive (regular false c))) (regular false c) (file_bytes c h)).1 is

-- a string that would end past the room
pub past_the_room : (room n : ℕ) (bytes : List ℕ) → 8 ≤ length bytes → room < size_of n
    → string_of_length n room bytes ≡ Err TooLarge
unfolding string_of_length
past_the_room room n bytes long large =
    let a : ltb (length bytes) 8 ≡ false = le-ltb _ _ long in
    let b : ltb room (size_of n) ≡ true = lt-ltb _ _ large in
    rw (a, b) refl

string_past : (room : ℕ) (s rest : List ℕ) → length s < 2 ^ 64 → room < size_of (length s)
    → string_at room (string s ++ rest) ≡ Err TooLarge
string_past room s rest small large =
    let long : 8 ≤ length (string s ++ rest) = omega (arith, length-append (string s) rest, length-string s) in
    ap (λ (n : ℕ). string_of_length n room (string s ++ rest)) (length_at-string s rest small)
    ∙ past_the_room room (length s) (string s ++ rest) long large

-- the machine after what comes before the contents
abbrev left : List Symbol
left = any ∷ word (codes ")") ∷ []

head_shallow : AllByRecursion IsShallow head
head_shallow = (tt, (tt, (tt, (tt, (tt, tt)))))

-- the contents are too large
contents_past : (c : List ℕ) → length c < 2 ^ 64 → limit - 88 < size_of (length c)
    → FaultAt start limit (spelling head ++ (string c ++ spelling close)) TooLarge
contents_past c small large =
    let room : limit - 88 ≡ limit - length (spelling head) = ap (λ (k : ℕ). limit - k) (sym length-head) in
    let present : FaultAt left (limit - 88) (string c ++ spelling close) TooLarge =
    stops (string_past (limit - 88) c (spelling close) small large) in
    before head start left limit (string c ++ spelling close) TooLarge refl head_shallow (omega (arith, length-head))
    (omega arith) (subst (λ (k : ℕ). FaultAt left k (string c ++ spelling close) TooLarge) room present)

-- the bracket after them is
close_past : (c : List ℕ) → size_of (length c) ≤ limit - 88 → limit - 88 - size_of (length c) < 16
    → FaultAt start limit (spelling head ++ (string c ++ spelling close)) TooLarge
close_past c fits large =
    let parts : List Part = head ++ other c ∷ [] in
    let some : spelling parts ++ spelling close ≡ spelling head ++ (string c ++ spelling close) = in_two c in
    let size : length (spelling parts) ≡ 88 + size_of (length c) = length-parts c in
    let room : limit - 88 - size_of (length c) ≡ limit - length (spelling parts) = omega (arith, size) in
    let present : FaultAt (word (codes ")") ∷ []) (limit - 88 - size_of (length c)) (spelling close) TooLarge =
    stops (string_past (limit - 88 - size_of (length c)) (codes ")") [] (omega arith) large) in
    let here =
    before parts start (word (codes ")") ∷ []) limit (spelling close) TooLarge refl
    (tt, (tt, (tt, (tt, (tt, (tt, tt)))))) (omega (arith, size)) (omega arith)
    (subst (λ (k : ℕ). FaultAt (word (codes ")") ∷ []) k (spelling close) TooLarge) room present) in
    subst (λ (v : List ℕ). FaultAt start limit v TooLarge) some here
  where
    in_two : (c : List ℕ) → spelling (head ++ other c ∷ []) ++ spelling close
        ≡ spelling head ++ (string c ++ spelling close)
    in_two c = simp (append_assoc, append-nil {A = ℕ})

    length-parts : (c : List ℕ) → length (spelling (head ++ other c ∷ [])) ≡ 88 + size_of (length c)
    length-parts c =
        let whole : spelling (head ++ other c ∷ []) ≡ spelling head ++ string c =
        simp (append_assoc, append-nil {A = ℕ}) in
        ap length whole ∙ omega (arith, length-append (spelling head) (string c), length-head, length-string c)

file_fault : (c : List ℕ) → length c < 2 ^ 64 → limit < 112 + padded (length c)
    → FaultAt start limit (spelling head ++ (string c ++ spelling close)) TooLarge
file_fault c small large = by_size (cases_lt (limit - 88) (size_of (length c)))
  where
    by_size : (limit - 88 < size_of (length c)) ⊎ (size_of (length c) ≤ limit - 88)
        → FaultAt start limit (spelling head ++ (string c ++ spelling close)) TooLarge
    by_size (inl h) = contents_past c small h
    by_size (inr h) = close_past c h (omega arith)

pub file_is_too_large : (c : List ℕ) → IsBytes c → length c < 2 ^ 64 → limit < 112 + padded (length c)
    → outcome_of (spelling (archive (regular false c))) ≡ Err TooLarge
file_is_too_large c h small large =
    let bytes = file_bytes c h in
    let present =
    subst (λ (v : List ℕ). FaultAt start limit v TooLarge) (sym (in_three c)) (file_fault c small large) in
    (outcome_fault (spelling (archive (regular false c))) TooLarge bytes).1
    (found (spelling (archive (regular false c))) TooLarge bytes present)

-- ---- no fault is out of memory

not_err : {A B : Type 0} (y : A) (d : NarError) → Ok y ≡ Err d → B
not_err y d e = absurd cc

string_of_memory : (n room : ℕ) (bytes : List ℕ) → string_of_length n room bytes ≡ Err Memory → ⊥
unfolding string_of_length
string_of_memory n room bytes e =
    elim (chosen (ltb (length bytes) 8) _ _ _ e) [
      | inl a ↦ (let q : Err Truncated ≡ Err Memory = a.1 in absurd cc)
      | inr a ↦ elim (chosen (ltb room (size_of n)) _ _ _ a.1) [
        | inl b ↦ (let q : Err TooLarge ≡ Err Memory = b.1 in absurd cc)
        | inr b ↦ elim (chosen (ltb (length bytes) (size_of n)) _ _ _ b.1) [
          | inl d ↦ (let q : Err Truncated ≡ Err Memory = d.1 in absurd cc)
          | inr d ↦ elim (chosen (list_all (λ b. eqb b 0) (take (padded n - n) (drop n (drop 8 bytes))))
              (Ok (take n (drop 8 bytes), drop (size_of n) bytes)) (Err BadPadding) (Err Memory) d.1) [
                | inl z ↦ not_err (take n (drop 8 bytes), drop (size_of n) bytes) Memory z.1
                | inr z ↦ (let q : Err BadPadding ≡ Err Memory = z.1 in absurd cc)
              ]
        ]
      ]
    ]

no_memory : (r : Result (List ℕ × List ℕ) NarError) (parts : List Part) → (r ≡ Err Memory → ⊥)
    → MatchResult r (λ next. Refuses parts next.0 Memory) (λ early. Memory ≡ early) → ⊥
no_memory (Ok next) parts h m = m
no_memory (Err e) parts h m = h (ap Err (sym m))

fails_memory : (parts : List Part) (rest : List ℕ) → Fails parts rest Memory → ⊥
fails_memory parts rest (inl w) = (let q : Memory ≡ Trailing = w.2 in absurd cc)
fails_memory parts rest (inr w) =
    no_memory (string_at (limit - length (spelling parts)) rest) parts (λ e. string_of_memory _ _ _ e) w.1

pub memory_is_none : (input : List ℕ) → IsFault input Memory → ⊥
memory_is_none input f = fails_memory f.parts f.rest f.fails
