-- A text spells some bytes if and only if it is their base 32, and the two directions undo each other.
use Rattle.std.proofs.Common.{◌≡◌, ◌≢◌, ℕ, zero, suc, ◌+◌, ◌-◌, ◌*◌, ◌/◌, ◌%◌, ◌^◌, ◌<◌, ◌≤◌, ◌==◌, nat_lt, Bool, true}
use Rattle.std.proofs.Common.{false, not, cond, List, [], ◌∷◌, ◌++◌, length, take, get_or, length-append, Ok}
use Rattle.std.proofs.Common.{Err, sym, subst, ap, ap₂, refl, ◌∙◌, arith, lit<, take_all}
use Rattle.std.specs.List.{list_all, range_with_len}
use Rattle.std.proofs.lemmas.Bool.{lt-ltb, ltb-true, eq-eqb, ne_eqb}
use Rattle.std.proofs.lemmas.Bool.Decides.{Decides-eqb}
use Rattle.std.proofs.lemmas.List.{take_more}
use Rattle.std.proofs.lemmas.List.Sums.{passes_at_first}
use Rattle.std.proofs.Math.Nat.{pow-succ'}
use Rattle.paths.specs.Base32.{digits, value_of, number_of, digit_count, read_after, all_digits, Spells, digits_of}
use Rattle.paths.specs.Base32.{bytes_of, base32, unbase32}
use Rattle.paths.specs.declared.digits.Base32Error.TheVariants.{BadDigit, BadLength, Overflow}
use Rattle.paths.proofs.Number.{AreBytes, range_passes, number-lt, number-room, read-more, digit-small, digits-push}
use Rattle.paths.proofs.Number.{read-push}

-- the digit of a digit's value is that digit
digit-value : (c : ℕ) → value_of c < 32 → get_or digits (value_of c) 0 ≡ c
unfolding value_of
digit-value c small = (Decides-eqb _ _).0 (passes_at_first (λ d. d == c) digits 0 small)

-- the digits read so far are the last digits of the number read so far
prefix-digits : (text : List ℕ) (i : ℕ) → all_digits text ≡ true → i ≤ length text
    → take i text ≡ digits_of i (read_after 0 (take i text))
unfolding digits_of
prefix-digits text zero all h = refl
prefix-digits text (suc i) all h =
    let c = get_or text i 0 in
    let m = read_after 0 (take i text) in
    let n = read_after 0 (take (suc i) text) in
    let small : value_of c < 32 = digit-small text i all (omega arith) in
    let one : i + 1 ≡ suc i = omega arith in
    let read : n ≡ m * 32 + value_of c =
    ap (λ k. read_after 0 (take k text)) (sym one) ∙ read-more text i (omega arith) in
    let front : n / 32 ≡ m = omega (arith, read) in
    let last : n % 32 ≡ value_of c = omega (arith, read) in
    ap (λ k. take k text) (sym one) ∙ take_more text i 0 (omega arith)
    ∙ ap (λ t. t ++ c ∷ []) (prefix-digits text i all (omega arith))
    ∙ ap (λ d. digits_of i m ++ d ∷ []) (sym (digit-value c small))
    ∙ ap₂ (λ q r. digits_of i q ++ get_or digits r 0 ∷ []) (sym front) (sym last)

-- a text of digits is the digits of its number
text-digits : (text : List ℕ) → all_digits text ≡ true → text ≡ digits_of (length text) (read_after 0 text)
text-digits text all =
    let whole : take (length text) text ≡ text = take_all (length text) text (omega arith) in
    sym whole ∙ prefix-digits text (length text) all (omega arith)
    ∙ ap (λ t. digits_of (length text) (read_after 0 t)) whole

-- bytes are the bytes of their number
pub bytes-number : (bs : List ℕ) → AreBytes bs → bytes_of (length bs) (number_of bs) ≡ bs
unfolding bytes_of
bytes-number [] bytes = refl
bytes-number (b ∷ bs) bytes =
    let n = b + 256 * number_of bs in
    let small : b < 256 = bytes 0 in
    let low : n % 256 ≡ b = omega arith in
    let rest : n / 256 ≡ number_of bs = omega arith in
    ap₂ (λ x xs. x ∷ xs) low (ap (bytes_of (length bs)) rest ∙ bytes-number bs (λ i. bytes (suc i)))

length-bytes : (k n : ℕ) → length (bytes_of k n) ≡ k
unfolding bytes_of
length-bytes zero n = refl
length-bytes (suc k) n = omega (arith, length-bytes k (n / 256))

-- a number is that of its bytes, where they have room for it
number-bytes : (k n : ℕ) → n < 256 ^ k → number_of (bytes_of k n) ≡ n
unfolding bytes_of
number-bytes zero n h = omega arith
number-bytes (suc k) n h =
    let room : n / 256 < 256 ^ k = omega (arith, pow-succ' 256 k) in
    omega (arith, number-bytes k (n / 256) room)

-- one text at most spells some bytes
pub spelled : (text bytes : List ℕ) → Spells text bytes → text ≡ base32 bytes
unfolding base32
spelled text bytes s = text-digits text s.digits ∙ ap₂ digits_of s.count s.number

-- the three tests of `unbase32`
tests_pass : (a b c : Bool) (bs : List ℕ) → a ≡ true → b ≡ true → c ≡ true
    → cond (not a) (Err BadDigit) (cond (not b) (Err BadLength) (cond (not c) (Err Overflow) (Ok bs))) ≡ Ok bs
tests_pass a b c bs ea eb ec =
    ap (λ x. cond (not x) (Err BadDigit) (cond (not b) (Err BadLength) (cond (not c) (Err Overflow) (Ok bs)))) ea
    ∙ ap (λ x. cond (not x) (Err BadLength) (cond (not c) (Err Overflow) (Ok bs))) eb
    ∙ ap (λ x. cond (not x) (Err Overflow) (Ok bs)) ec

passed_tests : (a b c : Bool) (bs cs : List ℕ)
    → cond (not a) (Err BadDigit) (cond (not b) (Err BadLength) (cond (not c) (Err Overflow) (Ok bs))) ≡ Ok cs
    → (a ≡ true) × (b ≡ true) × (c ≡ true) × (bs ≡ cs)
passed_tests true true true bs cs e = (refl, refl, refl, cc)
passed_tests true true false bs cs e = let no : ⊥ = cc in absurd no
passed_tests true false c bs cs e = let no : ⊥ = cc in absurd no
passed_tests false b c bs cs e = let no : ⊥ = cc in absurd no

-- what spells some bytes is read as these bytes
pub read_back : (text bytes : List ℕ) → AreBytes bytes → Spells text bytes → unbase32 text (length bytes) ≡ Ok bytes
unfolding unbase32
read_back text bytes are s =
    let fits : read_after 0 text < 256 ^ length bytes = omega (arith, number-lt bytes are, s.number) in
    tests_pass _ _ _ _ s.digits (eq-eqb _ _ s.count) (lt-ltb _ _ fits)
    ∙ ap Ok (ap (bytes_of (length bytes)) s.number ∙ bytes-number bytes are)

-- what is read as some bytes spells them
pub read_spells : (text : List ℕ) (n : ℕ) (bytes : List ℕ) → unbase32 text n ≡ Ok bytes
    → Spells text bytes × (length bytes ≡ n)
unfolding unbase32
read_spells text n bytes e =
    let passed = passed_tests _ _ _ _ _ e in
    let counted : length text ≡ digit_count n = (Decides-eqb _ _).0 passed.1 in
    let fits : read_after 0 text < 256 ^ n = ltb-true _ _ passed.2 in
    let count : length bytes ≡ n = ap length (sym passed.3) ∙ length-bytes n (read_after 0 text) in (
      record {
        count = counted ∙ ap digit_count (sym count);
        digits = passed.0;
        number = sym (number-bytes n (read_after 0 text) fits) ∙ ap number_of passed.3;
      },
      count,
    )

-- the refusals of `unbase32`, in their order
pub refused-digit : (text : List ℕ) (n : ℕ) → all_digits text ≡ false → unbase32 text n ≡ Err BadDigit
unfolding unbase32
refused-digit text n e =
    ap (λ x. cond (not x) (Err BadDigit)
    (cond (not (length text == digit_count n)) (Err BadLength)
    (cond (not (nat_lt (read_after 0 text) (256 ^ n))) (Err Overflow) (Ok (bytes_of n (read_after 0 text)))))) e

pub refused-length : (text : List ℕ) (n : ℕ) → all_digits text ≡ true → length text ≢ digit_count n
    → unbase32 text n ≡ Err BadLength
unfolding unbase32
refused-length text n e other =
    ap (λ x. cond (not x) (Err BadDigit)
    (cond (not (length text == digit_count n)) (Err BadLength)
    (cond (not (nat_lt (read_after 0 text) (256 ^ n))) (Err Overflow) (Ok (bytes_of n (read_after 0 text)))))) e
    ∙ ap (λ x. cond (not x) (Err BadLength)
    (cond (not (nat_lt (read_after 0 text) (256 ^ n))) (Err Overflow) (Ok (bytes_of n (read_after 0 text)))))
    (ne_eqb (length text) (digit_count n) other)

pub refused-number : (text : List ℕ) (n : ℕ) → all_digits text ≡ true → length text ≡ digit_count n
    → nat_lt (read_after 0 text) (256 ^ n) ≡ false → unbase32 text n ≡ Err Overflow
unfolding unbase32
refused-number text n e counted large =
    ap (λ x. cond (not x) (Err BadDigit)
    (cond (not (length text == digit_count n)) (Err BadLength)
    (cond (not (nat_lt (read_after 0 text) (256 ^ n))) (Err Overflow) (Ok (bytes_of n (read_after 0 text)))))) e
    ∙ ap (λ x. cond (not x) (Err BadLength)
    (cond (not (nat_lt (read_after 0 text) (256 ^ n))) (Err Overflow) (Ok (bytes_of n (read_after 0 text)))))
    (eq-eqb _ _ counted)
    ∙ ap (λ x. cond (not x) (Err Overflow) (Ok (bytes_of n (read_after 0 text)))) large

-- ---- the digits of a number

digit-table : list_all (λ d. value_of (get_or digits d 0) == d) (range_with_len 0 32) ≡ true
unfolding value_of
digit-table = refl

value-digit : (v : ℕ) → v < 32 → value_of (get_or digits v 0) ≡ v
value-digit v small =
    (Decides-eqb _ _).0 (range_passes (λ d. value_of (get_or digits d 0) == d) 0 32 digit-table v v small (omega arith))

pub length-digits : (k n : ℕ) → length (digits_of k n) ≡ k
unfolding digits_of
length-digits zero n = refl
length-digits (suc k) n =
    omega (arith, length-append (digits_of k (n / 32)) (get_or digits (n % 32) 0 ∷ []), length-digits k (n / 32))

pub all-digits : (k n : ℕ) → all_digits (digits_of k n) ≡ true
unfolding digits_of
all-digits zero n = refl
all-digits (suc k) n =
    let last : n % 32 < 32 = omega arith in
    let small : value_of (get_or digits (n % 32) 0) < 32 = omega (arith, value-digit (n % 32) last) in
    digits-push (digits_of k (n / 32)) (get_or digits (n % 32) 0) (all-digits k (n / 32)) small

-- digits that have room for a number are read as it
digits-number : (k n : ℕ) → n < 32 ^ k → read_after 0 (digits_of k n) ≡ n
unfolding digits_of
digits-number zero n h = omega arith
digits-number (suc k) n h =
    let last : n % 32 < 32 = omega arith in
    let room : n / 32 < 32 ^ k = omega (arith, pow-succ' 32 k) in
    omega (
      arith,
      read-push 0 (digits_of k (n / 32)) (get_or digits (n % 32) 0),
      digits-number k (n / 32) room,
      value-digit (n % 32) last,
    )

-- the base 32 of bytes spells them
pub base32-spells : (bytes : List ℕ) → AreBytes bytes → Spells (base32 bytes) bytes
unfolding base32
base32-spells bytes are =
    let k = digit_count (length bytes) in
    let n = number_of bytes in
    record {
      count = length-digits k n;
      digits = all-digits k n;
      number = digits-number k n (number-room bytes are);
    }

-- the digits of a digest folded to 20 bytes
pub base32-count : (bytes : List ℕ) → length bytes ≡ 20 → length (base32 bytes) ≡ 32
unfolding base32
base32-count bytes h = length-digits (digit_count (length bytes)) (number_of bytes) ∙ ap digit_count h

pub base32-digits : (bytes : List ℕ) → all_digits (base32 bytes) ≡ true
unfolding base32
base32-digits bytes = all-digits (digit_count (length bytes)) (number_of bytes)

-- what is read is bytes
bytes_of-bytes : (k n : ℕ) → AreBytes (bytes_of k n)
unfolding bytes_of
bytes_of-bytes zero n i = lit< tt
bytes_of-bytes (suc k) n zero = omega arith
bytes_of-bytes (suc k) n (suc i) = bytes_of-bytes k (n / 256) i

pub read-bytes : (text : List ℕ) (n : ℕ) (bytes : List ℕ) → unbase32 text n ≡ Ok bytes → AreBytes bytes
unfolding unbase32
read-bytes text n bytes e = subst AreBytes (passed_tests _ _ _ _ _ e).3 (bytes_of-bytes n (read_after 0 text))
