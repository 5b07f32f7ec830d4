-- Texts that lack a byte.
use Rattle.std.proofs.Common.{◌≡◌, ℕ, suc, zero, ◌+◌, ◌≤◌, ◌<◌, ◌/◌, ◌%◌, List, [], ◌∷◌, ◌++◌, Bool, true, false, cond}
use Rattle.std.proofs.Common.{not, ◌&&◌, ◌==◌, length, take, drop, slice_index, decimal, refl, sym, ap, ◌∙◌, IsTrue}
use Rattle.std.proofs.Common.{arith, nat_lt, subst, take-append-drop, drop-cons}
use Rattle.std.specs.List.{list_all}
use Rattle.std.specs.Fmt.{digits, digits_onto, digit_glyph}
use Rattle.std.proofs.lemmas.Bool.{and_parts, ne_eqb, false≢true}
use Rattle.std.proofs.lemmas.List.Folds.{list_all-append}
use Rattle.report.specs.Laws.{omits}

pub both : (a b : Bool) → IsTrue a → IsTrue b → IsTrue (a && b)
both true b p q = q
both false b p q = p

-- a byte that fails a test isn't one that passes it
distinct : (p : ℕ → Bool) (byte b : ℕ) → p byte ≡ false → IsTrue (p b) → IsTrue (not (b == byte))
distinct p byte b fails passes = ap not (ne_eqb b byte (λ e. false≢true (sym fails ∙ ap p (sym e) ∙ passes)))

-- where each byte passes a test, and this one doesn't, the text lacks it
pub omits_failing : (p : ℕ → Bool) (byte : ℕ) → p byte ≡ false → (text : List ℕ) → IsTrue (list_all p text)
    → IsTrue (omits byte text)
omits_failing p byte fails [] h = refl
omits_failing p byte fails (b ∷ bs) h =
    let parts = and_parts (p b) (list_all p bs) h in
    both (not (b == byte)) (omits byte bs) (distinct p byte b fails parts.0) (omits_failing p byte fails bs parts.1)

pub omits_both : (byte : ℕ) (xs ys : List ℕ) → IsTrue (omits byte xs) → IsTrue (omits byte ys)
    → IsTrue (omits byte (xs ++ ys))
omits_both byte xs ys p q = list_all-append (λ b. not (b == byte)) xs ys ∙ both (omits byte xs) (omits byte ys) p q

-- ---- numbers

glyph_above : (d : ℕ) → 48 ≤ digit_glyph false d
glyph_above d = elim (nat_lt d 10) as (λ b. 48 ≤ cond b (48 + d) (87 + d)) [ true ↦ omega arith | false ↦ omega arith ]

glyph_omits : (byte d : ℕ) → byte < 48 → IsTrue (not (digit_glyph false d == byte))
glyph_omits byte d low = ap not (ne_eqb (digit_glyph false d) byte (λ e. above (digit_glyph false d) e (glyph_above d)))
  where
    above : (g : ℕ) → g ≡ byte → 48 ≤ g → ⊥
    above g e h = omega (arith, e, h, low)

onto_omits : (byte k n : ℕ) (acc : List ℕ) → byte < 48 → IsTrue (omits byte acc)
    → IsTrue (omits byte (digits_onto k 10 false n acc))
onto_omits byte zero n acc low h = h
onto_omits byte (suc k) n acc low h =
    let more = both (not (digit_glyph false (n % 10) == byte)) (omits byte acc) (glyph_omits byte (n % 10) low) h in
    elim (n / 10 == 0) as (λ b. IsTrue
    (omits byte (cond b (digit_glyph false (n % 10) ∷ acc)
    (digits_onto k 10 false (n / 10) (digit_glyph false (n % 10) ∷ acc))))) [
      | true ↦ more
      | false ↦ onto_omits byte k (n / 10) (digit_glyph false (n % 10) ∷ acc) low more
    ]

pub omits-decimal : (byte n : ℕ) → byte < 48 → IsTrue (omits byte (decimal n))
unfolding digits
omits-decimal byte n low = onto_omits byte 64 n [] low refl

-- ---- pieces

-- a text whose prefix, one byte and rest are without the byte
pub omits_pieces : (byte : ℕ) (text : List ℕ) (i : ℕ) → i < length text → IsTrue (omits byte (take i text))
    → IsTrue (not (slice_index text i == byte)) → IsTrue (omits byte (drop (suc i) text))
    → IsTrue (omits byte text)
omits_pieces byte text i inside prefix one rest =
    let joined =
    omits_both byte (take i text) (slice_index text i ∷ drop (suc i) text) prefix
    (both (not (slice_index text i == byte)) (omits byte (drop (suc i) text)) one rest) in
    subst (λ t. IsTrue (omits byte t))
    (ap (λ d. take i text ++ d) (sym (drop-cons text i 0 inside)) ∙ take-append-drop i text) joined
