-- The test of how an archive is cut says what the world says of it.
use Rattle.std.proofs.Common.{◌≡◌, ℕ, ◌+◌, ◌≤◌, ℤ, pos, negsuc, List, [], ◌∷◌, ◌++◌, length, Bool, true, not, ◌&&◌}
use Rattle.std.proofs.Common.{refl, sym, ap, ◌∙◌, IsTrue, arith, append_assoc}
use Rattle.std.specs.Prelude.{◌==◌, ◌↔◌, nat_le}
use Rattle.std.proofs.lemmas.Bool.{false≢true}
use Rattle.tables_world.specs.Pieces.{piece_size, joined, GoOn, IsCut}
use Rattle.tables_load_objects.specs.Cut.{is_number, is_next, continues}
use Rattle.tables_load_objects.proofs.Truths.{both_so, and_so}

size : piece_size ≡ 65536
unfolding piece_size
size = refl

is_positive : (z : ℤ) (n : ℕ) → is_number z n ≡ true → z ≡ pos n
is_positive (pos m) n h = let e : m ≡ n = grind (arith, h) in ap pos e
is_positive (negsuc m) n h = absurd (false≢true h)

is_its_own : (n : ℕ) → (n == n) ≡ true
is_its_own n = grind arith

number_so : (z : ℤ) (n : ℕ) → z ≡ pos n → is_number z n ≡ true
number_so z n e = ap (λ x. is_number x n) e ∙ is_its_own n

has_bytes : (n : ℕ) → not (n == 0) ≡ true → 1 ≤ n
has_bytes n h = grind (arith, h)

bytes_so : (n : ℕ) → 1 ≤ n → not (n == 0) ≡ true
bytes_so n h = grind (arith, h)

full : (n : ℕ) → (n == 65536) ≡ true → n ≡ piece_size
full n h = let e : n ≡ 65536 = grind (arith, h) in e ∙ sym size

full_so : (n : ℕ) → n ≡ piece_size → (n == 65536) ≡ true
full_so n e = ap (λ x. x == 65536) (e ∙ size)

no_more : (n : ℕ) → nat_le n 65536 ≡ true → n ≤ piece_size
no_more n h = let e : n ≤ 65536 = grind (arith, h) in omega (arith, e, size)

no_more_so : (n : ℕ) → n ≤ piece_size → nat_le n 65536 ≡ true
no_more_so n h = let e : n ≤ 65536 = omega (arith, h, size) in grind (arith, e)

from_test : (part : List ℕ) (n : ℕ) (es : List (ℤ × List ℕ)) → continues (length part) n es ≡ true → GoOn part n es
from_test part n [] h = no_more (length part) h
from_test part n (e ∷ es) h =
    let both = both_so (is_next (length part) n e) (continues (length e.1) (n + 1) es) h in
    let next = both_so (length part == 65536) (is_number e.0 n && not (length e.1 == 0)) both.0 in
    let piece = both_so (is_number e.0 n) (not (length e.1 == 0)) next.1 in (
      full (length part) next.0,
      is_positive e.0 n piece.0,
      has_bytes (length e.1) piece.1,
      from_test e.1 (n + 1) es both.1,
    )

to_test : (part : List ℕ) (n : ℕ) (es : List (ℤ × List ℕ)) → GoOn part n es → continues (length part) n es ≡ true
to_test part n [] h = no_more_so (length part) h
to_test part n (e ∷ es) h =
    and_so (is_next (length part) n e) (continues (length e.1) (n + 1) es)
    (and_so (length part == 65536) (is_number e.0 n && not (length e.1 == 0)) (full_so (length part) h.0)
    (and_so (is_number e.0 n) (not (length e.1 == 0)) (number_so e.0 n h.1) (bytes_so (length e.1) h.2)))
    (to_test e.1 (n + 1) es h.3)

pub tested_cut : (b : Bool) (row : List ℕ) (parts : List (ℤ × List ℕ)) → b ≡ continues (length row) 1 parts
    → IsTrue b ↔ IsCut row parts
tested_cut b row parts is = (λ h. from_test row 1 parts (sym is ∙ h), λ cut. is ∙ to_test row 1 parts cut)

-- one piece more is copied
pub copied : (all next row : List ℕ) (part : ℤ × List ℕ) (before rest : List (ℤ × List ℕ)) (whole : List ℕ)
    → next ≡ all ++ part.1 → before ≡ part ∷ rest → all ++ joined before ≡ whole → next ++ joined rest ≡ whole
copied all next row part before rest whole is split h =
    ap (λ l. l ++ joined rest) is ∙ append_assoc all part.1 (joined rest) ∙ ap (λ ps. all ++ joined ps) (sym split) ∙ h
