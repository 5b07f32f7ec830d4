-- How the pieces of an archive follow on each other, and that what is cut isn't cut again.
use Rattle.std.proofs.Common.{◌≡◌, ℕ, ◌+◌, ◌<◌, ◌≤◌, List, [], ◌∷◌, length, take, drop, add-zero, refl, sym, ap, ◌∙◌}
use Rattle.std.proofs.Common.{arith}
use Rattle.std.specs.Prelude.{pos, ◌==◌, true, false}
use Rattle.std.proofs.lemmas.Bool.{false≢true, eqb-true}
use Rattle.std.proofs.lemmas.List.{take-take, drop-take, length-drop}
use Rattle.tables_world.specs.Pieces.{piece_size, row_part, pieces_by, further_pieces}
use Rattle.tables_world.proofs.Cuts.{cuts_one_way}

pub size : piece_size ≡ 65536
size = (cuts_one_way []).size

-- ---- how many turns are given to the cutting says nothing, if there are enough

pub turns_distinct : (ts us : List ℕ) (n : ℕ) (bytes : List ℕ) → length bytes ≤ length ts → length bytes ≤ length us
    → pieces_by ts n bytes ≡ pieces_by us n bytes
turns_distinct [] [] n bytes h k = refl
turns_distinct [] (u ∷ us) n [] h k = refl
turns_distinct [] (u ∷ us) n (b ∷ bs) h k = absurd (omega (arith, h))
turns_distinct (t ∷ ts) [] n [] h k = refl
turns_distinct (t ∷ ts) [] n (b ∷ bs) h k = absurd (omega (arith, k))
turns_distinct (t ∷ ts) (u ∷ us) n [] h k = refl
turns_distinct (t ∷ ts) (u ∷ us) n (b ∷ bs) h k =
    let shorter = length-drop piece_size (b ∷ bs) in
    let fewer : length (drop piece_size (b ∷ bs)) ≤ length ts = omega (arith, shorter, size, h) in
    let also : length (drop piece_size (b ∷ bs)) ≤ length us = omega (arith, shorter, size, k) in
    ap (λ es. (pos n, take piece_size (b ∷ bs)) ∷ es)
    (turns_distinct ts us (n + 1) (drop piece_size (b ∷ bs)) fewer also)

-- the first piece of some bytes, and those of the rest
pub first_piece : (bytes : List ℕ) (n : ℕ) → 0 < length bytes
    → pieces_by bytes n bytes ≡ (pos n, take piece_size bytes)
    ∷ pieces_by (drop piece_size bytes) (n + 1) (drop piece_size bytes)
first_piece [] n h = absurd (omega (arith, h))
first_piece (b ∷ bs) n h =
    let shorter = length-drop piece_size (b ∷ bs) in
    let fewer : length (drop piece_size (b ∷ bs)) ≤ length bs = omega (arith, shorter, size) in
    ap (λ es. (pos n, take piece_size (b ∷ bs)) ∷ es)
    (turns_distinct bs (drop piece_size (b ∷ bs)) (n + 1) (drop piece_size (b ∷ bs)) fewer (omega arith))

pub no_piece : (turns : List ℕ) (n : ℕ) → pieces_by turns n [] ≡ []
no_piece [] n = refl
no_piece (turn ∷ turns) n = refl

-- the pieces of what follows the first part
pub further : (nar rest : List ℕ) → rest ≡ drop piece_size nar → pieces_by rest 1 rest ≡ further_pieces nar
further nar rest is =
    turns_distinct rest nar 1 rest (omega arith) (omega (arith, ap length is, length-drop piece_size nar))
    ∙ ap (pieces_by nar 1) is

-- ---- what is cut isn't cut again

drop_used : (n : ℕ) (xs : List ℕ) → drop n (take n xs) ≡ []
drop_used n xs = ap (λ k. drop n (take k xs)) (sym (add-zero n)) ∙ drop-take n 0 xs

pub used_once : (nar : List ℕ) → row_part (row_part nar) ≡ row_part nar
used_once nar = take-take piece_size piece_size nar (omega arith)

pub none_further : (nar : List ℕ) → further_pieces (row_part nar) ≡ []
none_further nar = ap (pieces_by (row_part nar) 1) (drop_used piece_size nar) ∙ no_piece (row_part nar) 1

-- ---- whether bytes are left, by the test of that

pub no_end : (xs : List ℕ) → (length xs == 0) ≡ false → 0 < length xs
no_end [] h = absurd (false≢true (sym h))
no_end (x ∷ xs) h = omega arith

pub at_end : (xs : List ℕ) → (length xs == 0) ≡ true → xs ≡ []
at_end xs h = none xs (eqb-true (length xs) 0 h)
  where
    none : (ys : List ℕ) → length ys ≡ 0 → ys ≡ []
    none [] e = refl
    none (y ∷ ys) e = absurd (omega (arith, e))
