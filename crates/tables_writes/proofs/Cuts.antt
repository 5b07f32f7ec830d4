-- The further pieces of an archive, by what is left of it.
use Rattle.std.proofs.Common.{◌≡◌, ℕ, ◌+◌, ◌*◌, ◌<◌, ◌≤◌, List, [], ◌∷◌, length, take, drop, refl, sym, ap, ap₂, ◌∙◌}
use Rattle.std.proofs.Common.{arith}
use Rattle.std.specs.Prelude.{ℤ, pos}
use Rattle.std.proofs.lemmas.List.{length-drop, drop-drop}
use Rattle.streams.specs.Cut.{piece_of}
use Rattle.tables_world.specs.Pieces.{piece_size, row_part, pieces_by, further_pieces}
use Rattle.tables_world.proofs.Cuts.{cuts_one_way}

pub size_is : piece_size ≡ 65536
size_is = (cuts_one_way []).size

-- the first piece of an archive is what its row holds
pub row_part_is : (nar : List ℕ) → take 65536 nar ≡ row_part nar
row_part_is nar = ap (λ k. take k nar) (sym size_is)

-- turns enough are all the same
enough : (s t : List ℕ) (n : ℕ) (bytes : List ℕ) → length bytes ≤ length s → length bytes ≤ length t
    → pieces_by s n bytes ≡ pieces_by t n bytes
enough [] [] n bytes h k = refl
enough [] (y ∷ t) n [] h k = refl
enough [] (y ∷ t) n (b ∷ bs) h k = absurd (omega (arith, h))
enough (x ∷ s) [] n [] h k = refl
enough (x ∷ s) [] n (b ∷ bs) h k = absurd (omega (arith, k))
enough (x ∷ s) (y ∷ t) n [] h k = refl
enough (x ∷ s) (y ∷ t) n (b ∷ bs) h k =
    let fewer : length (drop piece_size (b ∷ bs)) ≤ length s =
    omega (arith, length-drop piece_size (b ∷ bs), size_is, h) in
    let few : length (drop piece_size (b ∷ bs)) ≤ length t =
    omega (arith, length-drop piece_size (b ∷ bs), size_is, k) in
    ap (λ l. (pos n, take piece_size (b ∷ bs)) ∷ l) (enough s t (n + 1) (drop piece_size (b ∷ bs)) fewer few)

-- the first of them, and those of what is left
next_piece : (n : ℕ) (bytes : List ℕ) → 0 < length bytes
    → pieces_by bytes n bytes ≡ (pos n, take piece_size bytes)
    ∷ pieces_by (drop piece_size bytes) (n + 1) (drop piece_size bytes)
next_piece n [] some = absurd (omega (arith, some))
next_piece n (b ∷ bs) some =
    let fewer : length (drop piece_size (b ∷ bs)) ≤ length bs =
    omega (arith, length-drop piece_size (b ∷ bs), size_is) in
    ap (λ l. (pos n, take piece_size (b ∷ bs)) ∷ l)
    (enough bs (drop piece_size (b ∷ bs)) (n + 1) (drop piece_size (b ∷ bs)) fewer (omega arith))

-- of nothing there is none
nothing_left : (n : ℕ) (bytes : List ℕ) → length bytes ≡ 0 → pieces_by bytes n bytes ≡ []
nothing_left n [] e = refl
nothing_left n (b ∷ bs) e = absurd (omega (arith, e))

-- ---- of an archive, from the piece at a place on

abbrev pub left_from : ℕ → List ℕ → List (ℤ × List ℕ)
left_from n nar = pieces_by nar n (drop (65536 * n) nar)

-- from the first on they are all
pub all_left : (nar : List ℕ) → left_from 1 nar ≡ further_pieces nar
all_left nar = ap (λ k. pieces_by nar 1 (drop k nar)) (sym size_is)

-- the one at the place, and those after it
pub next_left : (n : ℕ) (nar : List ℕ) → 65536 * n < length nar
    → left_from n nar ≡ (pos n, piece_of n nar) ∷ left_from (n + 1) nar
unfolding piece_of
next_left n nar more =
    let rest = drop (65536 * n) nar in
    let after = drop piece_size rest in
    let some : 0 < length rest = omega (arith, length-drop (65536 * n) nar, more) in
    let few : length rest ≤ length nar = omega (arith, length-drop (65536 * n) nar) in
    let fewer : length after ≤ length nar = omega (arith, length-drop piece_size rest, few) in
    let count : 65536 * n + 65536 ≡ 65536 * (n + 1) = omega arith in
    let behind : after ≡ drop (65536 * (n + 1)) nar =
    ap (λ k. drop k rest) size_is ∙ drop-drop 65536 (65536 * n) nar ∙ ap (λ k. drop k nar) count in
    enough nar rest n rest few (omega arith)
    ∙ next_piece n rest some
    ∙ ap₂ (λ k l. (pos n, take k rest) ∷ l) size_is
    (enough after nar (n + 1) after (omega arith) fewer ∙ ap (pieces_by nar (n + 1)) behind)

-- none, where the archive has ended
pub past_end : (n : ℕ) (nar : List ℕ) → length nar ≤ 65536 * n → left_from n nar ≡ []
past_end n nar end =
    let rest = drop (65536 * n) nar in
    let none : length rest ≡ 0 = omega (arith, length-drop (65536 * n) nar, end) in
    let few : length rest ≤ length nar = omega (arith, length-drop (65536 * n) nar) in
    enough nar rest n rest few (omega arith) ∙ nothing_left n rest none
