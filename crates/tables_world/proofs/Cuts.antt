-- An archive is cut in one right way.
use Rattle.std.proofs.Common.{◌≡◌, ℕ, ◌+◌, ◌≤◌, List, [], ◌∷◌, ◌++◌, length, take, drop, refl, sym, ap, ◌∙◌, arith}
use Rattle.std.proofs.Common.{length-append}
use Rattle.std.specs.Prelude.{ℤ}
use Rattle.std.proofs.lemmas.List.{append-nil, length-take, length-drop, take-append-drop}
use Rattle.tables_world.specs.Pieces.{piece_size, joined, GoOn, IsCut, row_part, pieces_by, further_pieces}
use Rattle.tables_world.specs.Laws.{CutsOneWay}

pub size : piece_size ≡ 65536
unfolding piece_size
size = refl

some : 1 ≤ piece_size
some = omega (arith, size)

-- ---- the pieces that are computed

pub go_on : (part : List ℕ) (n : ℕ) (turns rest : List ℕ) → length rest ≤ length turns → length part ≤ piece_size
    → (1 ≤ length rest → length part ≡ piece_size) → GoOn part n (pieces_by turns n rest)
go_on part n [] [] many most full = most
go_on part n [] (b ∷ bs) many most full = absurd (omega arith)
go_on part n (turn ∷ turns) [] many most full = most
go_on part n (turn ∷ turns) (b ∷ bs) many most full =
    let loaded : length (take piece_size (b ∷ bs)) ≤ piece_size = omega (arith, length-take piece_size (b ∷ bs)) in
    let one : 1 ≤ length (take piece_size (b ∷ bs)) = omega (arith, length-take piece_size (b ∷ bs), some) in
    let fewer : length (drop piece_size (b ∷ bs)) ≤ length turns =
    omega (arith, length-drop piece_size (b ∷ bs), some) in
    let more : 1 ≤ length (drop piece_size (b ∷ bs)) → length (take piece_size (b ∷ bs)) ≡ piece_size =
    λ h. omega (arith, length-drop piece_size (b ∷ bs), length-take piece_size (b ∷ bs)) in (
      full (omega arith),
      refl,
      one,
      go_on (take piece_size (b ∷ bs)) (n + 1) turns (drop piece_size (b ∷ bs)) fewer loaded more,
    )

all_joined : (n : ℕ) (turns rest : List ℕ) → length rest ≤ length turns → joined (pieces_by turns n rest) ≡ rest
all_joined n [] [] many = refl
all_joined n [] (b ∷ bs) many = absurd (omega arith)
all_joined n (turn ∷ turns) [] many = refl
all_joined n (turn ∷ turns) (b ∷ bs) many =
    let fewer : length (drop piece_size (b ∷ bs)) ≤ length turns =
    omega (arith, length-drop piece_size (b ∷ bs), some) in
    ap (λ l. take piece_size (b ∷ bs) ++ l) (all_joined (n + 1) turns (drop piece_size (b ∷ bs)) fewer)
    ∙ take-append-drop piece_size (b ∷ bs)

pub cut_right : (nar : List ℕ) → IsCut (row_part nar) (further_pieces nar)
cut_right nar =
    go_on (take piece_size nar) 1 nar (drop piece_size nar) (omega (arith, length-drop piece_size nar))
    (omega (arith, length-take piece_size nar))
    (λ h. omega (arith, length-drop piece_size nar, length-take piece_size nar))

pub cut_whole : (nar : List ℕ) → row_part nar ++ joined (further_pieces nar) ≡ nar
cut_whole nar =
    ap (λ l. take piece_size nar ++ l)
    (all_joined 1 nar (drop piece_size nar) (omega (arith, length-drop piece_size nar)))
    ∙ take-append-drop piece_size nar

-- ---- there is no other cutting

prefixes : (a b c d : List ℕ) → length a ≡ length b → a ++ c ≡ b ++ d → (a ≡ b) × (c ≡ d)
prefixes [] [] c d same e = (refl, e)
prefixes [] (y ∷ ys) c d same e = absurd (omega arith)
prefixes (x ∷ xs) [] c d same e = absurd (omega arith)
prefixes (x ∷ xs) (y ∷ ys) c d same e =
    let first : x ≡ y = cc in
    let rest : xs ++ c ≡ ys ++ d = cc in
    let both = prefixes xs ys c d (omega arith) rest in
    (λ i. first i ∷ both.0 i, both.1)

lengths : (a b c d : List ℕ) → a ++ b ≡ c ++ d → length a + length b ≡ length c + length d
lengths a b c d e = sym (length-append a b) ∙ ap length e ∙ length-append c d

one_cut : (row other : List ℕ) (n : ℕ) (ps qs : List (ℤ × List ℕ)) → GoOn row n ps → GoOn other n qs
    → row ++ joined ps ≡ other ++ joined qs → (row ≡ other) × (ps ≡ qs)
one_cut row other n [] [] g h e = (sym (append-nil row) ∙ e ∙ append-nil other, refl)
one_cut row other n [] (q ∷ qs) g h e =
    let total = lengths row [] other (q.1 ++ joined qs) e in
    absurd (omega (arith, g, h.0, h.2, total, length-append q.1 (joined qs)))
one_cut row other n (p ∷ ps) [] g h e =
    let total = lengths row (p.1 ++ joined ps) other [] e in
    absurd (omega (arith, h, g.0, g.2, total, length-append p.1 (joined ps)))
one_cut row other n (p ∷ ps) (q ∷ qs) g h e =
    let both = prefixes row other (p.1 ++ joined ps) (q.1 ++ joined qs) (g.0 ∙ sym h.0) e in
    let rest = one_cut p.1 q.1 (n + 1) ps qs g.3 h.3 both.1 in
    let number : p.0 ≡ q.0 = g.1 ∙ sym h.1 in
    (both.0, λ i. (number i, rest.0 i) ∷ rest.1 i)

pub cuts_one_way : (nar : List ℕ) → CutsOneWay nar
cuts_one_way nar = record {
  size = size;
  right = cut_right nar;
  whole = cut_whole nar;
  one =
      λ row pieces cut e. one_cut row (row_part nar) 1 pieces (further_pieces nar) cut (cut_right nar)
      (e ∙ sym (cut_whole nar));
}
