-- Bytes that are hashed piece by piece.
use Rattle.std.proofs.Common.{◌≡◌, ℕ, ◌+◌, ◌*◌, ◌/◌, List, ◌++◌, length, take, take_all, ap, sym, subst, ◌∙◌, arith}
use Rattle.std.proofs.Math.Seq.{take-add}
use Rattle.std.proofs.lemmas.List.{take-append-le, take-take}
use Rattle.streams.specs.Cut.{piece_of, count_of}

-- the pieces up to a place, and the one there
pub one_more : (bytes : List ℕ) (i : ℕ) (piece : List ℕ) → piece ≡ piece_of i bytes
    → take (65536 * i) bytes ++ piece ≡ take (65536 * (i + 1)) bytes
unfolding piece_of
one_more bytes i piece is =
    let count : 65536 * i + 65536 ≡ 65536 * (i + 1) = omega arith in
    ap (λ p. take (65536 * i) bytes ++ p) is ∙ sym (take-add (65536 * i) 65536 bytes) ∙ ap (λ n. take n bytes) count

-- the first piece of all is the first of some
pub first_of_some : (bytes : List ℕ) (i : ℕ) (first piece : List ℕ) → first ≡ piece_of 0 bytes
    → piece ≡ piece_of i bytes → first ≡ take 65536 (take (65536 * i) bytes ++ piece)
unfolding piece_of
first_of_some bytes i first piece is e =
    is ∙ sym (ap (take 65536) (one_more bytes i piece e) ∙ take-take 65536 (65536 * (i + 1)) bytes (omega arith))

-- what comes after the pieces that are hashed changes nothing
pub with_more : (P : List ℕ → Type 0) (bytes piece all : List ℕ) (len : ℕ) → all ≡ bytes ++ piece → len ≡ length bytes
    → P (take (65536 * (length bytes / 65536)) bytes) → P (take (65536 * (len / 65536)) all)
with_more P bytes piece all len is count has =
    let same : take (65536 * (length bytes / 65536)) bytes ≡ take (65536 * (len / 65536)) all =
    sym (ap (λ n. take (65536 * (n / 65536)) all) count ∙ ap (take (65536 * (length bytes / 65536))) is
    ∙ take-append-le (65536 * (length bytes / 65536)) bytes piece (omega arith)) in
    subst P same has

-- the same bytes, by another name
pub renamed : (P : List ℕ → Type 0) (bytes all : List ℕ) (len : ℕ) → all ≡ bytes → len ≡ length all
    → P (take (65536 * (len / 65536)) all) → P (take (65536 * (length bytes / 65536)) bytes)
renamed P bytes all len is count has =
    subst P (ap (λ n. take (65536 * (n / 65536)) all) count ∙ ap (λ b. take (65536 * (length b / 65536)) b) is) has

-- the pieces are all bytes
pub all_pieces : (bytes : List ℕ) → take (65536 * count_of bytes) bytes ≡ bytes
all_pieces bytes = take_all (65536 * count_of bytes) bytes (omega arith)

pub of_all : (P : List ℕ → Type 0) (bytes : List ℕ) (count : ℕ) → count ≡ count_of bytes
    → P (take (65536 * count) bytes) → P bytes
of_all P bytes count is has = subst P (ap (λ n. take (65536 * n) bytes) is ∙ all_pieces bytes) has
