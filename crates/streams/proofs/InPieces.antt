-- Pieces that go out one after another.
use Rattle.std.proofs.Common.{◌≡◌, ℕ, ◌+◌, ◌*◌, ◌<◌, ◌≤◌, ◌++◌, List, Option, length, take, drop, take_all, length-drop}
use Rattle.std.proofs.Common.{arith, subst, sym, ap, ◌∙◌}
use Rattle.std.proofs.Math.Seq.{take-add}
use Rattle.std.proofs.lemmas.List.{take-take, length-take}
use Rattle.std.proofs.KnownBytes.{Appends-trans}
use Rattle.std.specs.Io.KnownBytes.{Appends}
use Rattle.streams.specs.Cut.{piece_of}
use Rattle.streams.specs.Sends.{AppendsPrefix}

-- a prefix of a piece after those before it
behind : (bytes : List ℕ) (i n : ℕ) (piece : List ℕ) → piece ≡ piece_of i bytes → n ≤ 65536
    → take (65536 * i) bytes ++ take n piece ≡ take (65536 * i + n) bytes
unfolding piece_of
behind bytes i n piece is small =
    ap (λ p. take (65536 * i) bytes ++ take n p) is
    ∙ ap (λ t. take (65536 * i) bytes ++ t) (take-take n 65536 (drop (65536 * i) bytes) small)
    ∙ sym (take-add (65536 * i) n bytes)

piece_length : (bytes : List ℕ) (i : ℕ) (piece : List ℕ) → piece ≡ piece_of i bytes
    → (length piece ≤ 65536) × (length piece ≤ length (drop (65536 * i) bytes))
unfolding piece_of
piece_length bytes i piece is = (
  omega (arith, ap length is, length-take 65536 (drop (65536 * i) bytes)),
  omega (arith, ap length is, length-take 65536 (drop (65536 * i) bytes)),
)

-- one more
pub next_sent : (a b c : Option (List ℕ)) (bytes : List ℕ) (i : ℕ) (piece : List ℕ) → piece ≡ piece_of i bytes
    → Appends a b (take (65536 * i) bytes) → Appends b c piece
    → Appends a c (take (65536 * (i + 1)) bytes)
unfolding piece_of
next_sent a b c bytes i piece is before now =
    let count : 65536 * i + 65536 ≡ 65536 * (i + 1) = omega arith in
    let all : take (65536 * i) bytes ++ piece ≡ take (65536 * (i + 1)) bytes =
    ap (λ p. take (65536 * i) bytes ++ p) is ∙ sym (take-add (65536 * i) 65536 bytes) ∙ ap (λ n. take n bytes) count in
    subst (Appends a c) all (Appends-trans a b c _ _ before now)

-- a prefix of one more
pub prefix_sent : (a b c : Option (List ℕ)) (bytes : List ℕ) (i : ℕ) (piece : List ℕ) → piece ≡ piece_of i bytes
    → Appends a b (take (65536 * i) bytes) → AppendsPrefix b c piece
    → AppendsPrefix a c bytes
prefix_sent a b c bytes i piece is before (n, below, now) =
    let size = piece_length bytes i piece is in
    let small : n ≤ 65536 = omega (arith, size.0, below) in
    let within : 65536 * i + n < length bytes = omega (arith, size.1, below, length-drop (65536 * i) bytes) in
    (65536 * i + n, within, subst (Appends a c) (behind bytes i n piece is small) (Appends-trans a b c _ _ before now))

-- after the last piece nothing is left
pub take_all_pieces : (bytes : List ℕ) (i : ℕ) → length bytes ≤ 65536 * i → take (65536 * i) bytes ≡ bytes
take_all_pieces bytes i whole = take_all (65536 * i) bytes whole
