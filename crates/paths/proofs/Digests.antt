-- Digests are bytes, and fold to 20 bytes.
use Rattle.std.proofs.Common.{◌≡◌, ℕ, zero, suc, ◌-◌, ◌<◌, List, [], ◌∷◌, length, get_or}
use Rattle.std.proofs.Common.{map, bit_xor, refl, arith, lit<}
use Rattle.std.specs.Prelude.{fold}
use Rattle.std.specs.List.{range_with_len}
use Rattle.std.specs.Int.{w32, to_be_bytes}
use Rattle.std.proofs.lemmas.Nat.{xor_of_8}
use Rattle.sha2.specs.Sha256.{sha256, digest_bytes, final_hash, initial_hash_256}
use Rattle.nar.proofs.Bytes.{IsBytes-nil, IsBytes-cons, IsBytes-append}
use Rattle.paths.specs.Fold.{places, folded_byte, fold20}
use Rattle.paths.proofs.Number.{AreBytes}

word-bytes : (n : ℕ) → AreBytes (to_be_bytes w32 n)
word-bytes n zero = omega arith
word-bytes n (suc zero) = omega arith
word-bytes n (suc (suc zero)) = omega arith
word-bytes n (suc (suc (suc zero))) = omega arith
word-bytes n (suc (suc (suc (suc i)))) = omega arith

words-bytes : (h : List ℕ) (n : ℕ) → AreBytes (digest_bytes h n)
unfolding digest_bytes
words-bytes h zero = IsBytes-nil
words-bytes h (suc n) =
    IsBytes-append (digest_bytes h n) (to_be_bytes w32 (get_or h n 0)) (words-bytes h n) (word-bytes (get_or h n 0))

pub sha256-bytes : (m : List ℕ) → AreBytes (sha256 m)
unfolding sha256
sha256-bytes m = words-bytes (final_hash initial_hash_256 m) 8

-- the exclusive or of bytes is a byte
xor-byte : (d : List ℕ) → AreBytes d → (ks : List ℕ) (b : ℕ) → b < 256
    → fold bit_xor b (map (λ k. get_or d k 0) ks) < 256
xor-byte d bytes [] b small = small
xor-byte d bytes (k ∷ ks) b small =
    xor-byte d bytes ks (bit_xor b (get_or d k 0)) (xor_of_8 b (get_or d k 0) small (bytes k))

map-bytes : (f : ℕ → ℕ) → ((k : ℕ) → f k < 256) → (ks : List ℕ) → AreBytes (map f ks)
map-bytes f small [] = IsBytes-nil
map-bytes f small (k ∷ ks) = IsBytes-cons (f k) (map f ks) (small k) (map-bytes f small ks)

pub fold20-bytes : (d : List ℕ) → AreBytes d → AreBytes (fold20 d)
unfolding fold20
fold20-bytes d bytes =
    map-bytes (folded_byte d) (λ i. xor-byte d bytes (places (length d) i) 0 (lit< tt)) (range_with_len 0 20)

pub fold20-count : (d : List ℕ) → length (fold20 d) ≡ 20
unfolding fold20
fold20-count d = refl
