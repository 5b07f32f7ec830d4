-- Lemmas on texts that go out one after the other.
use Rattle.std.proofs.Common.{◌≡◌, ◌+◌, ◌++◌, ℕ, List, Option, length, take, length-append, arith, subst, sym}
use Rattle.std.proofs.Math.Seq.{take-append-add}
use Rattle.std.proofs.lemmas.List.{take-append-le}
use Rattle.std.proofs.KnownBytes.{Appends-trans}
use Rattle.std.specs.Io.KnownBytes.{Appends}
use Rattle.streams.specs.Sends.{AppendsPrefix}

-- a prefix of the first of two texts is one of both
pub prefix-first : (a b : Option (List ℕ)) (xs ys : List ℕ) → AppendsPrefix a b xs → AppendsPrefix a b (xs ++ ys)
prefix-first a b xs ys (n, below, sent) =
    let size : length (xs ++ ys) ≡ length xs + length ys = length-append xs ys in
    (n, omega arith, subst (Appends a b) (sym (take-append-le n xs ys (omega arith))) sent)

-- the whole first text and a prefix of the second are one of both
pub prefix-second : (a b c : Option (List ℕ)) (xs ys : List ℕ) → Appends a b xs → AppendsPrefix b c ys
    → AppendsPrefix a c (xs ++ ys)
prefix-second a b c xs ys first (n, below, sent) =
    let size : length (xs ++ ys) ≡ length xs + length ys = length-append xs ys in (
      length xs + n,
      omega arith,
      subst (Appends a c) (sym (take-append-add xs ys n))
          (Appends-trans a b c xs (take n ys) first sent),
    )
