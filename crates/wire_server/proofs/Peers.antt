-- Peers that are taken, and left, one after another, and accepts that fail.
use Rattle.std.proofs.Common.{◌∙◌, ℕ, ◌+◌, List, [], ◌++◌, Option, Some, None, refl, sym, ap, ap₂, arith}
use Rattle.std.proofs.Common.{append_assoc, append-nil}
use Rattle.std.proofs.lemmas.List.{map-append}
use Rattle.wire_server.specs.Peers.{AcceptsPeers, ClosesPeers, CountsFaults}

pub takes_none : (a : Option (List (List ℕ))) → AcceptsPeers a a []
takes_none None = tt
takes_none (Some all) = ([], refl, refl)

pub takes_more : (a b c : Option (List (List ℕ))) (xs ys : List (Option (List ℕ))) → AcceptsPeers a b xs
    → AcceptsPeers b c ys → AcceptsPeers a c (xs ++ ys)
takes_more None b c xs ys p q = tt
takes_more (Some x) None c xs ys p q = absurd p
takes_more (Some x) (Some y) None xs ys p q = absurd q
takes_more (Some x) (Some y) (Some z) xs ys (first, e, f) (second, h, k) = (
  first ++ second,
  ap₂ (λ s t. s ++ t) e h ∙ sym (map-append Some first second),
  f ∙ ap (λ t. first ++ t) k ∙ sym (append_assoc first second z),
)

pub leaves_none : (a : Option (List (List ℕ))) → ClosesPeers a a []
leaves_none None = tt
leaves_none (Some all) = ([], refl, sym (append-nil all))

pub leaves_more : (a b c : Option (List (List ℕ))) (xs ys : List (Option (List ℕ))) → ClosesPeers a b xs
    → ClosesPeers b c ys → ClosesPeers a c (xs ++ ys)
leaves_more None b c xs ys p q = tt
leaves_more (Some x) None c xs ys p q = absurd p
leaves_more (Some x) (Some y) None xs ys p q = absurd q
leaves_more (Some x) (Some y) (Some z) xs ys (first, e, f) (second, h, k) = (
  first ++ second,
  ap₂ (λ s t. s ++ t) e h ∙ sym (map-append Some first second),
  k ∙ ap (λ t. t ++ second) f ∙ append_assoc x first second,
)

pub counts_none : (a : Option ℕ) → CountsFaults a a 0
counts_none None = tt
counts_none (Some n) = omega arith

pub counts_more : (a b c : Option ℕ) (m n : ℕ) → CountsFaults a b m → CountsFaults b c n → CountsFaults a c (m + n)
counts_more None b c m n p q = tt
counts_more (Some x) None c m n p q = absurd p
counts_more (Some x) (Some y) None m n p q = absurd q
counts_more (Some x) (Some y) (Some z) m n p q = omega (arith, p, q)
