-- Pieces, one after another.
use Rattle.std.proofs.Common.{◌≡◌, ℕ, zero, suc, ◌+◌, ◌*◌, ◌-◌, ◌<◌, ◌≤◌, List, [], ◌∷◌, ◌++◌, length, take, drop}
use Rattle.std.proofs.Common.{get_or, ap, sym, ◌∙◌, refl, arith, length-append, append-nil, append_assoc}
use Rattle.std.specs.List.{concat, AllByRecursion}
use Rattle.std.proofs.lemmas.List.{take_at, drop_at, take-append-le, take-append-drop, length-take-le, take_all}
use Rattle.std.proofs.lemmas.List.{drop-drop}
use Rattle.std.proofs.Math.Seq.{take-append-add}
use Rattle.streams.specs.Cut.{piece_of}

abbrev pub Whole : List (List ℕ) → Type 0
Whole ps = AllByRecursion (λ p. length p ≡ 65536) ps

pub concat-append : (xs ys : List (List ℕ)) → concat (xs ++ ys) ≡ concat xs ++ concat ys
concat-append [] ys = refl
concat-append (x ∷ xs) ys = ap (λ t. x ++ t) (concat-append xs ys) ∙ sym (append_assoc x (concat xs) (concat ys))

pub concat-push : (xs : List (List ℕ)) (y : List ℕ) → concat (xs ++ y ∷ []) ≡ concat xs ++ y
concat-push xs y = concat-append xs (y ∷ []) ∙ ap (λ t. concat xs ++ t) (append-nil y)

pub whole-push : (xs : List (List ℕ)) (y : List ℕ) → Whole xs → length y ≡ 65536 → Whole (xs ++ y ∷ [])
whole-push [] y all is = (is, tt)
whole-push (x ∷ xs) y all is = (all.0, whole-push xs y all.1 is)

pub whole-take : (n : ℕ) (xs : List (List ℕ)) → Whole xs → Whole (take n xs)
whole-take zero xs all = tt
whole-take (suc n) [] all = tt
whole-take (suc n) (x ∷ xs) all = (all.0, whole-take n xs all.1)

pub length-whole : (ps : List (List ℕ)) → Whole ps → length (concat ps) ≡ 65536 * length ps
length-whole [] all = refl
length-whole (p ∷ ps) all = omega (arith, length-append p (concat ps), length-whole ps all.1, all.0)

-- what comes after the pieces at the beginning
pub behind : (n : ℕ) (ps : List (List ℕ)) (last : List ℕ) → Whole ps → n ≤ length ps
    → drop (65536 * n) (concat ps ++ last) ≡ concat (drop n ps) ++ last
behind zero ps last all le = refl
behind (suc n) [] last all le = absurd (omega arith)
behind (suc n) (p ∷ ps) last all le =
    let count : 65536 * suc n ≡ 65536 + 65536 * n = omega arith in
    ap (λ k. drop k ((p ++ concat ps) ++ last)) count
    ∙ sym (drop-drop (65536 * n) 65536 ((p ++ concat ps) ++ last))
    ∙ ap (λ t. drop (65536 * n) (drop 65536 t)) (append_assoc p (concat ps) last)
    ∙ ap (drop (65536 * n)) (drop_at p (concat ps ++ last) 65536 all.0)
    ∙ behind n ps last all.1 (omega arith)

pub drop_at_place : (n : ℕ) (ps : List (List ℕ)) → n < length ps → drop n ps ≡ get_or ps n [] ∷ drop (suc n) ps
drop_at_place n [] lt = absurd (omega arith)
drop_at_place zero (p ∷ ps) lt = refl
drop_at_place (suc n) (p ∷ ps) lt = drop_at_place n ps (omega arith)

pub whole_at : (n : ℕ) (ps : List (List ℕ)) → Whole ps → n < length ps → length (get_or ps n []) ≡ 65536
whole_at n [] all lt = absurd (omega arith)
whole_at zero (p ∷ ps) all lt = all.0
whole_at (suc n) (p ∷ ps) all lt = whole_at n ps all.1 (omega arith)

pub whole_piece : (i : ℕ) (ps : List (List ℕ)) (last : List ℕ) → Whole ps → i < length ps
    → get_or ps i [] ≡ piece_of i (concat ps ++ last)
unfolding piece_of
whole_piece i ps last all lt =
    sym (ap (take 65536) (behind i ps last all (omega arith) ∙ ap (λ t. concat t ++ last) (drop_at_place i ps lt)
    ∙ append_assoc (get_or ps i []) (concat (drop (suc i) ps)) last)
    ∙ take_at (get_or ps i []) (concat (drop (suc i) ps) ++ last) 65536 (whole_at i ps all lt))

drop_every : (ps : List (List ℕ)) → drop (length ps) ps ≡ []
drop_every [] = refl
drop_every (p ∷ ps) = drop_every ps

pub last_piece : (ps : List (List ℕ)) (last : List ℕ) → Whole ps → length last ≤ 65536
    → last ≡ piece_of (length ps) (concat ps ++ last)
unfolding piece_of
last_piece ps last all le =
    sym (ap (take 65536) (behind (length ps) ps last all (omega arith) ∙ ap (λ t. concat t ++ last) (drop_every ps))
    ∙ take_all 65536 last le)

pub counted : (ps : List (List ℕ)) (last : List ℕ) → Whole ps
    → length (concat ps ++ last) ≡ 65536 * length ps + length last
counted ps last all = length-append (concat ps) last ∙ ap (λ n. n + length last) (length-whole ps all)

-- ---- a prefix

-- the first of two parts, of the same joined otherwise
pub front : (a b c d : List ℕ) → a ++ b ≡ c ++ d → length c ≤ length a → take (length c) a ≡ c
front a b c d same le = sym (take-append-le (length c) a b le) ∙ ap (take (length c)) same ∙ take_at c d (length c) refl

pub prefix_of_last : (ps : List (List ℕ)) (last : List ℕ) (len : ℕ) → Whole ps → 65536 * length ps ≤ len
    → concat ps ++ take (len - 65536 * length ps) last ≡ take len (concat ps ++ last)
prefix_of_last ps last len all le =
    let n : length (concat ps) + (len - 65536 * length ps) ≡ len = omega (arith, length-whole ps all) in
    sym (take-append-add (concat ps) last (len - 65536 * length ps)) ∙ ap (λ k. take k (concat ps ++ last)) n

parted : (n : ℕ) (ps : List (List ℕ)) (last : List ℕ) → n < length ps
    → concat ps ++ last ≡ concat (take n ps) ++ (get_or ps n [] ++ (concat (drop (suc n) ps) ++ last))
parted n ps last lt =
    ap (λ t. concat t ++ last) (sym (take-append-drop n ps) ∙ ap (λ t. take n ps ++ t) (drop_at_place n ps lt))
    ∙ ap (λ t. t ++ last) (concat-append (take n ps) (get_or ps n [] ∷ drop (suc n) ps))
    ∙ append_assoc (concat (take n ps)) (get_or ps n [] ++ concat (drop (suc n) ps)) last
    ∙ ap (λ t. concat (take n ps) ++ t) (append_assoc (get_or ps n []) (concat (drop (suc n) ps)) last)

pub prefix_of_whole : (n r : ℕ) (ps : List (List ℕ)) (last : List ℕ) → Whole ps → n < length ps → r ≤ 65536
    → concat (take n ps) ++ take r (get_or ps n []) ≡ take (65536 * n + r) (concat ps ++ last)
prefix_of_whole n r ps last all lt le =
    let before = take n ps in
    let piece = get_or ps n [] in
    let more = concat (drop (suc n) ps) ++ last in
    let count : length (concat before) ≡ 65536 * n =
    length-whole before (whole-take n ps all) ∙ ap (λ k. 65536 * k) (length-take-le n ps (omega arith)) in
    ap (λ t. concat before ++ t) (sym (take-append-le r piece more (omega (arith, whole_at n ps all lt))))
    ∙ sym (take-append-add (concat before) (piece ++ more) r)
    ∙ ap (λ k. take (k + r) (concat before ++ (piece ++ more))) count
    ∙ ap (take (65536 * n + r)) (sym (parted n ps last lt))

-- what is left of pieces where one was removed, up to its place
pub take_before : (n : ℕ) {X : Type 0} (xs : List X) → n < length xs → take n (take n xs ++ drop (suc n) xs) ≡ take n xs
take_before n xs lt = take_at (take n xs) (drop (suc n) xs) n (length-take-le n xs (omega arith))
