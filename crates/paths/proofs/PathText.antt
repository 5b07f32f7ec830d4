-- What a path text says below a store directory.
use Rattle.std.proofs.Common.{◌≡◌, ◌≢◌, ℕ, ◌+◌, Bool, true, cond, ◌<◌, ◌≤◌, ◌&&◌, List, [], ◌∷◌, ◌++◌, length}
use Rattle.std.proofs.Common.{take, drop, get_or, drop-cons, take-append-drop, append_assoc, length-append, ap, sym}
use Rattle.std.proofs.Common.{refl, ◌∙◌, arith, inl, inr}
use Rattle.std.proofs.Math.Seq.{take-append_seam, drop-append_seam, get_or-append_seam}
use Rattle.std.proofs.lemmas.Bool.{cases_Bool, and_parts, eq-eqb, le-leb, leb-true}
use Rattle.std.proofs.lemmas.Bool.Decides.{Decides-eqb}
use Rattle.std.proofs.lemmas.Slice.Eq.{starts_is}
use Rattle.paths.specs.Names.{begins, is_store_name}
use Rattle.paths.specs.Base32.{value_of, all_digits}
use Rattle.paths.specs.StorePath.{base_of, is_base_name, name_of}
use Rattle.paths.proofs.Number.{digit-small}

-- a directory and a `/` are what is cut off
pub base_of-below : (dir rest : List ℕ) → base_of dir (dir ++ 47 ∷ rest) ≡ rest
base_of-below dir rest =
    let front = dir ++ 47 ∷ [] in
    let text = dir ++ 47 ∷ rest in
    let whole : text ≡ front ++ rest = sym (append_assoc dir (47 ∷ []) rest) in
    let begun : begins text front ≡ true = (starts_is Decides-eqb text front _ refl).1 rest whole in
    let count : length dir + 1 ≡ length front = sym (length-append dir (47 ∷ [])) in
    ap (λ b. cond b (drop (length dir + 1) text) text) begun ∙ ap (λ n. drop n text) count
    ∙ ap (λ t. drop (length front) t) whole ∙ drop-append_seam front rest

-- a text of another beginning is left as it is
pub base_of-other : (dir text : List ℕ) → ((rest : List ℕ) → text ≢ dir ++ 47 ∷ rest) → base_of dir text ≡ text
base_of-other dir text other =
    let front = dir ++ 47 ∷ [] in
    elim (cases_Bool (begins text front)) [
      | inl begun ↦ absurd (other (drop (length front) text)
          ((starts_is Decides-eqb text front _ refl).0 begun ∙ append_assoc dir (47 ∷ []) (drop (length front) text)))
      | inr differs ↦ ap (λ b. cond b (drop (length dir + 1) text) text) differs
    ]

-- a `&&` of two tests that pass
both : (a b : Bool) → a ≡ true → b ≡ true → (a && b) ≡ true
both a b p q = ap (λ x. x && b) p ∙ q

nonempty : (name : List ℕ) → is_store_name name ≡ true → 1 ≤ length name
nonempty [] h = let no : ⊥ = cc in absurd no
nonempty (b ∷ name) h = omega arith

-- 32 digits, `-` and a store name make a base name
pub is_base_name-join : (digits name : List ℕ) → length digits ≡ 32 → all_digits digits ≡ true
    → is_store_name name ≡ true → is_base_name (digits ++ 45 ∷ [] ++ name) ≡ true
is_base_name-join digits name count all named =
    let front = digits ++ 45 ∷ [] in
    let text = front ++ name in
    let split : text ≡ digits ++ 45 ∷ name = append_assoc digits (45 ∷ []) name in
    let fronted : length front ≡ 33 = omega (arith, length-append digits (45 ∷ [])) in
    let one : 1 ≤ length name = nonempty name named in
    let long : 34 ≤ length text = omega (arith, length-append front name) in
    let taken : take 32 text ≡ digits =
    ap (λ n. take n text) (sym count) ∙ ap (take (length digits)) split ∙ take-append_seam digits (45 ∷ name) in
    let dash : get_or text 32 0 ≡ 45 =
    ap (λ n. get_or text n 0) (sym count) ∙ ap (λ t. get_or t (length digits) 0) split
    ∙ get_or-append_seam digits 45 name 0 in
    let rest : drop 33 text ≡ name = ap (λ n. drop n text) (sym fronted) ∙ drop-append_seam front name in
    both _ _ (both _ _ (both _ _ (le-leb 34 (length text) long) (ap all_digits taken ∙ all)) (eq-eqb _ _ dash))
    (ap is_store_name rest ∙ named)

-- ---- the parts of a base name

dash-value : value_of 45 ≡ 32
unfolding value_of
dash-value = refl

pub base-digits : (base : List ℕ) → is_base_name base ≡ true → all_digits (take 32 base) ≡ true
base-digits base h = (and_parts _ _ (and_parts _ _ (and_parts _ _ h).0).0).1

pub base-name : (base : List ℕ) → is_base_name base ≡ true → is_store_name (name_of base) ≡ true
base-name base h = (and_parts _ _ h).1

-- no digit is a `-`
pub base-no_dash : (base : List ℕ) (i : ℕ) → is_base_name base ≡ true → i < length (take 32 base)
    → get_or (take 32 base) i 0 ≢ 45
base-no_dash base i h below e = let small =
    digit-small (take 32 base) i (base-digits base h) below in absurd (omega (arith, small, ap value_of e, dash-value))

-- the digits, `-`, the name
pub base-parts : (base : List ℕ) → is_base_name base ≡ true → base ≡ take 32 base ++ 45 ∷ name_of base
base-parts base h =
    let rest = and_parts _ _ (and_parts _ _ h).0 in
    let dash : get_or base 32 0 ≡ 45 = (Decides-eqb _ _).0 rest.1 in
    let long : 34 ≤ length base = leb-true 34 (length base) (and_parts _ _ rest.0).0 in
    let next : drop 32 base ≡ get_or base 32 0 ∷ drop 33 base = drop-cons base 32 0 (omega arith) in
    sym (take-append-drop 32 base) ∙ ap (λ t. take 32 base ++ t) (next ∙ ap (λ d. d ∷ drop 33 base) dash)
