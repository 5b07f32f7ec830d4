-- The label of a root says what it is of: its name, its owner, its number.
use Rattle.std.proofs.Common.{◌≡◌, ℕ, ◌<◌, ◌^◌, nat_le, List, [], ◌∷◌, ◌++◌, length, slice_index, Bool, not, ◌&&◌, ◌==◌}
use Rattle.std.proofs.Common.{codes, decimal, refl, sym, ap, arith, ◌∙◌, IsTrue, subst}
use Rattle.std.specs.Prelude.{IsFalse}
use Rattle.std.specs.List.{list_all}
use Rattle.std.specs.Str.Parse.{AllDigits}
use Rattle.std.proofs.lemmas.Bool.{and_parts, false≢true}
use Rattle.std.proofs.lemmas.Fmt.{decimal_injective, decimal_is_IsNumeral}
use Rattle.std.proofs.lemmas.List.{append_assoc, append_cancel_left, append_cancel_right}
use Rattle.std.proofs.lemmas.Str.Parse.{digit_from_value}
use Rattle.paths.specs.Names.{is_plain_name, is_plain_byte}
use Rattle.paths.specs.Root.{permanent_label, user_label, generation_label, temporary_label}

-- ---- where a text is divided

-- at the first byte that fails a test
divided : (p : ℕ → Bool) (b : ℕ) → IsFalse (p b) → (xs ys us vs : List ℕ) → IsTrue (list_all p xs)
    → IsTrue (list_all p ys) → xs ++ (b ∷ us) ≡ ys ++ (b ∷ vs) → (xs ≡ ys) × (us ≡ vs)
divided p b fails [] [] us vs f g e = (refl, let tails : us ≡ vs = cc in tails)
divided p b fails [] (y ∷ ys) us vs f g e =
    let same : b ≡ y = cc in
    absurd (false≢true (sym fails ∙ ap p same ∙ (and_parts (p y) (list_all p ys) g).0))
divided p b fails (x ∷ xs) [] us vs f g e =
    let same : x ≡ b = cc in
    absurd (false≢true (sym fails ∙ ap p (sym same) ∙ (and_parts (p x) (list_all p xs) f).0))
divided p b fails (x ∷ xs) (y ∷ ys) us vs f g e =
    let head : x ≡ y = cc in
    let tail : xs ++ (b ∷ us) ≡ ys ++ (b ∷ vs) = cc in
    let rest =
    divided p b fails xs ys us vs (and_parts (p x) (list_all p xs) f).1 (and_parts (p y) (list_all p ys) g).1
    tail in
    (λ i. head i ∷ rest.0 i, rest.1)

no_dash : (xs ys : List ℕ) → AllDigits 10 (xs ++ (45 ∷ ys)) → ⊥
no_dash [] ys h = omega (arith, digit_from_value 45 h.0)
no_dash (x ∷ xs) ys h = no_dash xs ys h.1

-- at the last dash, after which digits alone are
divided_last : (xs ys ds es : List ℕ) → AllDigits 10 ds → AllDigits 10 es → xs ++ (45 ∷ ds) ≡ ys ++ (45 ∷ es)
    → (xs ≡ ys) × (ds ≡ es)
divided_last [] [] ds es f g e = (refl, let tails : ds ≡ es = cc in tails)
divided_last [] (y ∷ ys) ds es f g e =
    let tails : ds ≡ ys ++ (45 ∷ es) = cc in
    absurd (no_dash ys es (subst (AllDigits 10) tails f))
divided_last (x ∷ xs) [] ds es f g e =
    let tails : es ≡ xs ++ (45 ∷ ds) = cc in
    absurd (no_dash xs ds (subst (AllDigits 10) tails g))
divided_last (x ∷ xs) (y ∷ ys) ds es f g e =
    let head : x ≡ y = cc in
    let tail : xs ++ (45 ∷ ds) ≡ ys ++ (45 ∷ es) = cc in
    let rest = divided_last xs ys ds es f g tail in
    (λ i. head i ∷ rest.0 i, rest.1)

-- ---- labels

pub plain_bytes : (name : List ℕ) → IsTrue (is_plain_name name) → IsTrue (list_all is_plain_byte name)
plain_bytes name h =
    (and_parts (nat_le 1 (length name) && nat_le (length name) 64 && not (slice_index name 0 == 45))
    (list_all is_plain_byte name) h).1

pub same_permanent : (m n : List ℕ) → permanent_label m ≡ permanent_label n → m ≡ n
same_permanent m n e = append_cancel_left (codes "gcroots/") m n e

-- an owner and what follows the slash
after_slash : (front o1 o2 t1 t2 : List ℕ) → IsTrue (is_plain_name o1) → IsTrue (is_plain_name o2)
    → front ++ o1 ++ codes "/" ++ t1 ≡ front ++ o2 ++ codes "/" ++ t2 → (o1 ≡ o2) × (t1 ≡ t2)
after_slash front o1 o2 t1 t2 p1 p2 e =
    divided is_plain_byte 47 refl o1 o2 t1 t2 (plain_bytes o1 p1) (plain_bytes o2 p2)
    (append_cancel_left front (o1 ++ (47 ∷ t1)) (o2 ++ (47 ∷ t2)) (sym (joined o1 t1) ∙ e ∙ joined o2 t2))
  where
    joined : (o t : List ℕ) → front ++ o ++ codes "/" ++ t ≡ front ++ (o ++ (47 ∷ t))
    joined o t = append_assoc (front ++ o) (codes "/") t ∙ append_assoc front o (codes "/" ++ t)

pub same_user : (o1 o2 n1 n2 : List ℕ) → IsTrue (is_plain_name o1) → IsTrue (is_plain_name o2)
    → user_label o1 n1 ≡ user_label o2 n2 → (o1 ≡ o2) × (n1 ≡ n2)
same_user o1 o2 n1 n2 p1 p2 e = after_slash (codes "gcroots/per-user/") o1 o2 n1 n2 p1 p2 e

-- the number of a generation after the last dash
before_link : (n1 n2 : List ℕ) (k1 k2 : ℕ) → k1 < 2 ^ 64 → k2 < 2 ^ 64
    → n1 ++ codes "-" ++ decimal k1 ++ codes "-link" ≡ n2 ++ codes "-" ++ decimal k2 ++ codes "-link"
    → (n1 ≡ n2) × (k1 ≡ k2)
before_link n1 n2 k1 k2 l1 l2 e =
    let parts =
    divided_last n1 n2 (decimal k1) (decimal k2) (decimal_is_IsNumeral k1 l1).0.1 (decimal_is_IsNumeral k2 l2).0.1
    (sym (append_assoc n1 (codes "-") (decimal k1))
    ∙ append_cancel_right (n1 ++ codes "-" ++ decimal k1) (n2 ++ codes "-" ++ decimal k2) (codes "-link") e
    ∙ append_assoc n2 (codes "-") (decimal k2)) in
    (parts.0, decimal_injective k1 k2 l1 l2 parts.1)

-- the name of a profile and a number, as a label ends
abbrev numbered : List ℕ → ℕ → List ℕ
numbered name n = name ++ codes "-" ++ decimal n ++ codes "-link"

divides : (owner name : List ℕ) (n : ℕ)
    → generation_label owner name n ≡ codes "profiles/per-user/" ++ owner ++ codes "/" ++ numbered name n
divides owner name n =
    append_assoc (codes "profiles/per-user/" ++ owner ++ codes "/" ++ name ++ codes "-") (decimal n) (codes "-link")
    ∙ append_assoc (codes "profiles/per-user/" ++ owner ++ codes "/" ++ name) (codes "-") (decimal n ++ codes "-link")
    ∙ append_assoc (codes "profiles/per-user/" ++ owner ++ codes "/") name (codes "-" ++ (decimal n ++ codes "-link"))
    ∙ ap (λ t. codes "profiles/per-user/" ++ owner ++ codes "/" ++ t)
    (sym (append_assoc name (codes "-") (decimal n ++ codes "-link"))
    ∙ sym (append_assoc (name ++ codes "-") (decimal n) (codes "-link")))

pub same_generation : (o1 o2 n1 n2 : List ℕ) (k1 k2 : ℕ) → IsTrue (is_plain_name o1) → IsTrue (is_plain_name o2)
    → k1 < 2 ^ 64 → k2 < 2 ^ 64
    → generation_label o1 n1 k1 ≡ generation_label o2 n2 k2 → (o1 ≡ o2) × (n1 ≡ n2) × (k1 ≡ k2)
same_generation o1 o2 n1 n2 k1 k2 p1 p2 l1 l2 e =
    let front =
    after_slash (codes "profiles/per-user/") o1 o2 (numbered n1 k1) (numbered n2 k2) p1 p2
    (sym (divides o1 n1 k1) ∙ e ∙ divides o2 n2 k2) in
    let back = before_link n1 n2 k1 k2 l1 l2 front.1 in
    (front.0, back.0, back.1)

pub same_session : (m n : ℕ) → m < 2 ^ 64 → n < 2 ^ 64 → temporary_label m ≡ temporary_label n → m ≡ n
same_session m n l k e =
    decimal_injective m n l k (append_cancel_left (codes "{temp:") (decimal m) (decimal n)
    (append_cancel_right (codes "{temp:" ++ decimal m) (codes "{temp:" ++ decimal n) (codes "}") e))
