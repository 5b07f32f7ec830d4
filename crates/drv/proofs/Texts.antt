-- Names and paths of outputs as bytes: what a path text is, and that those that are accepted are text.
use Rattle.std.proofs.Common.{◌≡◌, ℕ, ◌+◌, ◌<◌, Bool, true, false, cond, eqb, ltb, not, ◌&&◌, List, [], ◌∷◌, ◌++◌}
use Rattle.std.proofs.Common.{length, take, drop, get_or, Option, Some, None, refl, sym, ap, subst, ◌∙◌, append_assoc}
use Rattle.std.proofs.Common.{arith, inl, inr, leb}
use Rattle.std.specs.Prelude.{codes}
use Rattle.std.specs.List.{list_all, prefix_len}
use Rattle.std.specs.Str.{IsUtf8, IsAscii}
use Rattle.std.proofs.lemmas.Bool.{cases_Bool, and_parts, eqb-true, ltb-true, leb-true, both_ways}
use Rattle.std.proofs.lemmas.Bool.Decides.{Decides-eqb, nat_tests}
use Rattle.std.proofs.lemmas.List.{take-append-drop, length-append, drop_more, drop_at}
use Rattle.std.proofs.lemmas.Option.{cond_some}
use Rattle.std.proofs.lemmas.Slice.Eq.{starts_is}
use Rattle.std.proofs.lemmas.Str.{IsUtf8-append, IsUtf8-from_ascii, IsAscii-append}
use Rattle.std.proofs.lemmas.Str.Ascii.{IsAscii-nil, IsAscii-cons}
use Rattle.paths.specs.Names.{begins, is_dots, is_store_byte, is_store_name, is_store_dir}
use Rattle.paths.specs.Base32.{value_of, digits, all_digits}
use Rattle.paths.specs.StorePath.{base_of, is_base_name, full_path}
use Rattle.paths.proofs.PathText.{base_of-below}
use Rattle.paths.specs.declared.store_path.StorePathError.{StorePathError}
use Rattle.paths.specs.declared.store_path.StorePathError.TheVariants as path
use Rattle.drv.specs.Answer.{Fails}
use Rattle.drv.specs.Faults.{path_fault}
use Rattle.drv.specs.Reading.{base_in, name_in}

-- ---- ASCII

store_byte_ascii : (b : ℕ) → is_store_byte b ≡ true → b < 128
store_byte_ascii b h = grind (arith, nat_tests)

store_bytes_ascii : (bs : List ℕ) → list_all is_store_byte bs ≡ true → IsAscii bs
store_bytes_ascii [] h = IsAscii-nil
store_bytes_ascii (b ∷ bs) h =
    let parts = and_parts (is_store_byte b) (list_all is_store_byte bs) h in
    IsAscii-cons b bs (store_byte_ascii b parts.0) (store_bytes_ascii bs parts.1)

store_name_bytes : (a b c d e f : Bool) → (a && b && c && d && e && f) ≡ true → c ≡ true
store_name_bytes a b c d e f h =
    (and_parts (a && b) c (and_parts (a && b && c) d
    (and_parts (a && b && c && d) e (and_parts (a && b && c && d && e) f h).0).0).0).1

store_name_ascii : (name : List ℕ) → is_store_name name ≡ true → IsAscii name
store_name_ascii name h =
    store_bytes_ascii name (store_name_bytes (leb 1 (length name)) (leb (length name) 211) (list_all is_store_byte name)
    (not (is_dots name)) (not (begins name (codes ".-"))) (not (begins name (codes "..-"))) h)

position_small : (c : ℕ) (xs : List ℕ) → list_all (λ d. ltb d 128) xs ≡ true
    → prefix_len (λ d. not (eqb d c)) xs < length xs → c < 128
position_small c [] h lt = absurd (omega arith)
position_small c (x ∷ xs) h lt =
    let parts = and_parts (ltb x 128) (list_all (λ d. ltb d 128) xs) h in
    let small : x < 128 = ltb-true x 128 parts.0 in
    elim (cases_Bool (eqb x c)) [
      | inl same ↦ let is = eqb-true x c same in omega arith
      | inr other ↦
          let next : prefix_len (λ d. not (eqb d c)) (x ∷ xs) ≡ 1 + prefix_len (λ d. not (eqb d c)) xs =
          ap (λ b. cond (not b) (1 + prefix_len (λ d. not (eqb d c)) xs) 0) other in
          position_small c xs parts.1 (omega arith)
    ]

digit_ascii : (c : ℕ) → ltb (value_of c) 32 ≡ true → c < 128
unfolding value_of
digit_ascii c h = position_small c digits refl (ltb-true _ 32 h)

digits_ascii : (text : List ℕ) → all_digits text ≡ true → IsAscii text
digits_ascii [] h = IsAscii-nil
digits_ascii (c ∷ text) h =
    let parts = and_parts (ltb (value_of c) 32) (all_digits text) h in
    IsAscii-cons c text (digit_ascii c parts.0) (digits_ascii text parts.1)

base_tests : (a b c d : Bool) → (a && b && c && d) ≡ true → (a ≡ true) × (b ≡ true) × (c ≡ true) × (d ≡ true)
base_tests a b c d h =
    let one = and_parts (a && b && c) d h in
    let two = and_parts (a && b) c one.0 in
    let three = and_parts a b two.0 in
    (three.0, three.1, two.1, one.1)

base_ascii : (base : List ℕ) → is_base_name base ≡ true → IsAscii base
base_ascii base h =
    let tests =
    base_tests (leb 34 (length base)) (all_digits (take 32 base)) (eqb (get_or base 32 0) 45)
    (is_store_name (drop 33 base)) h in
    let len = leb-true 34 (length base) tests.0 in
    let dash = eqb-true (get_or base 32 0) 45 tests.2 in
    let rest : drop 32 base ≡ get_or base 32 0 ∷ drop 33 base = drop_more base 32 0 (omega arith) in
    let front = digits_ascii (take 32 base) tests.1 in
    let back : IsAscii (drop 32 base) =
    subst IsAscii (sym rest) (IsAscii-cons (get_or base 32 0) (drop 33 base) (omega arith)
    (store_name_ascii (drop 33 base) tests.3)) in
    subst IsAscii (take-append-drop 32 base) (IsAscii-append (take 32 base) (drop 32 base) front back)

-- ---- names

pub none_if : {A : Type 0} (o : Option A) → ((x : A) → o ≡ Some x → ⊥) → o ≡ None
none_if (Some x) h = absurd (h x refl)
none_if None h = refl

pub name_takes : (bytes name : List ℕ) → name_in bytes ≡ Some name → (is_store_name name ≡ true) × (bytes ≡ name)
name_takes bytes name e =
    let found = cond_some (is_store_name bytes) bytes name e in
    (subst (λ b. is_store_name b ≡ true) found.1 found.0, found.1)

pub name_not_text : (bytes : List ℕ) → (IsUtf8 bytes → ⊥) → name_in bytes ≡ None
name_not_text bytes h =
    none_if (name_in bytes) (λ name e. let found = name_takes bytes name e in
    h (IsUtf8-from_ascii bytes (subst IsAscii (sym found.1) (store_name_ascii name found.0))))

-- ---- paths

begun : (front text rest : List ℕ) → text ≡ front ++ rest → begins text front ≡ true
begun front text rest e = (starts_is Decides-eqb text front _ refl).1 rest e

split_at : (front text : List ℕ) → begins text front ≡ true → text ≡ front ++ drop (length front) text
split_at front text h = (starts_is Decides-eqb text front _ refl).0 h

full_path_is : (dir base : List ℕ) → full_path dir base ≡ dir ++ 47 ∷ base
full_path_is dir base = append_assoc dir (47 ∷ []) base

front_len : (dir : List ℕ) → length (dir ++ 47 ∷ []) ≡ length dir + 1
front_len dir = length-append dir (47 ∷ [])

pub base_takes : (dir text base : List ℕ) → base_in dir text ≡ Some base
    → (is_base_name base ≡ true) × (text ≡ full_path dir base)
unfolding base_in
base_takes dir text base e =
    let front = dir ++ 47 ∷ [] in
    let found =
    cond_some (begins text front && is_base_name (drop (length dir + 1) text)) (drop (length dir + 1) text) base
    e in
    let tests = and_parts (begins text front) (is_base_name (drop (length dir + 1) text)) found.0 in (
      subst (λ b. is_base_name b ≡ true) found.1 tests.1,
      split_at front text tests.0 ∙ ap (λ n. front ++ drop n text) (front_len dir)
          ∙ ap (λ (b : List ℕ). front ++ b) found.1,
    )

pub base_again : (dir base : List ℕ) → is_base_name base ≡ true → base_in dir (full_path dir base) ≡ Some base
unfolding base_in
base_again dir base h =
    let front = dir ++ 47 ∷ [] in
    let text = front ++ base in
    let rest : drop (length dir + 1) text ≡ base = drop_at front base (length dir + 1) (front_len dir) in
    ap (λ (d : List ℕ). cond (begins text front && is_base_name d) (Some d) None) rest
    ∙ ap (λ b. cond (b && is_base_name base) (Some base) None) (begun front text base refl)
    ∙ ap (λ b. cond b (Some base) None) h

-- bytes that don't begin with the store directory
pub base_not_below : (dir text : List ℕ) → begins text dir ≡ false → base_in dir text ≡ None
base_not_below dir text h =
    none_if (base_in dir text) (λ base e.
    let found = base_takes dir text base e in
    both_ways (begins text dir) h (begun dir text (47 ∷ base) (found.1 ∙ full_path_is dir base)))

-- bytes that are no text
pub base_not_text : (dir text : List ℕ) → IsUtf8 dir → (IsUtf8 text → ⊥) → base_in dir text ≡ None
base_not_text dir text dir_text h =
    none_if (base_in dir text) (λ base e.
    let found = base_takes dir text base e in
    let front =
    IsUtf8-append dir (47 ∷ []) dir_text
    (IsUtf8-from_ascii (47 ∷ []) (IsAscii-cons 47 [] (omega arith) IsAscii-nil)) in
    h (subst IsUtf8 (sym found.1) (IsUtf8-append (dir ++ 47 ∷ []) base front
    (IsUtf8-from_ascii base (base_ascii base found.0)))))

-- a text below which no base name is
pub base_not_base : (dir text : List ℕ) → is_base_name (base_of dir text) ≡ false → base_in dir text ≡ None
base_not_base dir text h =
    none_if (base_in dir text) (λ base e.
    let found = base_takes dir text base e in
    let below : base_of dir text ≡ base = ap (base_of dir) (found.1 ∙ full_path_is dir base) ∙ base_of-below dir base in
    both_ways (is_base_name base) (ap is_base_name (sym below) ∙ h) found.0)

-- a text that a parser of paths refuses
pub base_fails : (dir bytes text : List ℕ) (fault : StorePathError) → text ≡ bytes
    → (fault ≡ path.BadStorePath → is_base_name (base_of dir text) ≡ false)
    → Fails (path_fault fault) (base_in dir bytes)
base_fails dir bytes text path.BadStorePath same bad =
    base_not_base dir bytes (ap (λ t. is_base_name (base_of dir t)) (sym same) ∙ bad refl)
base_fails dir bytes text path.Memory same bad = tt

slash_no_base : (text : List ℕ) → is_base_name (47 ∷ text) ≡ true → ⊥
unfolding value_of
slash_no_base text h =
    let tests =
    base_tests (leb 34 (length (47 ∷ text))) (all_digits (take 32 (47 ∷ text))) (eqb (get_or (47 ∷ text) 32 0) 45)
    (is_store_name (drop 33 (47 ∷ text))) h in
    let first = (and_parts (ltb (value_of 47) 32) (all_digits (take 31 text)) tests.1).0 in
    both_ways (ltb (value_of 47) 32) refl first

dir_tests : (a b c : Bool) → (a && b && c) ≡ true → b ≡ true
dir_tests a b c h = (and_parts a b (and_parts (a && b) c h).0).1

begins_slash : (dir : List ℕ) → eqb (get_or dir 0 0) 47 ≡ true → (d : List ℕ) × (dir ≡ 47 ∷ d)
begins_slash [] h = absurd cc
begins_slash (b ∷ d) h = (d, ap (λ n. n ∷ d) (eqb-true b 47 h))

-- a text that begins with the directory, and below which a base name is
pub base_found : (dir text : List ℕ) → is_store_dir dir ≡ true → begins text dir ≡ true
    → is_base_name (base_of dir text) ≡ true → base_in dir text ≡ Some (base_of dir text)
base_found dir text valid below h =
    let front = dir ++ 47 ∷ [] in
    elim (cases_Bool (begins text front)) [
      | inl at ↦
          let rest = drop (length front) text in
          let whole : text ≡ full_path dir rest = split_at front text at in
          let is : base_of dir text ≡ rest =
          ap (base_of dir) (whole ∙ full_path_is dir rest) ∙ base_of-below dir rest in
          let named : is_base_name rest ≡ true = ap is_base_name (sym is) ∙ h in
          ap (base_in dir) whole ∙ base_again dir rest named ∙ ap (λ (b : List ℕ). Some b) (sym is)
      | inr other ↦
          let is : base_of dir text ≡ text = ap (λ b. cond b (drop (length dir + 1) text) text) other in
          let first = begins_slash dir (dir_tests _ (eqb (get_or dir 0 0) 47) _ valid) in
          let whole : text ≡ 47 ∷ (first.0 ++ drop (length dir) text) =
          split_at dir text below ∙ ap (λ (d : List ℕ). d ++ drop (length dir) text) first.1 in
          absurd (slash_no_base (first.0 ++ drop (length dir) text)
          (ap is_base_name (sym whole) ∙ ap is_base_name (sym is) ∙ h))
    ]

-- the same, as a call of a parser reports it
pub base_not_text_at : (shown dir text : List ℕ) → shown ≡ dir → IsUtf8 shown → (IsUtf8 text → ⊥)
    → base_in dir text ≡ None
base_not_text_at shown dir text is shown_text h = base_not_text dir text (subst IsUtf8 is shown_text) h

pub base_found_at : (dir bytes text path : List ℕ) → is_store_dir dir ≡ true → begins bytes dir ≡ true → text ≡ bytes
    → path ≡ base_of dir text → is_base_name path ≡ true → base_in dir bytes ≡ Some path
base_found_at dir bytes text path valid below same is named =
    let at : path ≡ base_of dir bytes = is ∙ ap (base_of dir) same in
    base_found dir bytes valid below (ap is_base_name (sym at) ∙ named) ∙ ap (λ (b : List ℕ). Some b) (sym at)
