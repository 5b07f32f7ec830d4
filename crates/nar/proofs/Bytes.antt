-- Bytes, and a name above another.
use Rattle.std.proofs.Common.{◌≡◌, ◌≢◌, ℕ, zero, suc, ◌+◌, ◌<◌, Bool, true, false, eqb, ltb, ◌&&◌, not, List, [], ◌∷◌}
use Rattle.std.proofs.Common.{◌++◌, Option, Some, None, refl, sym, ap, ◌∙◌, arith, lit<}
use Rattle.std.specs.Prelude.{IsTrue, codes, ⊤}
use Rattle.std.specs.List.{AllByRecursion, list_all}
use Rattle.std.specs.Str.{bytes_eq}
use Rattle.std.specs.Ordering.{nat_cmp, is_lt}
use Rattle.std.specs.Cmp.Lexicographic.{slice_cmp}
use Rattle.std.proofs.lemmas.Bool.{and_parts, ltb-true}
use Rattle.std.proofs.lemmas.List.Folds.{list_all-append}
use Rattle.std.proofs.lemmas.Slice.Eq.{bytes_eq-Decides}
use Rattle.nar.specs.Tree.{Tree, regular, symlink, directory, Entries, no_entries, entry, IsBytes, is_name, rises}
use Rattle.nar.specs.Tree.{IsLegal, AreLegal}
use Rattle.nar.specs.Archive.{Part, node, other, spelled, mark, kind_parts, entries_parts, archive}
use Rattle.nar.specs.Steps.{AreBytes}

pub IsBytes-nil : IsBytes []
IsBytes-nil i = lit< tt

pub IsBytes-cons : (b : ℕ) (bs : List ℕ) → b < 256 → IsBytes bs → IsBytes (b ∷ bs)
IsBytes-cons b bs h k zero = h
IsBytes-cons b bs h k (suc i) = k i

pub IsBytes-append : (a b : List ℕ) → IsBytes a → IsBytes b → IsBytes (a ++ b)
IsBytes-append [] b h k i = k i
IsBytes-append (x ∷ a) b h k zero = h 0
IsBytes-append (x ∷ a) b h k (suc i) = IsBytes-append a b (λ j. h (suc j)) k i

pub IsBytes-rest : (front rest : List ℕ) → IsBytes (front ++ rest) → IsBytes rest
IsBytes-rest [] rest h i = h i
IsBytes-rest (x ∷ front) rest h i = IsBytes-rest front rest (λ j. h (suc j)) i

pub IsBytes-prefix : (front rest : List ℕ) → IsBytes (front ++ rest) → IsBytes front
IsBytes-prefix [] rest h i = IsBytes-nil i
IsBytes-prefix (x ∷ front) rest h zero = h 0
IsBytes-prefix (x ∷ front) rest h (suc i) = IsBytes-prefix front rest (λ j. h (suc j)) i

-- bytes by a test that computes, as of a fixed word
pub tested_bytes : (s : List ℕ) → list_all (λ b. ltb b 256) s ≡ true → IsBytes s
tested_bytes [] e = IsBytes-nil
tested_bytes (b ∷ s) e = let both =
    and_parts (ltb b 256) (list_all (λ b. ltb b 256) s) e in
    IsBytes-cons b s (ltb-true b 256 both.0) (tested_bytes s both.1)

-- ---- all of two lists

pub all_append : {X : Type 0} (P : X → Type 0) (xs ys : List X) → AllByRecursion P xs → AllByRecursion P ys
    → AllByRecursion P (xs ++ ys)
all_append P [] ys h k = k
all_append P (x ∷ xs) ys h k = (h.0, all_append P xs ys h.1 k)

pub all_prefix : {X : Type 0} (P : X → Type 0) (xs ys : List X) → AllByRecursion P (xs ++ ys) → AllByRecursion P xs
all_prefix P [] ys h = tt
all_prefix P (x ∷ xs) ys h = (h.0, all_prefix P xs ys h.1)

-- ---- the strings of an archive are bytes

abbrev OfBytes : Part → Type 0
OfBytes p = IsBytes (spelled p)

word_bytes : (s : List ℕ) → list_all (λ b. ltb b 256) s ≡ true → OfBytes (other s)
word_bytes s e = tested_bytes s e

pub node_bytes : (d : ℕ) → IsBytes (spelled (node d))
node_bytes d = tested_bytes (codes "node") refl

mark_bytes : (x : Bool) → AreBytes (mark x)
mark_bytes true = (tested_bytes (codes "executable") refl, (IsBytes-nil, tt))
mark_bytes false = tt

close_bytes : AreBytes (other (codes ")") ∷ [])
close_bytes = (tested_bytes (codes ")") refl, tt)

bracketed_bytes : (kind : List Part) → AreBytes kind
    → AreBytes (other (codes "(") ∷ other (codes "type") ∷ (kind ++ other (codes ")") ∷ []))
bracketed_bytes kind h = (
  tested_bytes (codes "(") refl,
  (tested_bytes (codes "type") refl, all_append OfBytes kind (other (codes ")") ∷ []) h close_bytes),
)

mutual
  kind_bytes : (d : ℕ) (t : Tree) → IsLegal t → AreBytes (kind_parts d t)
  kind_bytes d (regular x c) h = (
    tested_bytes (codes "regular") refl,
    all_append OfBytes (mark x) (other (codes "contents") ∷ other c ∷ []) (mark_bytes x)
        (tested_bytes (codes "contents") refl, (h, tt)),
  )
  kind_bytes d (symlink target) h = (tested_bytes (codes "symlink") refl, (tested_bytes (codes "target") refl, (h, tt)))
  kind_bytes d (directory es) h = (tested_bytes (codes "directory") refl, entries_bytes d None es h)

  entries_bytes : (d : ℕ) (last : Option (List ℕ)) (es : Entries) → AreLegal last es → AreBytes (entries_parts d es)
  entries_bytes d last no_entries h = tt
  entries_bytes d last (entry n t es) h =
      let inner = bracketed_bytes (kind_parts (d + 1) t) (kind_bytes (d + 1) t h.3) in
      let others : AreBytes (other (codes ")") ∷ entries_parts d es) =
      (tested_bytes (codes ")") refl, entries_bytes d (Some n) es h.4) in (
        tested_bytes (codes "entry") refl,
        (
          tested_bytes (codes "(") refl,
          (
            tested_bytes (codes "name") refl,
            (
              h.0,
              (
                node_bytes (d + 1),
                (
                  inner.0,
                  (
                    inner.1.0,
                    all_append OfBytes (kind_parts (d + 1) t ++ other (codes ")") ∷ [])
                        (other (codes ")") ∷ entries_parts d es) inner.1.1 others,
                  ),
                ),
              ),
            ),
          ),
        ),
      )

pub archive_bytes : (t : Tree) → IsLegal t → AreBytes (archive t)
archive_bytes t h = (tested_bytes (codes "nix-archive-1") refl, bracketed_bytes (kind_parts 1 t) (kind_bytes 1 t h))

-- ---- a name above another

-- the name before, where there is one, is legal
abbrev pub IsLast : Option (List ℕ) → Type 0
IsLast None = ⊤
IsLast (Some n) = IsBytes n × IsTrue (is_name n)

pub differ : (s w : List ℕ) → s ≢ w → bytes_eq s w ≡ false
differ s w h = by_test (bytes_eq s w) refl
  where
    by_test : (b : Bool) → bytes_eq s w ≡ b → b ≡ false
    by_test true e = absurd (h ((bytes_eq-Decides s w).0 e))
    by_test false e = refl

longer_rises : (s : List ℕ) (b : ℕ) → is_lt (slice_cmp nat_cmp s (s ++ b ∷ [])) ≡ true
longer_rises [] b = refl
longer_rises (x ∷ s) b =
    let none : ltb x x ≡ false = grind arith in
    let same : eqb x x ≡ true = grind arith in
    rw (none, same) (longer_rises s b)

no_dots : (s : List ℕ) → list_all (λ b. eqb b 46) (s ++ 97 ∷ []) ≡ false
no_dots s = list_all-append (λ b. eqb b 46) s (97 ∷ []) ∙ and_false (list_all (λ b. eqb b 46) s)
  where
    and_false : (b : Bool) → (b && false) ≡ false
    and_false true = refl
    and_false false = refl

ends_in_no_dot : {A : Type 0} (s w : List ℕ) → list_all (λ b. eqb b 46) w ≡ true → s ++ 97 ∷ [] ≡ w → A
ends_in_no_dot s w dots e =
    (let q : true ≡ false = sym dots ∙ ap (list_all (λ b. eqb b 46)) (sym e) ∙ no_dots s in absurd cc)

plain : ℕ → Bool
plain b = not (eqb b 47) && not (eqb b 0)

-- some name is above
pub a_name_above : (last : Option (List ℕ)) → IsLast last
    → (n : List ℕ) × IsBytes n × IsTrue (is_name n) × IsTrue (rises last n)
a_name_above None h = (97 ∷ [], tested_bytes (97 ∷ []) refl, refl, refl)
a_name_above (Some s) h =
    let tests =
    and_parts (not (bytes_eq s []) && not (bytes_eq s (codes ".")) && not (bytes_eq s (codes "..")))
    (list_all (λ b. not (eqb b 47) && not (eqb b 0)) s) h.1 in
    let n : List ℕ = s ++ 97 ∷ [] in
    let empty : bytes_eq n [] ≡ false = differ n [] (λ e. ends_in_no_dot s [] refl e) in
    let dot : bytes_eq n (codes ".") ≡ false = differ n (codes ".") (λ e. ends_in_no_dot s (codes ".") refl e) in
    let dots : bytes_eq n (codes "..") ≡ false = differ n (codes "..") (λ e. ends_in_no_dot s (codes "..") refl e) in
    let unbroken : list_all (λ b. not (eqb b 47) && not (eqb b 0)) n ≡ true =
    list_all-append (λ b. not (eqb b 47) && not (eqb b 0)) s (97 ∷ []) ∙ rw (tests.1) refl in
    let legal : is_name n ≡ true = rw (empty, dot, dots, unbroken) refl in
    (n, IsBytes-append s (97 ∷ []) h.0 (tested_bytes (97 ∷ []) refl), legal, longer_rises s 97)
