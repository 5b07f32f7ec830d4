-- Bytes are the archive of one tree at most.
use Rattle.std.proofs.Common.{◌≡◌, ℕ, ◌+◌, ◌^◌, ◌≤◌, ◌<◌, true, false, List, [], ◌∷◌, ◌++◌, length, get_or, Some, Ok}
use Rattle.std.proofs.Common.{refl, sym, ap, ap₂, ◌∙◌, subst, append_assoc, arith}
use Rattle.std.specs.Prelude.{codes}
use Rattle.std.specs.List.{AllByRecursion}
use Rattle.std.proofs.lemmas.List.{length-append}
use Rattle.nar.specs.String.{string, size_of, string_at}
use Rattle.nar.specs.Steps.{Symbol, consumed, run, start, check}
use Rattle.nar.proofs.Grammar.{none_is_some, some_is, and_then_some, walk}
use Rattle.nar.proofs.Strings.{length-string, string_again}
use Rattle.nar.proofs.Machine.{check_consumed}
use Rattle.nar.proofs.Faults.{string_fits, ok_pair, ok_is}
use Rattle.nar.specs.Tree.{Tree, regular, symlink, directory, Entries, no_entries, entry}
use Rattle.nar.specs.Archive.{Part, other, spelled, bracketed, kind_parts, entries_parts, archive, IsShallow, IsArchive}
use Rattle.nar.specs.Archive.{spelling, limit}

abbrev Close : List Part → List Part
Close r = other (codes ")") ∷ r

tail_is : (p q : Part) (a b : List Part) → p ∷ a ≡ q ∷ b → (p ≡ q) × (a ≡ b)
tail_is p q a b e = (cc, cc)

other_is : (s t : List ℕ) (a b : List Part) → other s ∷ a ≡ other t ∷ b → (s ≡ t) × (a ≡ b)
other_is s t a b e = (cc, cc)

-- the first byte of the first string
abbrev first : List Part → ℕ
first [] = 0
first (p ∷ ps) = get_or (spelled p) 0 0

abbrev rest_of : List Part → List Part
rest_of [] = []
rest_of (p ∷ ps) = ps

ends_in_no_dot : {A : Type 0} (m n : ℕ) → m ≡ n → (m ≡ n → ⊥) → A
ends_in_no_dot m n e f = absurd (f e)

abbrev name_in : List Part → List ℕ
name_in [] = []
name_in (p ∷ ps) = spelled p

pub regrouped : (d : ℕ) (t : Tree) (es : Entries) (r : List Part)
    → ((kind_parts (d + 1) t ++ other (codes ")") ∷ []) ++ other (codes ")") ∷ entries_parts d es) ++ Close r
    ≡ kind_parts (d + 1) t ++ Close (Close (entries_parts d es ++ Close r))
regrouped d t es r =
    let close : List Part = other (codes ")") ∷ [] in
    let others : List Part = other (codes ")") ∷ entries_parts d es in
    append_assoc (kind_parts (d + 1) t ++ close) others (Close r)
    ∙ append_assoc (kind_parts (d + 1) t) close (others ++ Close r)

entries_same : (n n' : List ℕ) (t t' : Tree) (es fs : Entries) → n ≡ n' → t ≡ t' → es ≡ fs
    → entry n t es ≡ entry n' t' fs
entries_same n n' t t' es fs a b c = cc

mutual
  one_tree : (d : ℕ) (t u : Tree) (r q : List Part) → kind_parts d t ++ Close r ≡ kind_parts d u ++ Close q
      → (t ≡ u) × (r ≡ q)
  one_tree d (regular true c) (regular true c') r q e = (cc, cc)
  one_tree d (regular true c) (regular false c') r q e =
      ends_in_no_dot 101 99 (ap (λ l. first (rest_of l)) e) (λ h. omega arith)
  one_tree d (regular false c) (regular true c') r q e =
      ends_in_no_dot 99 101 (ap (λ l. first (rest_of l)) e) (λ h. omega arith)
  one_tree d (regular false c) (regular false c') r q e = (cc, cc)
  one_tree d (regular x c) (symlink t) r q e = ends_in_no_dot 114 115 (ap first e) (λ h. omega arith)
  one_tree d (regular x c) (directory es) r q e = ends_in_no_dot 114 100 (ap first e) (λ h. omega arith)
  one_tree d (symlink t) (regular x c) r q e = ends_in_no_dot 115 114 (ap first e) (λ h. omega arith)
  one_tree d (symlink t) (symlink t') r q e = (cc, cc)
  one_tree d (symlink t) (directory es) r q e = ends_in_no_dot 115 100 (ap first e) (λ h. omega arith)
  one_tree d (directory es) (regular x c) r q e = ends_in_no_dot 100 114 (ap first e) (λ h. omega arith)
  one_tree d (directory es) (symlink t) r q e = ends_in_no_dot 100 115 (ap first e) (λ h. omega arith)
  one_tree d (directory es) (directory fs) r q e =
      let h = one_list d es fs r q (ap rest_of e) in
      (ap directory h.0, h.1)

  one_list : (d : ℕ) (es fs : Entries) (r q : List Part) → entries_parts d es ++ Close r ≡ entries_parts d fs ++ Close q
      → (es ≡ fs) × (r ≡ q)
  one_list d no_entries no_entries r q e = (refl, ap rest_of e)
  one_list d no_entries (entry n t fs) r q e = ends_in_no_dot 41 101 (ap first e) (λ h. omega arith)
  one_list d (entry n t es) no_entries r q e = ends_in_no_dot 101 41 (ap first e) (λ h. omega arith)
  one_list d (entry n t es) (entry n' t' fs) r q e =
      let names : n ≡ n' = ap (λ l. name_in (rest_of (rest_of (rest_of l)))) e in
      let kinds : kind_parts (d + 1) t ++ Close (Close (entries_parts d es ++ Close r))
      ≡ kind_parts (d + 1) t' ++ Close (Close (entries_parts d fs ++ Close q)) =
      sym (regrouped d t es r) ∙ ap (λ l. rest_of (rest_of (rest_of (rest_of (rest_of (rest_of (rest_of l))))))) e
      ∙ regrouped d t' fs q in
      let h =
      one_tree (d + 1) t t' (Close (entries_parts d es ++ Close r)) (Close (entries_parts d fs ++ Close q)) kinds in
      let k = one_list d es fs r q (ap rest_of h.1) in
      (entries_same n n' t t' es fs names h.0 k.0, k.1)

bracketed_is : (t : Tree) → bracketed (kind_parts 1 t)
    ≡ other (codes "(") ∷ other (codes "type") ∷ (kind_parts 1 t ++ Close [])
bracketed_is t = refl

pub one_archive : (t u : Tree) → archive t ≡ archive u → t ≡ u
one_archive t u e = (one_tree 1 t u [] [] (ap (λ l. rest_of (rest_of (rest_of l))) e)).0

-- parts that the machine takes to its end are known by their bytes
same_parts : (ps qs : List Part) (σ : List Symbol) (room : ℕ) → run σ ps ≡ Some [] → run σ qs ≡ Some []
    → AllByRecursion IsShallow ps → AllByRecursion IsShallow qs
    → length (spelling ps) ≤ room → room < 2 ^ 64 → spelling ps ≡ spelling qs → ps ≡ qs
same_parts [] [] σ room at bt hp hq fits lt e = refl
same_parts [] (q ∷ qs) [] room at bt hp hq fits lt e = none_is_some [] bt
same_parts [] (q ∷ qs) (x ∷ κ) room at bt hp hq fits lt e = (let no : x ∷ κ ≡ [] = some_is (x ∷ κ) [] at in absurd cc)
same_parts (p ∷ ps) [] [] room at bt hp hq fits lt e = none_is_some [] at
same_parts (p ∷ ps) [] (x ∷ κ) room at bt hp hq fits lt e = (let no : x ∷ κ ≡ [] = some_is (x ∷ κ) [] bt in absurd cc)
same_parts (p ∷ ps) (q ∷ qs) [] room at bt hp hq fits lt e = none_is_some [] at
same_parts (p ∷ ps) (q ∷ qs) (x ∷ κ) room at bt hp hq fits lt e =
    let a = and_then_some (consumed x p) (λ σ. run (σ ++ κ) ps) [] at in
    let b = and_then_some (consumed x q) (λ σ. run (σ ++ κ) qs) [] bt in
    let s : List ℕ = spelled p in
    let t : List ℕ = spelled q in
    let one : length (string s ++ spelling ps) ≡ size_of (length s) + length (spelling ps) =
    length-append (string s) (spelling ps) ∙ ap (λ (k : ℕ). k + length (spelling ps)) (length-string s) in
    let two : length (string t ++ spelling qs) ≡ size_of (length t) + length (spelling qs) =
    length-append (string t) (spelling qs) ∙ ap (λ (k : ℕ). k + length (spelling qs)) (length-string t) in
    let both : length (string s ++ spelling ps) ≡ length (string t ++ spelling qs) = ap length e in
    let fits2 : length (string s ++ spelling ps) ≤ room = fits in
    let fs = string_fits s room (omega (arith, length-string s)) lt in
    let ft = string_fits t room (omega (arith, length-string t)) lt in
    let ip : string_at room (string s ++ spelling ps) ≡ Ok (s, spelling ps) =
    string_again room s (spelling ps) fs.0 fs.1 in
    let iq : string_at room (string t ++ spelling qs) ≡ Ok (t, spelling qs) =
    string_again room t (spelling qs) ft.0 ft.1 in
    let pair =
    ok_pair (spelling ps) (spelling qs) (string_at room (string s ++ spelling ps)) s t ip
    (ap (string_at room) e ∙ iq) in
    let same : p ≡ q =
    ok_is (check x s) p q (check_consumed x p a.0 a.1 hp.0)
    (ap (check x) pair.0 ∙ check_consumed x q b.0 b.1 hq.0) in
    let left : a.0 ≡ b.0 = some_is a.0 b.0 (sym a.1 ∙ ap (consumed x) same ∙ b.1) in
    let later =
    same_parts ps qs (a.0 ++ κ) room a.2 (subst (λ (v : List Symbol). run (v ++ κ) qs ≡ Some []) (sym left) b.2)
    hp.1 hq.1 (omega arith) lt pair.1 in
    ap₂ (λ (v : Part) (w : List Part). v ∷ w) same later

-- bytes are the archive of one tree at most
pub one_reading : (t u : Tree) (input : List ℕ) → IsArchive t input → IsArchive u input → t ≡ u
one_reading t u input a b =
    let fits : length (spelling (archive t)) ≤ limit = subst (λ (v : List ℕ). length v ≤ limit) a.spells a.fits in
    one_archive t u (same_parts (archive t) (archive u) start limit (walk t a.legal) (walk u b.legal) a.shallow
    b.shallow fits (omega arith) (sym a.spells ∙ b.spells))
