-- What the step machine takes is what begins an archive.
use Rattle.std.proofs.Common.{◌≡◌, ℕ, ◌+◌, Bool, true, false, cond, eqb, ◌&&◌, List, [], ◌∷◌, ◌++◌, Option, Some, None}
use Rattle.std.proofs.Common.{refl, sym, ap, ap₂, ◌∙◌, subst, append_assoc, arith, inl, inr, ◌⊎◌}
use Rattle.std.specs.Prelude.{IsTrue, codes, option_and_then, ⊤}
use Rattle.std.specs.Str.{bytes_eq}
use Rattle.std.specs.List.{AllByRecursion}
use Rattle.std.proofs.lemmas.Slice.Eq.{bytes_eq-Decides}
use Rattle.std.proofs.lemmas.Bool.{eqb-true, and_parts}
use Rattle.nar.specs.Tree.{Tree, regular, symlink, directory, Entries, no_entries, entry, IsBytes, is_name, rises}
use Rattle.nar.specs.Tree.{IsLegal, AreLegal}
use Rattle.nar.specs.Archive.{Part, name, node, other, spelled, mark, bracketed, kind_parts, entries_parts, archive}
use Rattle.nar.specs.Steps.{Symbol, word, any, kind, file, entries, entry_name, node_word, after_name, consumed, run}
use Rattle.nar.specs.Steps.{start, AreBytes}
use Rattle.nar.proofs.Bytes.{IsBytes-nil, all_append, IsLast, a_name_above}

-- ---- the machine takes each archive

pub eqb-same : (n : ℕ) → eqb n n ≡ true
eqb-same n = grind arith

mutual
  pub walk_kind : (d : ℕ) (t : Tree) (κ : List Symbol) (r : List Part) → IsLegal t
      → run (kind d ∷ κ) (kind_parts d t ++ other (codes ")") ∷ r) ≡ run κ r
  walk_kind d (regular true c) κ r h = refl
  walk_kind d (regular false c) κ r h = refl
  walk_kind d (symlink target) κ r h = refl
  walk_kind d (directory es) κ r h = walk_entries d None es κ r h

  pub walk_entries : (d : ℕ) (last : Option (List ℕ)) (es : Entries) (κ : List Symbol) (r : List Part)
      → AreLegal last es → run (entries d last ∷ κ) (entries_parts d es ++ other (codes ")") ∷ r) ≡ run κ r
  walk_entries d last no_entries κ r h = refl
  walk_entries d last (entry n t es) κ r h =
      let inside : List Symbol = word (codes ")") ∷ entries d (Some n) ∷ κ in
      let close : List Part = other (codes ")") ∷ [] in
      let k : List Part = kind_parts (d + 1) t in
      let others : List Part = other (codes ")") ∷ entries_parts d es in
      let behind : List Part = others ++ other (codes ")") ∷ r in
      let named : IsTrue (is_name n) = h.1 in
      let above : IsTrue (rises last n) = h.2 in
      rw (named, above, eqb-same (d + 1))
      (ap (run (kind (d + 1) ∷ inside))
      (append_assoc (k ++ close) others (other (codes ")") ∷ r) ∙ append_assoc k close behind)
      ∙ walk_kind (d + 1) t inside behind h.3 ∙ walk_entries d (Some n) es κ r h.4)

pub walk : (t : Tree) → IsLegal t → run start (archive t) ≡ Some []
walk t h = walk_kind 1 t [] [] h

-- ---- a prefix of what the machine takes

consumed-append : (o : Option (List Symbol)) (κ : List Symbol) (ps rest : List Part)
    → ((σ : List Symbol) → run σ (ps ++ rest) ≡ option_and_then (λ τ. run τ rest) (run σ ps))
    → option_and_then (λ σ. run (σ ++ κ) (ps ++ rest)) o
    ≡ option_and_then (λ τ. run τ rest) (option_and_then (λ σ. run (σ ++ κ) ps) o)
consumed-append None κ ps rest h = refl
consumed-append (Some σ) κ ps rest h = h (σ ++ κ)

pub run-append : (σ : List Symbol) (ps rest : List Part)
    → run σ (ps ++ rest) ≡ option_and_then (λ τ. run τ rest) (run σ ps)
run-append σ [] rest = refl
run-append [] (p ∷ ps) rest = refl
run-append (x ∷ κ) (p ∷ ps) rest = consumed-append (consumed x p) κ ps rest (λ σ. run-append σ ps rest)

-- ---- what is still to come: the symbols' parts, one after the other

abbrev pub Rest : List Symbol → List Part → Type 0
Rest [] r = r ≡ []
Rest (word w ∷ κ) r = (r' : List Part) × (r ≡ other w ∷ r') × Rest κ r'
Rest (any ∷ κ) r = (s : List ℕ) × (r' : List Part) × (r ≡ other s ∷ r') × IsBytes s × Rest κ r'
Rest (kind d ∷ κ) r =
    (t : Tree) × (r' : List Part) × (r ≡ kind_parts d t ++ other (codes ")") ∷ r') × IsLegal t × Rest κ r'
Rest (file ∷ κ) r =
    (x : Bool) × (s : List ℕ) × (r' : List Part)
    × (r ≡ mark x ++ other (codes "contents") ∷ other s ∷ other (codes ")") ∷ r') × IsBytes s × Rest κ r'
Rest (entries d last ∷ κ) r =
    (es : Entries) × (r' : List Part) × (r ≡ entries_parts d es ++ other (codes ")") ∷ r') × AreLegal last es
    × Rest κ r'
Rest (entry_name d last ∷ κ) r = (n : List ℕ) × (t : Tree) × (es : Entries) × (r' : List Part)
    × (r ≡ name n ∷ node (d + 1) ∷ ((bracketed (kind_parts (d + 1) t) ++ other (codes ")") ∷ entries_parts d es)
    ++ other (codes ")") ∷ r'))
    × IsBytes n × IsTrue (is_name n) × IsTrue (rises last n) × IsLegal t × AreLegal (Some n) es × Rest κ r'
Rest (node_word d ∷ κ) r = (r' : List Part) × (r ≡ node d ∷ r') × Rest κ r'

-- ---- the names before are legal

-- where an entry may follow, the name before is legal
abbrev pub IsOpen : Symbol → Type 0
IsOpen (entries d last) = IsLast last
IsOpen (entry_name d last) = IsLast last
IsOpen (word w) = ⊤
IsOpen any = ⊤
IsOpen (kind d) = ⊤
IsOpen file = ⊤
IsOpen (node_word d) = ⊤

abbrev pub AreOpen : List Symbol → Type 0
AreOpen σ = AllByRecursion IsOpen σ

pub start_open : AreOpen start
start_open = (tt, (tt, (tt, (tt, tt))))

pub completed : (σ : List Symbol) → AreOpen σ → (r : List Part) × Rest σ r
completed [] h = ([], refl)
completed (word w ∷ κ) h = let c = completed κ h.1 in (other w ∷ c.0, (c.0, refl, c.1))
completed (any ∷ κ) h = let c = completed κ h.1 in (other [] ∷ c.0, ([], c.0, refl, IsBytes-nil, c.1))
completed (kind d ∷ κ) h = let c =
    completed κ h.1 in (kind_parts d (symlink []) ++ other (codes ")") ∷ c.0, (symlink [], c.0, refl, IsBytes-nil, c.1))
completed (file ∷ κ) h = let c =
    completed κ h.1 in (
      mark false ++ other (codes "contents") ∷ other [] ∷ other (codes ")") ∷ c.0,
      (false, [], c.0, refl, IsBytes-nil, c.1),
    )
completed (entries d last ∷ κ) h = let c =
    completed κ h.1 in (other (codes ")") ∷ c.0, (no_entries, c.0, refl, tt, c.1))
completed (entry_name d last ∷ κ) h =
    let c = completed κ h.1 in
    let n = a_name_above last h.0 in
    let t : Tree = symlink [] in (
      name n.0 ∷ node (d + 1) ∷ ((bracketed (kind_parts (d + 1) t) ++ other (codes ")") ∷ [])
          ++ other (codes ")") ∷ c.0),
      (n.0, t, no_entries, c.0, refl, n.1, n.2, n.3, IsBytes-nil, tt, c.1),
    )
completed (node_word d ∷ κ) h = let c = completed κ h.1 in (node d ∷ c.0, (c.0, refl, c.1))

-- ---- one part back

pub chosen : {A : Type 0} (b : Bool) (x y z : A) → cond b x y ≡ z → ((b ≡ true) × (x ≡ z)) ⊎ ((b ≡ false) × (y ≡ z))
chosen true x y z e = inl (refl, e)
chosen false x y z e = inr (refl, e)

pub same_bytes : (s w : List ℕ) → bytes_eq s w ≡ true → s ≡ w
same_bytes s w e = (bytes_eq-Decides s w).0 e

pub none_is_some : {A : Type 0} {B : Type 0} (x : A) → None ≡ Some x → B
none_is_some x e = absurd cc

pub some_is : {A : Type 0} (x y : A) → Some x ≡ Some y → x ≡ y
some_is x y e = cc

-- the rest, where the symbols before it are known
moved : (σ τ κ : List Symbol) (r : List Part) → Some σ ≡ Some τ → Rest (τ ++ κ) r → Rest (σ ++ κ) r
moved σ τ κ r e h = subst (λ (v : List Symbol). Rest (v ++ κ) r) (sym (some_is σ τ e)) h

regular_back : (d : ℕ) (s : List ℕ) (κ : List Symbol) (r : List Part) → s ≡ codes "regular" → Rest (file ∷ κ) r
    → Rest (kind d ∷ κ) (other s ∷ r)
regular_back d s κ r is (x, c, r', e, b, more) = (
  regular x c,
  r',
  ap₂ (λ (v : List ℕ) (w : List Part). other v ∷ w) is
      (e ∙ sym (append_assoc (mark x) (other (codes "contents") ∷ other c ∷ []) (other (codes ")") ∷ r'))),
  b,
  more,
)

symlink_back : (d : ℕ) (s : List ℕ) (κ : List Symbol) (r : List Part) → s ≡ codes "symlink"
    → Rest (word (codes "target") ∷ any ∷ word (codes ")") ∷ κ) r → Rest (kind d ∷ κ) (other s ∷ r)
symlink_back d s κ r is (r1, e1, (t, r2, e2, b, (r3, e3, more))) = (symlink t, r3, rw (is, e1, e2, e3) refl, b, more)

directory_back : (d : ℕ) (s : List ℕ) (κ : List Symbol) (r : List Part) → s ≡ codes "directory"
    → Rest (entries d None ∷ κ) r → Rest (kind d ∷ κ) (other s ∷ r)
directory_back d s κ r is (es, r', e, named, more) =
    (directory es, r', ap₂ (λ (v : List ℕ) (w : List Part). other v ∷ w) is e, named, more)

executable_back : (s : List ℕ) (κ : List Symbol) (r : List Part) → s ≡ codes "executable"
    → Rest (word [] ∷ word (codes "contents") ∷ any ∷ word (codes ")") ∷ κ) r → Rest (file ∷ κ) (other s ∷ r)
executable_back s κ r is (r1, e1, (r2, e2, (c, r3, e3, b, (r4, e4, more)))) =
    (true, c, r4, rw (is, e1, e2, e3, e4) refl, b, more)

contents_back : (s : List ℕ) (κ : List Symbol) (r : List Part) → s ≡ codes "contents"
    → Rest (any ∷ word (codes ")") ∷ κ) r → Rest (file ∷ κ) (other s ∷ r)
contents_back s κ r is (c, r3, e3, b, (r4, e4, more)) = (false, c, r4, rw (is, e3, e4) refl, b, more)

close_back : (d : ℕ) (last : Option (List ℕ)) (s : List ℕ) (κ : List Symbol) (r : List Part) → s ≡ codes ")" → Rest κ r
    → Rest (entries d last ∷ κ) (other s ∷ r)
close_back d last s κ r is more = (no_entries, r, rw is refl, tt, more)

entry_back : (d : ℕ) (last : Option (List ℕ)) (s : List ℕ) (κ : List Symbol) (r : List Part) → s ≡ codes "entry"
    → Rest (word (codes "(") ∷ word (codes "name") ∷ entry_name d last ∷ κ) r → Rest (entries d last ∷ κ) (other s ∷ r)
entry_back d last s κ r is (r1, e1, (r2, e2, (n, t, es, r3, e3, hb, hn, hr, ht, hes, more))) =
    (entry n t es, r3, rw (is, e1, e2, e3) refl, (hb, hn, hr, ht, hes), more)

name_back : (d : ℕ) (last : Option (List ℕ)) (n : List ℕ) (κ : List Symbol) (r : List Part) → IsBytes n
    → IsTrue (is_name n) → IsTrue (rises last n) → Rest (after_name d n ++ κ) r
    → Rest (entry_name d last ∷ κ) (name n ∷ r)
name_back d last n κ r hb hn hr (r1, e1, (r2, e2, (r3, e3, (t, r4, e4, ht, (r5, e5, (es, r6, e6, hes, more)))))) =
    let close : List Part = other (codes ")") ∷ [] in
    let k : List Part = kind_parts (d + 1) t in
    let others : List Part = other (codes ")") ∷ entries_parts d es in
    let tail : List Part = other (codes ")") ∷ r6 in
    let grouped : (k ++ close ++ others) ++ tail ≡ k ++ (close ++ (others ++ tail)) =
    append_assoc (k ++ close) others tail ∙ append_assoc k close (others ++ tail) in (
      n,
      t,
      es,
      r6,
      rw (e1, e2, e3, e4, e5, e6)
          (ap (λ (w : List Part). name n ∷ node (d + 1) ∷ other (codes "(") ∷ other (codes "type") ∷ w) (sym grouped)),
      hb,
      hn,
      hr,
      ht,
      hes,
      more,
    )

pub back : (x : Symbol) (p : Part) (σ κ : List Symbol) (r : List Part) → IsBytes (spelled p) → consumed x p ≡ Some σ
    → Rest (σ ++ κ) r → Rest (x ∷ κ) (p ∷ r)
back (word w) (other s) σ κ r b e h =
    elim (chosen (bytes_eq s w) (Some []) None (Some σ) e) [
      | inl c ↦ (r, ap (λ (v : List ℕ). other v ∷ r) (same_bytes s w c.0), moved [] σ κ r c.1 h)
      | inr c ↦ none_is_some σ c.1
    ]
back (word w) (name s) σ κ r b e h = none_is_some σ e
back (word w) (node d) σ κ r b e h = none_is_some σ e
back any (other s) σ κ r b e h = (s, r, refl, b, moved [] σ κ r e h)
back any (name s) σ κ r b e h = none_is_some σ e
back any (node d) σ κ r b e h = none_is_some σ e
back (kind d) (other s) σ κ r b e h =
    elim (chosen (bytes_eq s (codes "regular")) _ _ (Some σ) e) [
      | inl c ↦ regular_back d s κ r (same_bytes s _ c.0) (moved _ σ κ r c.1 h)
      | inr c ↦ elim (chosen (bytes_eq s (codes "symlink")) _ _ (Some σ) c.1) [
        | inl c2 ↦ symlink_back d s κ r (same_bytes s _ c2.0) (moved _ σ κ r c2.1 h)
        | inr c2 ↦ elim (chosen (bytes_eq s (codes "directory")) _ _ (Some σ) c2.1) [
          | inl c3 ↦ directory_back d s κ r (same_bytes s _ c3.0) (moved _ σ κ r c3.1 h)
          | inr c3 ↦ none_is_some σ c3.1
        ]
      ]
    ]
back (kind d) (name s) σ κ r b e h = none_is_some σ e
back (kind d) (node d') σ κ r b e h = none_is_some σ e
back file (other s) σ κ r b e h =
    elim (chosen (bytes_eq s (codes "executable")) _ _ (Some σ) e) [
      | inl c ↦ executable_back s κ r (same_bytes s _ c.0) (moved _ σ κ r c.1 h)
      | inr c ↦ elim (chosen (bytes_eq s (codes "contents")) _ _ (Some σ) c.1) [
        | inl c2 ↦ contents_back s κ r (same_bytes s _ c2.0) (moved _ σ κ r c2.1 h)
        | inr c2 ↦ none_is_some σ c2.1
      ]
    ]
back file (name s) σ κ r b e h = none_is_some σ e
back file (node d) σ κ r b e h = none_is_some σ e
back (entries d last) (other s) σ κ r b e h =
    elim (chosen (bytes_eq s (codes ")")) _ _ (Some σ) e) [
      | inl c ↦ close_back d last s κ r (same_bytes s _ c.0) (moved [] σ κ r c.1 h)
      | inr c ↦ elim (chosen (bytes_eq s (codes "entry")) _ _ (Some σ) c.1) [
        | inl c2 ↦ entry_back d last s κ r (same_bytes s _ c2.0) (moved _ σ κ r c2.1 h)
        | inr c2 ↦ none_is_some σ c2.1
      ]
    ]
back (entries d last) (name s) σ κ r b e h = none_is_some σ e
back (entries d last) (node d') σ κ r b e h = none_is_some σ e
back (entry_name d last) (name n) σ κ r b e h =
    elim (chosen (is_name n && rises last n) (Some (after_name d n)) None (Some σ) e) [
      | inl c ↦ let both =
          and_parts (is_name n) (rises last n) c.0 in
          name_back d last n κ r b both.0 both.1 (moved (after_name d n) σ κ r c.1 h)
      | inr c ↦ none_is_some σ c.1
    ]
back (entry_name d last) (other s) σ κ r b e h = none_is_some σ e
back (entry_name d last) (node d') σ κ r b e h = none_is_some σ e
back (node_word d) (node d') σ κ r b e h =
    elim (chosen (eqb d' d) (Some []) None (Some σ) e) [
      | inl c ↦ (r, ap (λ (v : ℕ). node v ∷ r) (eqb-true d' d c.0), moved [] σ κ r c.1 h)
      | inr c ↦ none_is_some σ c.1
    ]
back (node_word d) (other s) σ κ r b e h = none_is_some σ e
back (node_word d) (name s) σ κ r b e h = none_is_some σ e

-- ---- the names before stay legal

opened : (τ σ : List Symbol) → Some τ ≡ Some σ → AreOpen τ → AreOpen σ
opened τ σ e h = subst AreOpen (some_is τ σ e) h

consumed_open : (x : Symbol) (p : Part) (σ : List Symbol) → IsOpen x → IsBytes (spelled p) → consumed x p ≡ Some σ
    → AreOpen σ
consumed_open (word w) (other s) σ h b e =
    elim (chosen (bytes_eq s w) (Some []) None (Some σ) e) [
      | inl c ↦ opened [] σ c.1 tt
      | inr c ↦ none_is_some σ c.1
    ]
consumed_open any (other s) σ h b e = opened [] σ e tt
consumed_open (kind d) (other s) σ h b e =
    elim (chosen (bytes_eq s (codes "regular")) _ _ (Some σ) e) [
      | inl c ↦ opened _ σ c.1 (tt, tt)
      | inr c ↦ elim (chosen (bytes_eq s (codes "symlink")) _ _ (Some σ) c.1) [
        | inl c2 ↦ opened _ σ c2.1 (tt, (tt, (tt, tt)))
        | inr c2 ↦ elim (chosen (bytes_eq s (codes "directory")) _ _ (Some σ) c2.1) [
          | inl c3 ↦ opened _ σ c3.1 (tt, tt)
          | inr c3 ↦ none_is_some σ c3.1
        ]
      ]
    ]
consumed_open file (other s) σ h b e =
    elim (chosen (bytes_eq s (codes "executable")) _ _ (Some σ) e) [
      | inl c ↦ opened _ σ c.1 (tt, (tt, (tt, (tt, tt))))
      | inr c ↦ elim (chosen (bytes_eq s (codes "contents")) _ _ (Some σ) c.1) [
        | inl c2 ↦ opened _ σ c2.1 (tt, (tt, tt))
        | inr c2 ↦ none_is_some σ c2.1
      ]
    ]
consumed_open (entries d last) (other s) σ h b e =
    elim (chosen (bytes_eq s (codes ")")) _ _ (Some σ) e) [
      | inl c ↦ opened [] σ c.1 tt
      | inr c ↦ elim (chosen (bytes_eq s (codes "entry")) _ _ (Some σ) c.1) [
        | inl c2 ↦ opened _ σ c2.1 (tt, (tt, (h, tt)))
        | inr c2 ↦ none_is_some σ c2.1
      ]
    ]
consumed_open (entry_name d last) (name n) σ h b e =
    elim (chosen (is_name n && rises last n) (Some (after_name d n)) None (Some σ) e) [
      | inl c ↦ let both =
          and_parts (is_name n) (rises last n) c.0 in
          opened (after_name d n) σ c.1 (tt, (tt, (tt, (tt, (tt, ((b, both.0), tt))))))
      | inr c ↦ none_is_some σ c.1
    ]
consumed_open (node_word d) (node d') σ h b e =
    elim (chosen (eqb d' d) (Some []) None (Some σ) e) [
      | inl c ↦ opened [] σ c.1 tt
      | inr c ↦ none_is_some σ c.1
    ]
consumed_open _ _ σ h b e = none_is_some σ e

pub and_then_some : {A B : Type 0} (o : Option A) (f : A → Option B) (y : B) → option_and_then f o ≡ Some y
    → (x : A) × (o ≡ Some x) × (f x ≡ Some y)
and_then_some None f y e = none_is_some y e
and_then_some (Some x) f y e = (x, refl, e)

run_open : (ps : List Part) (σ τ : List Symbol) → AreOpen σ → AreBytes ps → run σ ps ≡ Some τ → AreOpen τ
run_open [] σ τ h b e = opened σ τ e h
run_open (p ∷ ps) [] τ h b e = none_is_some τ e
run_open (p ∷ ps) (x ∷ κ) τ h b e =
    let a = and_then_some (consumed x p) (λ σ. run (σ ++ κ) ps) τ e in
    run_open ps (a.0 ++ κ) τ (all_append IsOpen a.0 κ (consumed_open x p a.0 h.0 b.0 a.1) h.1) b.1 a.2

-- the names before are legal, wherever the machine comes to
pub open_from_run : (ps : List Part) (σ : List Symbol) → AreBytes ps → run start ps ≡ Some σ → AreOpen σ
open_from_run ps σ b e = run_open ps start σ start_open b e
