-- A directory's entries, read one after the other.
use Rattle.std.proofs.Common.{◌≡◌, ℕ, ◌+◌, true, false, List, [], ◌∷◌, ◌++◌, Option, Some, None, refl, sym, ap, ◌∙◌}
use Rattle.std.proofs.Common.{subst, append_assoc, length, ◌<◌, ◌≤◌, arith}
use Rattle.std.specs.Prelude.{codes, IsTrue, option_and_then}
use Rattle.nar.specs.declared.node.Entry.{Entry}
use Rattle.nar.specs.Tree.{Tree, regular, symlink, directory, Entries, no_entries, entry, is_name, rises, IsLegal}
use Rattle.nar.specs.Tree.{AreLegal, IsBytes}
use Rattle.nar.specs.Archive.{spelling, Part, name, node, other, bracketed, kind_parts, entries_parts}
use Rattle.nar.specs.Steps.{Symbol, word, kind, entries, entry_name, after_name, run}
use Rattle.nar.specs.Reader.{entry_rest, kind_word, kind_rest, ReadsString, Reads, ReadsKind, ReadsNode}
use Rattle.nar.specs.View.{pair_of, trees_of}
use Rattle.nar.proofs.Grammar.{eqb-same, walk_kind, run-append}
use Rattle.nar.proofs.Strings.{length-string}
use Rattle.nar.proofs.Taking.{reads_then}
use Rattle.std.proofs.lemmas.List.{length-append}
use Rattle.nar.specs.String.{string}

-- the name that was last
abbrev pub last_name : Option (List ℕ) → Entries → Option (List ℕ)
last_name last no_entries = last
last_name last (entry n t es) = last_name (Some n) es

-- the machine goes over whole entries
pub run_entries : (d : ℕ) (last : Option (List ℕ)) (es : Entries) (κ : List Symbol) → AreLegal last es
    → run (entries d last ∷ κ) (entries_parts d es) ≡ Some (entries d (last_name last es) ∷ κ)
run_entries d last no_entries κ h = refl
run_entries d last (entry n t es) κ h =
    let inside : List Symbol = word (codes ")") ∷ entries d (Some n) ∷ κ in
    let close : List Part = other (codes ")") ∷ [] in
    let k : List Part = kind_parts (d + 1) t in
    let others : List Part = other (codes ")") ∷ entries_parts d es in
    let named : IsTrue (is_name n) = h.1 in
    let above : IsTrue (rises last n) = h.2 in
    rw (named, above, eqb-same (d + 1))
    (ap (run (kind (d + 1) ∷ inside)) (append_assoc k close others) ∙ walk_kind (d + 1) t inside others h.3
    ∙ run_entries d (Some n) es κ h.4)

-- one entry more
pub entries_parts-push : (d : ℕ) (es : List Entry) (e : Entry)
    → entries_parts d (trees_of (es ++ e ∷ []))
    ≡ entries_parts d (trees_of es) ++ other (codes "entry") ∷ entry_rest d (pair_of e)
entries_parts-push d [] e = refl
entries_parts-push d (f ∷ es) e =
    let p = pair_of f in
    let k : List Part = kind_parts (d + 1) p.1 in
    let close : List Part = other (codes ")") ∷ [] in
    let x : List Part = other (codes "entry") ∷ entry_rest d (pair_of e) in
    ap (λ (w : List Part). other (codes "entry") ∷ other (codes "(") ∷ other (codes "name") ∷ name p.0 ∷ node (d + 1)
    ∷ other (codes "(") ∷ other (codes "type") ∷ w)
    (ap (λ (v : List Part). (k ++ close) ++ other (codes ")") ∷ v) (entries_parts-push d es e)
    ∙ sym (append_assoc (k ++ close) (other (codes ")") ∷ entries_parts d (trees_of es)) x))

pub last_name-push : (last : Option (List ℕ)) (es : List Entry) (e : Entry)
    → last_name last (trees_of (es ++ e ∷ [])) ≡ Some (pair_of e).0
last_name-push last [] e = refl
last_name-push last (f ∷ es) e = last_name-push (Some (pair_of f).0) es e

pub AreLegal-push : (last : Option (List ℕ)) (es : List Entry) (e : Entry) → AreLegal last (trees_of es)
    → IsBytes (pair_of e).0 → IsTrue (is_name (pair_of e).0)
    → IsTrue (rises (last_name last (trees_of es)) (pair_of e).0) → IsLegal (pair_of e).1
    → AreLegal last (trees_of (es ++ e ∷ []))
AreLegal-push last [] e h bytes legal above named = (bytes, legal, above, named, tt)
AreLegal-push last (f ∷ es) e h bytes legal above named =
    (h.0, h.1, h.2, h.3, AreLegal-push (Some (pair_of f).0) es e h.4 bytes legal above named)

-- whole entries, and the word before the next
pub run_to_entry : (d : ℕ) (es : Entries) (κ : List Symbol) → AreLegal None es
    → run (entries d None ∷ κ) (entries_parts d es ++ other (codes "entry") ∷ [])
    ≡ Some (word (codes "(") ∷ word (codes "name") ∷ entry_name d (last_name None es) ∷ κ)
run_to_entry d es κ h =
    run-append (entries d None ∷ κ) (entries_parts d es) (other (codes "entry") ∷ [])
    ∙ ap (option_and_then (λ τ. run τ (other (codes "entry") ∷ []))) (run_entries d None es κ h)

-- a node is the word of its kind and the rest in brackets
pub kind_split : (d : ℕ) (t : Tree) → kind_parts d t ++ other (codes ")") ∷ [] ≡ other (kind_word t) ∷ kind_rest d t
kind_split d (regular true c) = refl
kind_split d (regular false c) = refl
kind_split d (symlink t) = refl
kind_split d (directory es) = refl

pub node_read : (w : List ℕ) (d : ℕ) {room : ℕ} {bytes : List ℕ} {left : ℕ} {rest : List ℕ} {t : Tree} {more : ℕ}
    {end : List ℕ}
    → Reads room bytes (other (codes "(") ∷ other (codes "type") ∷ other w ∷ []) left rest
    → ReadsKind w d left rest t more end → ReadsNode d room bytes t more end
node_read w d {room = room} {bytes = bytes} {t = t} {more = more} {end = end} r k =
    let all = reads_then r k.parts in
    let same : other (codes "(") ∷ other (codes "type") ∷ other w ∷ kind_rest d t ≡ bracketed (kind_parts d t) =
    ap (λ (v : List Part). other (codes "(") ∷ other (codes "type") ∷ v)
    (ap (λ (v : List ℕ). other v ∷ kind_rest d t) (sym k.is_kind) ∙ sym (kind_split d t)) in
    record { named = k.named; parts = subst (λ (ps : List Part). Reads room bytes ps more end) same all }

pub string_shorter : {room : ℕ} {bytes s : List ℕ} {left : ℕ} {rest : List ℕ} → ReadsString room bytes s left rest
    → length rest < length bytes
string_shorter {s = s} {rest = rest} r =
    omega (arith, ap length r.parts, length-append (string s) rest, length-string s)

pub parts_shorter : {room : ℕ} {bytes : List ℕ} {ps : List Part} {left : ℕ} {rest : List ℕ}
    → Reads room bytes ps left rest → length rest ≤ length bytes
parts_shorter {ps = ps} {rest = rest} r = omega (arith, ap length r.spells, length-append (spelling ps) rest)

-- an entry's name, and its node
pub run_name : (d : ℕ) (last : Option (List ℕ)) (n : List ℕ) (κ : List Symbol) → IsTrue (is_name n)
    → IsTrue (rises last n)
    → run (word (codes "(") ∷ word (codes "name") ∷ entry_name d last ∷ κ)
    (other (codes "(") ∷ other (codes "name") ∷ name n ∷ []) ≡ Some (after_name d n ++ κ)
run_name d last n κ legal above = rw (legal, above) refl

pub run_word : (d : ℕ) (last : Option (List ℕ)) (n : List ℕ) (κ : List Symbol) → IsTrue (is_name n)
    → IsTrue (rises last n)
    → run (word (codes "(") ∷ word (codes "name") ∷ entry_name d last ∷ κ)
    (other (codes "(") ∷ other (codes "name") ∷ name n ∷ node (d + 1) ∷ [])
    ≡ Some (word (codes "(") ∷ word (codes "type") ∷ kind (d + 1) ∷ word (codes ")") ∷ entries d (Some n) ∷ κ)
run_word d last n κ legal above = rw (legal, above, eqb-same (d + 1)) refl

pub run_node : (d : ℕ) (last : Option (List ℕ)) (n : List ℕ) (t : Tree) (κ : List Symbol) → IsTrue (is_name n)
    → IsTrue (rises last n) → IsLegal t
    → run (word (codes "(") ∷ word (codes "name") ∷ entry_name d last ∷ κ)
    ((other (codes "(") ∷ other (codes "name") ∷ name n ∷ node (d + 1) ∷ []) ++ bracketed (kind_parts (d + 1) t))
    ≡ Some (word (codes ")") ∷ entries d (Some n) ∷ κ)
run_node d last n t κ legal above named =
    rw (legal, above, eqb-same (d + 1)) (walk_kind (d + 1) t (word (codes ")") ∷ entries d (Some n) ∷ κ) [] named)
