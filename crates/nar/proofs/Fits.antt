-- The test of a tree is right: some room is left if and only if the tree is legal, not too deep and small enough.
use Rattle.std.proofs.Common.{◌≡◌, ℕ, suc, ◌+◌, ◌-◌, ◌<◌, ◌≤◌, Bool, true, false, cond, ltb, ◌&&◌, List, [], ◌∷◌, ◌++◌}
use Rattle.std.proofs.Common.{length, drop, get_or, add-one, drop-cons, Option, Some, None, refl, sym, ap, ◌∙◌, arith}
use Rattle.std.proofs.Common.{inl, inr}
use Rattle.std.specs.Prelude.{IsTrue, codes, option_and_then, is_some, unwrap_or, ◌↔◌}
use Rattle.std.specs.List.{AllByRecursion}
use Rattle.std.specs.Option.{SomeIff}
use Rattle.std.proofs.lemmas.Bool.{cases_lt, ltb-true, ltb-false, le-ltb, lt-ltb, and_parts}
use Rattle.std.proofs.lemmas.List.{length-append}
use Rattle.nar.specs.String.{string, size_of}
use Rattle.nar.specs.Tree.{Tree, regular, symlink, directory, Entries, no_entries, entry, IsBytes, is_name, rises}
use Rattle.nar.specs.Tree.{IsLegal, AreLegal}
use Rattle.nar.specs.Archive.{Part, name, node, other, spelled, bracketed, kind_parts, entries_parts, archive, spelling}
use Rattle.nar.specs.Archive.{IsShallow, IsWritable}
use Rattle.nar.specs.declared.node.Entry.{Entry}
use Rattle.nar.specs.View.{tree_of, trees_of}
use Rattle.nar.proofs.Trees.{pair-is}
use Rattle.nar.specs.Room.{are_bytes, less, file_size, may_enter, room_after, entries_room}
use Rattle.nar.proofs.Bytes.{tested_bytes, all_append, all_prefix}
use Rattle.nar.proofs.Strings.{length-string}
use Rattle.nar.proofs.Grammar.{chosen, none_is_some, some_is, and_then_some}

-- ---- sizes

pub parts_size : List Part → ℕ
parts_size ps = length (spelling ps)

parts_size-cons : (p : Part) (ps : List Part)
    → length (spelling (p ∷ ps)) ≡ size_of (length (spelled p)) + length (spelling ps)
parts_size-cons p ps =
    length-append (string (spelled p)) (spelling ps)
    ∙ ap (λ (k : ℕ). k + length (spelling ps)) (length-string (spelled p))

spelling-append : (ps qs : List Part) → length (spelling (ps ++ qs)) ≡ length (spelling ps) + length (spelling qs)
spelling-append [] qs = omega arith
spelling-append (p ∷ ps) qs =
    let a = parts_size-cons p (ps ++ qs) in
    let b = parts_size-cons p ps in
    let h = spelling-append ps qs in
    omega arith

close_size : length (spelling (other (codes ")") ∷ [])) ≡ 16
close_size = parts_size-cons (other (codes ")")) []

bracketed_size : (kind : List Part) → length (spelling (bracketed kind)) ≡ 48 + length (spelling kind)
bracketed_size kind =
    let a = parts_size-cons (other (codes "(")) (other (codes "type") ∷ (kind ++ other (codes ")") ∷ [])) in
    let b = parts_size-cons (other (codes "type")) (kind ++ other (codes ")") ∷ []) in
    let d = spelling-append kind (other (codes ")") ∷ []) in
    let e = close_size in
    omega arith

regular_size : (d : ℕ) (x : Bool) (c : List ℕ)
    → length (spelling (bracketed (kind_parts d (regular x c)))) ≡ file_size x + size_of (length c)
regular_size d true c =
    let z = bracketed_size (kind_parts d (regular true c)) in
    let a =
    parts_size-cons (other (codes "regular"))
    (other (codes "executable") ∷ other [] ∷ other (codes "contents") ∷ other c ∷ []) in
    let b = parts_size-cons (other (codes "executable")) (other [] ∷ other (codes "contents") ∷ other c ∷ []) in
    let e = parts_size-cons (other []) (other (codes "contents") ∷ other c ∷ []) in
    let f = parts_size-cons (other (codes "contents")) (other c ∷ []) in
    let g = parts_size-cons (other c) [] in
    omega arith
regular_size d false c =
    let z = bracketed_size (kind_parts d (regular false c)) in
    let a = parts_size-cons (other (codes "regular")) (other (codes "contents") ∷ other c ∷ []) in
    let f = parts_size-cons (other (codes "contents")) (other c ∷ []) in
    let g = parts_size-cons (other c) [] in
    omega arith

symlink_size : (d : ℕ) (s : List ℕ) → length (spelling (bracketed (kind_parts d (symlink s)))) ≡ 80 + size_of (length s)
symlink_size d s =
    let z = bracketed_size (kind_parts d (symlink s)) in
    let a = parts_size-cons (other (codes "symlink")) (other (codes "target") ∷ other s ∷ []) in
    let f = parts_size-cons (other (codes "target")) (other s ∷ []) in
    let g = parts_size-cons (other s) [] in
    omega arith

directory_size : (d : ℕ) (es : Entries)
    → length (spelling (bracketed (kind_parts d (directory es)))) ≡ 72 + length (spelling (entries_parts d es))
directory_size d es =
    let z = bracketed_size (kind_parts d (directory es)) in
    let a = parts_size-cons (other (codes "directory")) (entries_parts d es) in
    omega arith

entry_size : (d : ℕ) (n : List ℕ) (t : Tree) (es : Entries)
    → length (spelling (entries_parts d (entry n t es)))
    ≡ (80 + size_of (length n)) + length (spelling (bracketed (kind_parts (d + 1) t)))
    + length (spelling (entries_parts d es))
entry_size d n t es =
    let inner : List Part = bracketed (kind_parts (d + 1) t) in
    let tail : List Part = other (codes ")") ∷ entries_parts d es in
    let a =
    parts_size-cons (other (codes "entry"))
    (other (codes "(") ∷ other (codes "name") ∷ name n ∷ node (d + 1) ∷ (inner ++ tail)) in
    let b = parts_size-cons (other (codes "(")) (other (codes "name") ∷ name n ∷ node (d + 1) ∷ (inner ++ tail)) in
    let e = parts_size-cons (other (codes "name")) (name n ∷ node (d + 1) ∷ (inner ++ tail)) in
    let f = parts_size-cons (name n) (node (d + 1) ∷ (inner ++ tail)) in
    let g = parts_size-cons (node (d + 1)) (inner ++ tail) in
    let h = spelling-append inner tail in
    let i = parts_size-cons (other (codes ")")) (entries_parts d es) in
    omega arith

archive_size : (t : Tree) → length (spelling (archive t)) ≡ 24 + length (spelling (bracketed (kind_parts 1 t)))
archive_size t = parts_size-cons (other (codes "nix-archive-1")) (bracketed (kind_parts 1 t))

-- ---- bytes by a test

pub bytes_tested : (s : List ℕ) → IsBytes s → are_bytes s ≡ true
bytes_tested [] h = refl
bytes_tested (b ∷ s) h =
    (let first : ltb b 256 ≡ true = lt-ltb b 256 (h 0) in rw first (bytes_tested s (λ i. h (suc i))))

-- ---- room

less_is : (room size left : ℕ) → less room size ≡ Some left → size + left ≡ room
less_is room size left e =
    elim (chosen (ltb room size) None (Some (room - size)) (Some left) e) [
      | inl c ↦ none_is_some left c.1
      | inr c ↦ (let le : size ≤ room = ltb-false room size c.0 in
          let is : room - size ≡ left = some_is (room - size) left c.1 in omega arith)
    ]

is_less : (room size left : ℕ) → size + left ≡ room → less room size ≡ Some left
is_less room size left e =
    let within : ltb room size ≡ false = le-ltb room size (omega arith) in
    let is : room - size ≡ left = omega arith in
    rw within (ap Some is)

-- what `checked_sub` gives
pub less_checked : (o : Option ℕ) (room size : ℕ) → SomeIff o (size ≤ room) (room - size) → o ≡ less room size
less_checked None room size h =
    elim (cases_lt room size) [
      | inl lt ↦ (let few : ltb room size ≡ true = lt-ltb room size lt in rw few refl)
      | inr le ↦ absurd (h le)
    ]
less_checked (Some x) room size h =
    (let within : ltb room size ≡ false = le-ltb room size h.0 in rw within (ap Some h.1))

if_some : {A : Type 0} (b : Bool) (o : Option A) (x : A) → cond b o None ≡ Some x → (b ≡ true) × (o ≡ Some x)
if_some true o x e = (refl, e)
if_some false o x e = none_is_some x e

-- a part's beginning and end
abbrev AllShallow : List Part → Type 0
AllShallow ps = AllByRecursion IsShallow ps

all_back : (ps qs : List Part) → AllShallow (ps ++ qs) → AllShallow qs
all_back [] qs h = h
all_back (p ∷ ps) qs h = all_back ps qs h.1

bracketed_shallow : (kind : List Part) → AllShallow kind → AllShallow (bracketed kind)
bracketed_shallow kind h = (tt, (tt, all_append IsShallow kind (other (codes ")") ∷ []) h (tt, tt)))

pub record Fits (d room left : ℕ) (t : Tree) : Type 0 where
  pub legal : IsLegal t
  pub shallow : AllShallow (kind_parts d t)
  pub size : length (spelling (bracketed (kind_parts d t))) + left ≡ room

record AllFit (d : ℕ) (last : Option (List ℕ)) (room left : ℕ) (es : Entries) : Type 0 where
  legal : AreLegal last es
  shallow : AllShallow (entries_parts d es)
  size : length (spelling (entries_parts d es)) + left ≡ room

regular_shallow : (d : ℕ) (x : Bool) (c : List ℕ) → AllShallow (kind_parts d (regular x c))
regular_shallow d true c = (tt, (tt, (tt, (tt, (tt, tt)))))
regular_shallow d false c = (tt, (tt, (tt, tt)))

mutual
  fits : (d room left : ℕ) (t : Tree) → room_after d room t ≡ Some left → Fits d room left t
  fits d room left (regular x c) e =
      let a = if_some (are_bytes c) (less room (file_size x + size_of (length c))) left e in
      let b = less_is room (file_size x + size_of (length c)) left a.1 in
      record { legal = tested_bytes c a.0; shallow = regular_shallow d x c; size = omega (arith, regular_size d x c) }
  fits d room left (symlink s) e =
      let a = if_some (are_bytes s) (less room (80 + size_of (length s))) left e in
      let b = less_is room (80 + size_of (length s)) left a.1 in
      record { legal = tested_bytes s a.0; shallow = (tt, (tt, (tt, tt))); size = omega (arith, symlink_size d s) }
  fits d room left (directory es) e =
      let a = and_then_some (less room 72) (λ left. entries_room d None left es) left e in
      let b = less_is room 72 a.0 a.1 in
      let h = all_fit d None a.0 left es a.2 in
      let inner : length (spelling (entries_parts d es)) + left ≡ a.0 = h.size in
      record { legal = h.legal; shallow = (tt, h.shallow); size = omega (arith, directory_size d es) }

  all_fit : (d : ℕ) (last : Option (List ℕ)) (room left : ℕ) (es : Entries) → entries_room d last room es ≡ Some left
      → AllFit d last room left es
  all_fit d last room left no_entries e =
      record { legal = tt; shallow = tt; size = (let is : room ≡ left = some_is room left e in omega arith) }
  all_fit d last room left (entry n t es) e =
      let a = if_some (may_enter d last n) _ left e in
      let may = and_parts (are_bytes n && is_name n) (rises last n && ltb d 256) a.0 in
      let one = and_parts (are_bytes n) (is_name n) may.0 in
      let two = and_parts (rises last n) (ltb d 256) may.1 in
      let b =
      and_then_some (less room (80 + size_of (length n)))
      (λ left. option_and_then (λ more. entries_room d (Some n) more es) (room_after (d + 1) left t)) left a.1 in
      let g = and_then_some (room_after (d + 1) b.0 t) (λ more. entries_room d (Some n) more es) left b.2 in
      let first = less_is room (80 + size_of (length n)) b.0 b.1 in
      let inner = fits (d + 1) b.0 g.0 t g.1 in
      let others = all_fit d (Some n) g.0 left es g.2 in
      let deep : d < 256 = ltb-true d 256 two.1 in
      let inner_size : length (spelling (bracketed (kind_parts (d + 1) t))) + g.0 ≡ b.0 = inner.size in
      let others_size : length (spelling (entries_parts d es)) + left ≡ g.0 = others.size in
      record {
        legal = (tested_bytes n one.0, one.1, two.0, inner.legal, others.legal);
        shallow = (
          tt,
          (
            tt,
            (
              tt,
              (
                tt,
                (
                  omega arith,
                  all_append IsShallow (bracketed (kind_parts (d + 1) t)) (other (codes ")") ∷ entries_parts d es)
                      (bracketed_shallow (kind_parts (d + 1) t) inner.shallow) (tt, others.shallow),
                ),
              ),
            ),
          ),
        );
        size = omega (arith, entry_size d n t es);
      }

mutual
  fitted : (d room left : ℕ) (t : Tree) → Fits d room left t → room_after d room t ≡ Some left
  fitted d room left (regular x c) h =
      let a : are_bytes c ≡ true = bytes_tested c h.legal in
      rw a (is_less room (file_size x + size_of (length c)) left (omega (arith, regular_size d x c, h.size)))
  fitted d room left (symlink s) h =
      let a : are_bytes s ≡ true = bytes_tested s h.legal in
      rw a (is_less room (80 + size_of (length s)) left (omega (arith, symlink_size d s, h.size)))
  fitted d room left (directory es) h =
      let inner : ℕ = length (spelling (entries_parts d es)) + left in
      let first : less room 72 ≡ Some inner = is_less room 72 inner (omega (arith, directory_size d es, h.size)) in
      let more : entries_room d None inner es ≡ Some left =
      all_fitted d None inner left es (record { legal = h.legal; shallow = h.shallow.1; size = refl }) in
      ap (option_and_then (λ left. entries_room d None left es)) first ∙ more

  all_fitted : (d : ℕ) (last : Option (List ℕ)) (room left : ℕ) (es : Entries) → AllFit d last room left es
      → entries_room d last room es ≡ Some left
  all_fitted d last room left no_entries h = (let size : 0 + left ≡ room = h.size in ap Some (omega arith))
  all_fitted d last room left (entry n t es) h =
      let k : List Part = bracketed (kind_parts (d + 1) t) in
      let tail : List Part = other (codes ")") ∷ entries_parts d es in
      let behind : AllShallow (k ++ tail) = h.shallow.1.1.1.1.1 in
      let inner : AllShallow k = all_prefix IsShallow k tail behind in
      let others : AllShallow (entries_parts d es) = (all_back k tail behind).1 in
      let deep : d + 1 ≤ 256 = h.shallow.1.1.1.1.0 in
      let within : ltb d 256 ≡ true = lt-ltb d 256 (omega arith) in
      let bytes : are_bytes n ≡ true = bytes_tested n h.legal.0 in
      let legal : is_name n ≡ true = h.legal.1 in
      let above : rises last n ≡ true = h.legal.2 in
      let two : ℕ = length (spelling (entries_parts d es)) + left in
      let one : ℕ = length (spelling k) + two in
      let first : less room (80 + size_of (length n)) ≡ Some one =
      is_less room (80 + size_of (length n)) one (omega (arith, entry_size d n t es, h.size)) in
      let middle : room_after (d + 1) one t ≡ Some two =
      fitted (d + 1) one two t (record {
        legal = h.legal.3;
        shallow = all_prefix IsShallow (kind_parts (d + 1) t) (other (codes ")") ∷ []) inner.1.1;
        size = refl;
      }) in
      let last_one : entries_room d (Some n) two es ≡ Some left =
      all_fitted d (Some n) two left es (record { legal = h.legal.4; shallow = others; size = refl }) in
      let may : may_enter d last n ≡ true = rw (bytes, legal, above, within) refl in
      ap (λ (b : Bool). cond b (option_and_then
      (λ left. option_and_then (λ more. entries_room d (Some n) more es) (room_after (d + 1) left t))
      (less room (80 + size_of (length n)))) None) may
      ∙ ap (option_and_then (λ left. option_and_then (λ more. entries_room d (Some n) more es)
      (room_after (d + 1) left t))) first
      ∙ ap (option_and_then (λ more. entries_room d (Some n) more es)) middle ∙ last_one

-- what the archive of a tree leaves
room_of : (t : Tree) → IsWritable t
    → room_after 1 16777192 t ≡ Some (16777192 - length (spelling (bracketed (kind_parts 1 t))))
room_of t w =
    let small : length (spelling (archive t)) ≤ 16777216 = w.small in
    fitted 1 16777192 (16777192 - length (spelling (bracketed (kind_parts 1 t)))) t (record {
      legal = w.legal;
      shallow = all_prefix IsShallow (kind_parts 1 t) (other (codes ")") ∷ []) w.shallow.1.1.1;
      size = omega (arith, archive_size t);
    })

-- the test of a tree
pub writable : (t : Tree) (b : Bool) → b ≡ is_some (room_after 1 16777192 t) → IsTrue b ↔ IsWritable t
writable t b is = (λ e. by_room (room_after 1 16777192 t) refl (sym is ∙ e), λ w. is ∙ ap is_some (room_of t w))
  where
    by_room : (o : Option ℕ) → room_after 1 16777192 t ≡ o → is_some o ≡ true → IsWritable t
    by_room None at e = absurd (let q : false ≡ true = e in cc)
    by_room (Some left) at e =
        let h = fits 1 16777192 left t at in
        let size : length (spelling (bracketed (kind_parts 1 t))) + left ≡ 16777192 = h.size in
        record {
          legal = h.legal;
          shallow = (tt, bracketed_shallow (kind_parts 1 t) h.shallow);
          small = omega (arith, archive_size t);
        }

-- the size of its archive
pub size_by_room : (t : Tree) (left size : ℕ) → IsWritable t → left ≡ unwrap_or (room_after 1 16777192 t) 0
    → size ≡ 16777216 - left → size ≡ length (spelling (archive t))
size_by_room t left size w is sized =
    let small : length (spelling (archive t)) ≤ 16777216 = w.small in
    let same : left ≡ 16777192 - length (spelling (bracketed (kind_parts 1 t))) =
    is ∙ ap (λ (o : Option ℕ). unwrap_or o 0) (room_of t w) in
    omega (arith, archive_size t)

-- one entry more
pub entry_room : (d : ℕ) (last : Option (List ℕ)) (room : ℕ) (es : List Entry) (i : ℕ) (e : Entry) (inner : Option ℕ)
    → i < length es → e ≡ get_or es i e → may_enter d last e.name.now ≡ true
    → inner ≡ less room (80 + size_of (length e.name.now))
    → entries_room d last room (trees_of (drop i es))
    ≡ option_and_then (λ left. option_and_then
    (λ more. entries_room d (Some e.name.now) more (trees_of (drop (i + 1) es)))
    (room_after (d + 1) left (tree_of e.node))) inner
entry_room d last room es i e inner lt is may less_is =
    let split : drop i es ≡ e ∷ drop (i + 1) es =
    rw add-one (drop-cons es i e lt ∙ ap (λ (x : Entry). x ∷ drop (suc i) es) (sym is)) in
    let pair = pair-is e in
    ap (λ (xs : List Entry). entries_room d last room (trees_of xs)) split
    ∙ ap (λ (p : List ℕ × Tree). entries_room d last room (entry p.0 p.1 (trees_of (drop (i + 1) es)))) pair
    ∙ rw (may, sym less_is) refl

pub entry_refused : (d : ℕ) (last : Option (List ℕ)) (room : ℕ) (es : List Entry) (i : ℕ) (e : Entry) → i < length es
    → e ≡ get_or es i e → may_enter d last e.name.now ≡ false → entries_room d last room (trees_of (drop i es)) ≡ None
entry_refused d last room es i e lt is may =
    let split : drop i es ≡ e ∷ drop (i + 1) es =
    rw add-one (drop-cons es i e lt ∙ ap (λ (x : Entry). x ∷ drop (suc i) es) (sym is)) in
    ap (λ (xs : List Entry). entries_room d last room (trees_of xs)) split
    ∙ ap (λ (p : List ℕ × Tree). entries_room d last room (entry p.0 p.1 (trees_of (drop (i + 1) es)))) (pair-is e)
    ∙ rw may refl
