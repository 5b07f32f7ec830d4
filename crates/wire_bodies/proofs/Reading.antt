-- What the lines of a text leave to those that follow.
use Rattle.std.proofs.Common.{◌≡◌, ℕ, zero, suc, ◌<◌, List, [], ◌∷◌, ◌++◌, length, drop, get_or, refl, sym, ap, ◌∙◌}
use Rattle.std.proofs.Common.{arith, append_assoc, subst, length-append}
use Rattle.std.specs.Prelude.{IsUtf8, Option, Some, None, Bool, true, false, ◌==◌}
use Rattle.std.specs.Borrow.{Bor}
use Rattle.std.proofs.lemmas.Bool.{ne_eqb}
use Rattle.std.proofs.lemmas.Str.Pattern.{IsSplitOnceResult, split_after}
use Rattle.wire_bodies.specs.Lines.{IsWithout, Entry, entry_text, IsEntry, print_entries, AreEntries, Reads}

-- a byte that a text is without divides in one way what it occurs in
pub divides : (byte : ℕ) (x y a b : List ℕ) → IsWithout byte x → IsWithout byte y → x ++ byte ∷ a ≡ y ++ byte ∷ b
    → (x ≡ y) × (a ≡ b)
divides byte [] [] a b lx ly e = (refl, ap (λ t. drop 1 t) e)
divides byte [] (d ∷ y) a b lx ly e = absurd (ly 0 (omega arith) (sym (ap (λ t. get_or t 0 0) e)))
divides byte (c ∷ x) [] a b lx ly e = absurd (lx 0 (omega arith) (ap (λ t. get_or t 0 0) e))
divides byte (c ∷ x) (d ∷ y) a b lx ly e =
    let rest =
    divides byte x y a b (λ i h. lx (suc i) (omega arith)) (λ i h. ly (suc i) (omega arith))
    (ap (λ t. drop 1 t) e) in
    let head : c ≡ d = ap (λ t. get_or t 0 0) e in
    (ap (λ t. t ∷ x) head ∙ ap (λ t. d ∷ t) rest.0, rest.1)

-- an entry has its text alone
pub same_entry : (e : Entry) (k v : List ℕ) → IsWithout 58 e.0 → IsWithout 58 k → entry_text e ≡ entry_text (k, v)
    → e ≡ (k, v)
same_entry e k v le lk same =
    let parts = divides 58 e.0 k (32 ∷ e.1) (32 ∷ v) le lk same in
    λ i. (parts.0 i, drop 1 (parts.1 i))

entries_append : (es more : List Entry) → AreEntries es → AreEntries more → AreEntries (es ++ more)
entries_append [] more p q = q
entries_append (e ∷ es) more p q = (p.0, entries_append es more p.1 q)

pub print_append : (es more : List Entry) → print_entries (es ++ more) ≡ print_entries es ++ print_entries more
print_append [] more = refl
print_append (e ∷ es) more =
    ap (λ t. entry_text e ++ 10 ∷ t) (print_append es more)
    ∙ sym (append_assoc (entry_text e) (10 ∷ print_entries es) (print_entries more))

-- What is known once some lines of a text are read: the text is their entries and a rest, and each reading of it begins
-- with them.
pub record Read (text : List ℕ) (es : List Entry) (rest : List ℕ) : Type 0 where
  pub entries : AreEntries es
  pub whole : text ≡ print_entries es ++ rest
  pub all : (fs : List Entry) (payload : List ℕ) → Reads text fs payload
      → (more : List Entry) × (fs ≡ es ++ more) × Reads rest more payload

pub nothing_read : (text : List ℕ) → Read text [] text
nothing_read text = record { entries = tt; whole = refl; all = λ fs payload reads. (fs, refl, reads) }

-- a reading of what begins with a line: the line is empty, or that of its first entry
first_entry : (line after : List ℕ) (e : Entry) (es : List Entry) (payload : List ℕ) → IsWithout 10 line
    → Reads (line ++ 10 ∷ after) (e ∷ es) payload
    → (line ≡ entry_text e) × IsEntry e × Reads after es payload
first_entry line after e es payload lacks reads =
    let is = reads.entries.0 in
    let parts = divides 10 line (entry_text e) after (print_entries es ++ 10 ∷ payload) lacks is.line
    (reads.whole ∙ append_assoc (entry_text e) (10 ∷ print_entries es) (10 ∷ payload)) in
    (parts.0, is, record { entries = reads.entries.1; whole = parts.1 })

-- one more line
pub one_line : (text : List ℕ) (es : List Entry) (rest line after k v : List ℕ) → Read text es rest
    → rest ≡ line ++ 10 ∷ after → IsWithout 10 line → 0 < length line
    → line ≡ entry_text (k, v) → IsWithout 58 k → IsUtf8 line → Read text (es ++ (k, v) ∷ []) after
one_line text es rest line after k v read is lacks some parts colon utf8 = record {
  entries = entries_append es ((k, v) ∷ []) read.entries
      (record { key = colon; line = subst (IsWithout 10) parts lacks; text = subst IsUtf8 parts utf8 }, tt);
  whole = read.whole ∙ ap (λ t. print_entries es ++ t) (is ∙ ap (λ t. t ++ 10 ∷ after) parts)
      ∙ ap (λ t. print_entries es ++ t) (sym (append_assoc (entry_text (k, v)) (10 ∷ []) after))
      ∙ sym (append_assoc (print_entries es) (entry_text (k, v) ++ 10 ∷ []) after)
      ∙ ap (λ t. t ++ after) (sym (print_append es ((k, v) ∷ [])));
  all = λ fs payload reads. let old =
      read.all fs payload reads in next fs payload old.0 old.1 (subst (λ t. Reads t old.0 payload) is old.2);
}
  where
    next : (fs : List Entry) (payload : List ℕ) (more : List Entry) → fs ≡ es ++ more
        → Reads (line ++ 10 ∷ after) more payload
        → (rest' : List Entry) × (fs ≡ (es ++ (k, v) ∷ []) ++ rest') × Reads after rest' payload
    next fs payload [] e reads =
        let none = divides 10 line [] after payload lacks (λ i h. absurd (omega arith)) reads.whole in
        let size : length line ≡ 0 = ap length none.0 in absurd (omega arith)
    next fs payload (f ∷ more) e reads =
        let first = first_entry line after f more payload lacks reads in
        let same = same_entry f k v first.1.key colon (sym first.0 ∙ parts) in
        (more, e ∙ ap (λ x. es ++ x ∷ more) same ∙ sym (append_assoc es ((k, v) ∷ []) more), first.2)

-- ---- the parts of a line, by what std says of a split at a character

-- no split, no entry
pub no_colon : (line text : List ℕ) (r : Option (Bor (List ℕ) × Bor (List ℕ))) → text ≡ line
    → IsSplitOnceResult 58 text r → r ≡ None
    → (k v : List ℕ) → line ≡ entry_text (k, v) → IsWithout 58 k → ⊥
no_colon line text r same split none k v is lacks =
    rw none at (split_after 58 text k (32 ∷ v) r split (omega arith) (same ∙ is) lacks)

-- a split with no space after it is no entry
pub no_space : (line text : List ℕ) (key rest : Bor (List ℕ)) → text ≡ line
    → IsSplitOnceResult 58 text (Some (key, rest))
    → ((t : List ℕ) → rest.now ≡ 32 ∷ t → ⊥) → (k v : List ℕ) → line ≡ entry_text (k, v) → IsWithout 58 k → ⊥
no_space line text key rest same split none k v is lacks =
    let parts =
    split_after 58 text k (32 ∷ v) (Some (key, rest)) split (omega arith) (same ∙ is) lacks in none v parts.1

-- ---- a line that is no entry, and one more entry

pub not_empty : (n : ℕ) (b : Bool) → b ≡ (n == 0) → b ≡ false → 0 < n
not_empty zero b is no_more = let h : true ≡ false = sym is ∙ no_more in cc
not_empty (suc n) b is no_more = omega arith

pub nothing_in : (line : List ℕ) (b : Bool) → b ≡ (length line == 0) → b ≡ true → line ≡ []
nothing_in [] b is reported = refl
nothing_in (x ∷ line) b is reported =
    let h : false ≡ true =
    sym (ne_eqb (length (x ∷ line)) 0 (λ (e : length (x ∷ line) ≡ 0). omega (arith, e))) ∙ sym is ∙ reported in cc

pub no_entry : (text : List ℕ) (es : List Entry) (rest line after : List ℕ) → Read text es rest
    → rest ≡ line ++ 10 ∷ after → IsWithout 10 line → 0 < length line
    → ((k v : List ℕ) → line ≡ entry_text (k, v) → IsWithout 58 k → IsUtf8 line → ⊥)
    → (fs : List Entry) (payload : List ℕ) → Reads text fs payload → ⊥
no_entry text es rest line after read is lacks some none fs payload reads =
    let old = read.all fs payload reads in by old.0 (subst (λ t. Reads t old.0 payload) is old.2)
  where
    by : (more : List Entry) → Reads (line ++ 10 ∷ after) more payload → ⊥
    by [] reads =
        let empty = divides 10 line [] after payload lacks (λ i h. absurd (omega arith)) reads.whole in
        let size : length line ≡ 0 = ap length empty.0 in absurd (omega arith)
    by (f ∷ more) reads =
        let first = first_entry line after f more payload lacks reads in
        none f.0 f.1 first.0 first.1.key (subst IsUtf8 (sym first.0) first.1.text)

-- ---- one reading

entry_some : (e : Entry) → 0 < length (entry_text e)
entry_some e = omega (arith, length-append e.0 (58 ∷ 32 ∷ e.1))

-- a text has one reading
pub reads_once : (text : List ℕ) (es fs : List Entry) (p q : List ℕ) → Reads text es p → Reads text fs q
    → (es ≡ fs) × (p ≡ q)
reads_once text [] [] p q a b = (refl, ap (λ t. drop 1 t) (sym a.whole ∙ b.whole))
reads_once text [] (f ∷ fs) p q a b =
    let parts =
    divides 10 [] (entry_text f) p (print_entries fs ++ 10 ∷ q) (λ i h. absurd (omega arith)) b.entries.0.line
    (sym a.whole ∙ b.whole ∙ append_assoc (entry_text f) (10 ∷ print_entries fs) (10 ∷ q)) in
    let size : 0 ≡ length (entry_text f) = ap length parts.0 in
    absurd (omega (arith, entry_some f))
reads_once text (e ∷ es) [] p q a b =
    let parts =
    divides 10 [] (entry_text e) q (print_entries es ++ 10 ∷ p) (λ i h. absurd (omega arith)) a.entries.0.line
    (sym b.whole ∙ a.whole ∙ append_assoc (entry_text e) (10 ∷ print_entries es) (10 ∷ p)) in
    let size : 0 ≡ length (entry_text e) = ap length parts.0 in
    absurd (omega (arith, entry_some e))
reads_once text (e ∷ es) (f ∷ fs) p q a b =
    let parts =
    divides 10 (entry_text e) (entry_text f) (print_entries es ++ 10 ∷ p) (print_entries fs ++ 10 ∷ q)
    a.entries.0.line b.entries.0.line
    (sym (append_assoc (entry_text e) (10 ∷ print_entries es) (10 ∷ p)) ∙ sym a.whole ∙ b.whole
    ∙ append_assoc (entry_text f) (10 ∷ print_entries fs) (10 ∷ q)) in
    let first = same_entry e f.0 f.1 a.entries.0.key b.entries.0.key parts.0 in
    let rest =
    reads_once (print_entries es ++ 10 ∷ p) es fs p q (record { entries = a.entries.1; whole = refl })
    (record { entries = b.entries.1; whole = parts.1 }) in
    (ap (λ x. x ∷ es) first ∙ ap (λ xs. f ∷ xs) rest.0, rest.1)
