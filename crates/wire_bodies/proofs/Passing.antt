-- The entries that lines stand for, and lines that are passed one after another.
use Rattle.std.proofs.Common.{◌≡◌, ℕ, suc, ◌+◌, ◌-◌, true, false, cond, List, [], ◌∷◌, ◌++◌, length, take, drop, refl}
use Rattle.std.proofs.Common.{sym, ap, ◌∙◌, arith, append_assoc, append-nil, subst, length-append}
use Rattle.std.specs.Prelude.{Bool, not, Option, None, IsUtf8}
use Rattle.std.specs.List.{list_all, position_or_len, before_first, after_first}
use Rattle.std.specs.Str.{bytes_eq}
use Rattle.std.proofs.Math.Seq.{take-append_seam, drop-append-add}
use Rattle.std.proofs.lemmas.Bool.{ne_eqb}
use Rattle.wire_bodies.specs.Lines.{IsWithout, Entry, entry_text, print_entries, AreEntries, AreLines, Reads, is_colon}
use Rattle.wire_bodies.specs.Lines.{entry_in, entries_from, entries_in}
use Rattle.wire_bodies.specs.Values.{values, each}
use Rattle.wire_bodies.proofs.Reading.{divides, same_entry, Read}
use Rattle.wire_bodies.proofs.ValueLemmas.{values-append, all_here, each_none}

-- ---- what a line stands for

place_of_colon : (k r : List ℕ) → IsWithout 58 k → position_or_len is_colon (k ++ 58 ∷ r) ≡ length k
place_of_colon [] r lacks = refl
place_of_colon (b ∷ k) r lacks =
    let rest = place_of_colon k r (λ i h. lacks (suc i) (omega arith)) in
    let more : 1 + position_or_len is_colon (k ++ 58 ∷ r) ≡ suc (length k) = omega (arith, rest) in
    ap (λ c. cond (not c) (1 + position_or_len is_colon (k ++ 58 ∷ r)) 0) (ne_eqb b 58 (lacks 0 (omega arith))) ∙ more

before_colon : (k r : List ℕ) → IsWithout 58 k → before_first is_colon (k ++ 58 ∷ r) ≡ k
before_colon k r lacks = ap (λ n. take n (k ++ 58 ∷ r)) (place_of_colon k r lacks) ∙ take-append_seam k (58 ∷ r)

after_colon : (k r : List ℕ) → IsWithout 58 k → after_first is_colon (k ++ 58 ∷ r) ≡ r
after_colon k r lacks = ap (λ n. drop (n + 1) (k ++ 58 ∷ r)) (place_of_colon k r lacks) ∙ drop-append-add k (58 ∷ r) 1

entry_is : (e : Entry) → IsWithout 58 e.0 → entry_in (entry_text e) ≡ e
entry_is e lacks =
    let key = before_colon e.0 (32 ∷ e.1) lacks in
    let value = ap (λ t. drop 1 t) (after_colon e.0 (32 ∷ e.1) lacks) in
    λ i. (key i, value i)

-- a line and those after it
pub line_continues : (prefix x text : List ℕ) → IsWithout 10 x
    → entries_from prefix (x ++ 10 ∷ text) ≡ entry_in (prefix ++ x) ∷ entries_from [] text
line_continues prefix [] text lacks = ap (λ t. entry_in t ∷ entries_from [] text) (sym (append-nil prefix))
line_continues prefix (b ∷ x) text lacks =
    ap (λ c. cond c (entry_in prefix ∷ entries_from [] (x ++ 10 ∷ text))
    (entries_from (prefix ++ b ∷ []) (x ++ 10 ∷ text))) (ne_eqb b 10 (lacks 0 (omega arith)))
    ∙ line_continues (prefix ++ b ∷ []) x text (λ i h. lacks (suc i) (omega arith))
    ∙ ap (λ t. entry_in t ∷ entries_from [] text) (append_assoc prefix (b ∷ []) x)

-- entries that are printed are read again
pub printed : (es : List Entry) → AreEntries es → entries_in (print_entries es) ≡ es
printed [] are = refl
printed (e ∷ es) are =
    line_continues [] (entry_text e) (print_entries es) are.0.line
    ∙ ap (λ x. x ∷ entries_in (print_entries es)) (entry_is e are.0.key)
    ∙ ap (λ xs. e ∷ xs) (printed es are.1)

-- lines stand for the entries of which they are the lines
pub lines_are : (text : List ℕ) (es : List Entry) → AreEntries es → text ≡ print_entries es
    → (entries_in text ≡ es) × AreLines text (entries_in text)
lines_are text es are is =
    let same : entries_in text ≡ es = ap entries_in is ∙ printed es are in
    (same, subst (AreLines text) (sym same) (are, is))

-- the lines before the rest of a text that was read
pub prefix_is : (text : List ℕ) (es : List Entry) (rest : List ℕ) → Read text es rest
    → take (length text - length rest) text ≡ print_entries es
prefix_is text es rest read =
    let size : length text ≡ length (print_entries es) + length rest =
    ap length read.whole ∙ length-append (print_entries es) rest in
    let count : length text - length rest ≡ length (print_entries es) = omega arith in
    ap (λ t. take (length text - length rest) t) read.whole ∙ ap (λ n. take n (print_entries es ++ rest)) count
    ∙ take-append_seam (print_entries es) rest

-- a text of which all lines were read up to an empty one
pub read_whole : (text : List ℕ) (es : List Entry) (rest line payload lines : List ℕ) → Read text es rest
    → rest ≡ line ++ 10 ∷ payload → line ≡ []
    → lines ≡ print_entries es → Reads text (entries_in lines) payload
read_whole text es rest line payload lines read is none prefix =
    let same = (lines_are lines es read.entries prefix).0 in
    let reads : Reads text es payload = record {
      entries = read.entries;
      whole = read.whole ∙ ap (λ t. print_entries es ++ t) (is ∙ ap (λ t. t ++ 10 ∷ payload) none);
    } in
    subst (λ t. Reads text t payload) (sym same) reads

-- ---- one line that is passed

has_feed : (x rest : List ℕ) → IsWithout 10 (x ++ 10 ∷ rest) → ⊥
has_feed [] rest lacks = lacks 0 (omega arith) refl
has_feed (b ∷ x) rest lacks = has_feed x rest (λ i h. lacks (suc i) (omega arith))

pub none_left : (text : List ℕ) (es : List Entry) → AreLines text es → IsWithout 10 text → es ≡ []
none_left text [] are lacks = refl
none_left text (e ∷ es) are lacks =
    absurd (has_feed (entry_text e) (print_entries es) (subst (IsWithout 10) are.1 lacks))

pub no_line : (text : List ℕ) (es : List Entry) (rest : List ℕ) → Read text es rest → IsWithout 10 rest
    → (fs : List Entry) (payload : List ℕ) → Reads text fs payload → ⊥
no_line text es rest read lacks fs payload reads =
    let more = read.all fs payload reads in
    has_feed (print_entries more.0) payload (subst (IsWithout 10) more.2.whole lacks)

module _ (text line after : List ℕ) (is : text ≡ line ++ 10 ∷ after) (lacks : IsWithout 10 line) where
  pub is_entry : (es : List Entry) → AreLines text es
      → ((k v : List ℕ) → line ≡ entry_text (k, v) → IsWithout 58 k → IsUtf8 line → ⊥) → ⊥
  is_entry [] are none =
      let size : length (line ++ 10 ∷ after) ≡ 0 = ap length (sym is ∙ are.1) in
      omega (arith, length-append line (10 ∷ after))
  is_entry (e ∷ es) are none =
      let parts = divides 10 line (entry_text e) after (print_entries es) lacks are.0.0.line (sym is ∙ are.1) in
      none e.0 e.1 parts.0 are.0.0.key (subst IsUtf8 (sym parts.0) are.0.0.text)

  pub passed : (k v : List ℕ) → line ≡ entry_text (k, v) → IsWithout 58 k → (es : List Entry) → AreLines text es
      → (es ≡ (k, v) ∷ entries_in after) × AreLines after (entries_in after)
  passed k v same colon [] are =
      let size : length (line ++ 10 ∷ after) ≡ 0 = ap length (sym is ∙ are.1) in
      absurd (omega (arith, length-append line (10 ∷ after)))
  passed k v same colon (e ∷ es) are =
      let parts = divides 10 line (entry_text e) after (print_entries es) lacks are.0.0.line (sym is ∙ are.1) in
      let first = same_entry e k v are.0.0.key colon (sym parts.0 ∙ same) in
      let left = lines_are after es are.0.1 parts.1 in
      (ap (λ x. x ∷ es) first ∙ ap (λ xs. (k, v) ∷ xs) (sym left.0), left.1)

-- ---- loops that pass one entry after another

-- Some of all entries were passed, of which this is known, and these are left.
pub record Sofar (known : List Entry → Type 0) (all left : List Entry) : Type 0 where
  pub done : List Entry
  pub whole : all ≡ done ++ left
  pub are : known done

pub none_passed : (P : List Entry → Type 0) (all : List Entry) → P [] → Sofar P all all
none_passed P all is = record { done = []; whole = refl; are = is }

pub one_passed : (P Q : List Entry → Type 0) (all left new : List Entry) (e : Entry) → Sofar P all left → left ≡ e ∷ new
    → ((done : List Entry) → P done → Q (done ++ e ∷ [])) → Sofar Q all new
one_passed P Q all left new e sofar first more = record {
  done = sofar.done ++ e ∷ [];
  whole = sofar.whole ∙ ap (λ t. sofar.done ++ t) first ∙ sym (append_assoc sofar.done (e ∷ []) new);
  are = more sofar.done sofar.are;
}

pub all_passed : (P : List Entry → Type 0) (all left : List Entry) → Sofar P all left → left ≡ [] → P all
all_passed P all left sofar none =
    subst P (sym (sofar.whole ∙ ap (λ t. sofar.done ++ t) none ∙ append-nil sofar.done)) sofar.are

-- an entry that doesn't pass a test
pub not_all : (P : List Entry → Type 0) (p : Entry → Bool) (all left new : List Entry) (e : Entry) → Sofar P all left
    → left ≡ e ∷ new → p e ≡ false → list_all p all ≡ false
not_all P p all left new e sofar first fails =
    ap (list_all p) (sofar.whole ∙ ap (λ t. sofar.done ++ t) first) ∙ all_here p sofar.done e new fails

-- a value that stands for nothing
pub each_bad : {A : Type 0} (f : List ℕ → Option A) (P : List Entry → Type 0) (all left new : List Entry) (e : Entry)
    → Sofar P all left → left ≡ e ∷ new
    → (key : List ℕ) → bytes_eq e.0 key ≡ true → f e.1 ≡ None → each f (values key all) ≡ None
each_bad f P all left new e sofar first key same none =
    ap (λ t. each f (values key t)) (sofar.whole ∙ ap (λ t. sofar.done ++ t) first)
    ∙ ap (each f) (values-append key sofar.done (e ∷ new)
    ∙ ap (λ b. values key sofar.done ++ cond b (e.1 ∷ values key new) (values key new)) same)
    ∙ each_none f (values key sofar.done) e.1 (values key new) none
