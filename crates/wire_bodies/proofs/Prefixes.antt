-- The prefix of a text and what follows it, and what is read of them.
use Rattle.std.proofs.Common.{◌≡◌, ◌≢◌, ℕ, suc, ◌<◌, ◌==◌, false, cond, List, [], ◌∷◌, ◌++◌, length, refl, sym, ap, ◌∙◌}
use Rattle.std.proofs.Common.{arith, append_assoc, append-nil, subst, length-append}
use Rattle.std.proofs.lemmas.Bool.{ne_eqb}
use Rattle.wire_bodies.specs.Lines.{IsWithout, Entry, entry_text, print_entries, AreEntries, Reads, spelled}
use Rattle.wire_bodies.specs.Prefix.{next, place_after, prefix_from, rest_from, prefix_of, rest_of, IsPrefix}
use Rattle.wire_bodies.specs.declared.prefix.Place.{Place}
use Rattle.wire_bodies.specs.declared.prefix.Place.TheVariants.{BeginsLine, WithinLine, AfterPrefix}
use Rattle.wire_bodies.proofs.Reading.{reads_once}

pub stays : (x : List ℕ) → place_after AfterPrefix x ≡ AfterPrefix
stays [] = refl
stays (b ∷ x) = stays x

pub place_append : (p : Place) (x y : List ℕ) → place_after p (x ++ y) ≡ place_after (place_after p x) y
place_append p [] y = refl
place_append p (b ∷ x) y = place_append (next p b) x y

pub prefix_append : (p : Place) (x y : List ℕ)
    → prefix_from p (x ++ y) ≡ prefix_from p x ++ prefix_from (place_after p x) y
prefix_append AfterPrefix x y = sym (ap (λ p. prefix_from p y) (stays x))
prefix_append BeginsLine [] y = refl
prefix_append WithinLine [] y = refl
prefix_append BeginsLine (b ∷ x) y = ap (λ t. b ∷ t) (prefix_append (next BeginsLine b) x y)
prefix_append WithinLine (b ∷ x) y = ap (λ t. b ∷ t) (prefix_append (next WithinLine b) x y)

pub rest_append : (p : Place) (x y : List ℕ) → rest_from p (x ++ y) ≡ rest_from p x ++ rest_from (place_after p x) y
rest_append AfterPrefix x y = sym (ap (λ p. x ++ rest_from p y) (stays x))
rest_append BeginsLine [] y = refl
rest_append WithinLine [] y = refl
rest_append BeginsLine (b ∷ x) y = rest_append (next BeginsLine b) x y
rest_append WithinLine (b ∷ x) y = rest_append (next WithinLine b) x y

pub prefix_again : (p : Place) (x : List ℕ) → prefix_from p (prefix_from p x) ≡ prefix_from p x
prefix_again AfterPrefix x = refl
prefix_again BeginsLine [] = refl
prefix_again WithinLine [] = refl
prefix_again BeginsLine (b ∷ x) = ap (λ t. b ∷ t) (prefix_again (next BeginsLine b) x)
prefix_again WithinLine (b ∷ x) = ap (λ t. b ∷ t) (prefix_again (next WithinLine b) x)

pub rest_prefix : (p : Place) (x : List ℕ) → rest_from p (prefix_from p x) ≡ []
rest_prefix AfterPrefix x = refl
rest_prefix BeginsLine [] = refl
rest_prefix WithinLine [] = refl
rest_prefix BeginsLine (b ∷ x) = rest_prefix (next BeginsLine b) x
rest_prefix WithinLine (b ∷ x) = rest_prefix (next WithinLine b) x

pub place_prefix : (p : Place) (x : List ℕ) → place_after p (prefix_from p x) ≡ place_after p x
place_prefix AfterPrefix x = sym (stays x)
place_prefix BeginsLine [] = refl
place_prefix WithinLine [] = refl
place_prefix BeginsLine (b ∷ x) = place_prefix (next BeginsLine b) x
place_prefix WithinLine (b ∷ x) = place_prefix (next WithinLine b) x

-- the prefix and the rest are the text
pub both : (p : Place) (x : List ℕ) → prefix_from p x ++ rest_from p x ≡ x
both AfterPrefix x = refl
both BeginsLine [] = refl
both WithinLine [] = refl
both BeginsLine (b ∷ x) = ap (λ t. b ∷ t) (both (next BeginsLine b) x)
both WithinLine (b ∷ x) = ap (λ t. b ∷ t) (both (next WithinLine b) x)

-- ---- a look at one byte after the other

-- A text is examined up to a place within the prefix, or at its end: what was passed belongs to the prefix.
pub record Reached (p : Place) (text : List ℕ) (q : Place) (passed left : List ℕ) : Type 0 where
  pub prefix : prefix_from p text ≡ passed ++ prefix_from q left
  pub rest : rest_from p text ≡ rest_from q left
  pub next_place : place_after p text ≡ place_after q left

pub none_passed : (p : Place) (text : List ℕ) → Reached p text p [] text
none_passed p text = record { prefix = refl; rest = refl; next_place = refl }

prefix_step : (q : Place) (b : ℕ) (left : List ℕ) → q ≢ AfterPrefix
    → prefix_from q (b ∷ left) ≡ b ∷ prefix_from (next q b) left
prefix_step BeginsLine b left before = refl
prefix_step WithinLine b left before = refl
prefix_step AfterPrefix b left before = absurd (before refl)

rest_step : (q : Place) (b : ℕ) (left : List ℕ) → q ≢ AfterPrefix → rest_from q (b ∷ left) ≡ rest_from (next q b) left
rest_step BeginsLine b left before = refl
rest_step WithinLine b left before = refl
rest_step AfterPrefix b left before = absurd (before refl)

pub one_more : (p : Place) (text : List ℕ) (q : Place) (passed : List ℕ) (b : ℕ) (left : List ℕ) → q ≢ AfterPrefix
    → Reached p text q passed (b ∷ left) → Reached p text (next q b) (passed ++ b ∷ []) left
one_more p text q passed b left before is = record {
  prefix =
      is.prefix ∙ ap (λ t. passed ++ t) (prefix_step q b left before)
      ∙ sym (append_assoc passed (b ∷ []) (prefix_from (next q b) left));
  rest = is.rest ∙ rest_step q b left before;
  next_place = is.next_place;
}

prefix_nil : (q : Place) → prefix_from q [] ≡ []
prefix_nil BeginsLine = refl
prefix_nil WithinLine = refl
prefix_nil AfterPrefix = refl

rest_nil : (q : Place) → rest_from q [] ≡ []
rest_nil BeginsLine = refl
rest_nil WithinLine = refl
rest_nil AfterPrefix = refl

-- the whole text is passed
pub all_prefix : (p : Place) (text : List ℕ) (q : Place) (passed : List ℕ) → Reached p text q passed []
    → passed ≡ prefix_from p text
all_prefix p text q passed is = sym (is.prefix ∙ ap (λ t. passed ++ t) (prefix_nil q) ∙ append-nil passed)

pub all_rest : (p : Place) (text : List ℕ) (q : Place) (passed : List ℕ) → Reached p text q passed []
    → [] ≡ rest_from p text
all_rest p text q passed is = sym (is.rest ∙ rest_nil q)

-- the prefix is passed
pub end_prefix : (p : Place) (text : List ℕ) (passed left : List ℕ) → Reached p text AfterPrefix passed left
    → passed ≡ prefix_from p text
end_prefix p text passed left is = sym (is.prefix ∙ append-nil passed)

-- ---- one piece more

rest_empty : (old : List ℕ) → prefix_of old ≡ old → rest_of old ≡ []
rest_empty old whole = ap rest_of (sym whole) ∙ rest_prefix BeginsLine old

pub prefix_more : (old piece : List ℕ) (place : Place) → IsPrefix old place
    → old ++ prefix_from place piece ≡ prefix_of (old ++ piece)
prefix_more old piece place is =
    sym (prefix_append BeginsLine old piece ∙ ap (λ p. prefix_of old ++ prefix_from p piece) is.next_place
    ∙ ap (λ t. t ++ prefix_from place piece) is.whole)

pub rest_more : (old piece : List ℕ) (place : Place) → IsPrefix old place
    → rest_from place piece ≡ rest_of (old ++ piece)
rest_more old piece place is =
    sym (rest_append BeginsLine old piece ∙ ap (λ p. rest_of old ++ rest_from p piece) is.next_place
    ∙ ap (λ t. t ++ rest_from place piece) (rest_empty old is.whole))

pub is_prefix_more : (old piece : List ℕ) (place : Place) → IsPrefix old place
    → IsPrefix (old ++ prefix_from place piece) (place_after place piece)
is_prefix_more old piece place is =
    let new = prefix_more old piece place is in record {
      whole = ap prefix_of new ∙ prefix_again BeginsLine (old ++ piece) ∙ sym new;
      next_place =
          ap (λ t. place_after BeginsLine t) new ∙ place_prefix BeginsLine (old ++ piece)
          ∙ place_append BeginsLine old piece ∙ ap (λ p. place_after p piece) is.next_place;
    }

-- ---- a text within the prefix

-- all of a text belongs to the prefix, from one place to another
record Within (p : Place) (x : List ℕ) (q : Place) : Type 0 where
  pub prefix : prefix_from p x ≡ x
  pub rest : rest_from p x ≡ []
  pub next_place : place_after p x ≡ q

prefix_within : (p q : Place) (x y : List ℕ) → Within p x q → prefix_from p (x ++ y) ≡ x ++ prefix_from q y
prefix_within p q x y is =
    prefix_append p x y ∙ ap (λ t. t ++ prefix_from (place_after p x) y) is.prefix
    ∙ ap (λ r. x ++ prefix_from r y) is.next_place

rest_within : (p q : Place) (x y : List ℕ) → Within p x q → rest_from p (x ++ y) ≡ rest_from q y
rest_within p q x y is =
    rest_append p x y ∙ ap (λ t. t ++ rest_from (place_after p x) y) is.rest ∙ ap (λ r. rest_from r y) is.next_place

then_within : (p q r : Place) (x y : List ℕ) → Within p x q → Within q y r → Within p (x ++ y) r
then_within p q r x y a b = record {
  prefix = prefix_within p q x y a ∙ ap (λ t. x ++ t) b.prefix;
  rest = rest_within p q x y a ∙ b.rest;
  next_place = place_append p x y ∙ ap (λ s. place_after s y) a.next_place ∙ b.next_place;
}

no_feed : (b : ℕ) → b ≢ 10 → (b == 10) ≡ false
no_feed b other = ne_eqb b 10 other

-- a line that has begun
line_continues : (x : List ℕ) → IsWithout 10 x → Within WithinLine x WithinLine
line_continues [] lacks = record { prefix = refl; rest = refl; next_place = refl }
line_continues (b ∷ x) lacks =
    let step : next WithinLine b ≡ WithinLine =
    ap (λ c. cond c BeginsLine WithinLine) (no_feed b (lacks 0 (omega arith))) in
    let rest = line_continues x (λ i h. lacks (suc i) (omega arith)) in record {
      prefix = ap (λ t. b ∷ t) (ap (λ p. prefix_from p x) step ∙ rest.prefix);
      rest = ap (λ p. rest_from p x) step ∙ rest.rest;
      next_place = ap (λ p. place_after p x) step ∙ rest.next_place;
    }

-- a line that isn't empty
line_within : (x : List ℕ) → IsWithout 10 x → 0 < length x → Within BeginsLine x WithinLine
line_within [] lacks some = absurd (omega arith)
line_within (b ∷ x) lacks some =
    let step : next BeginsLine b ≡ WithinLine =
    ap (λ c. cond c AfterPrefix WithinLine) (no_feed b (lacks 0 (omega arith))) in
    let rest = line_continues x (λ i h. lacks (suc i) (omega arith)) in record {
      prefix = ap (λ t. b ∷ t) (ap (λ p. prefix_from p x) step ∙ rest.prefix);
      rest = ap (λ p. rest_from p x) step ∙ rest.rest;
      next_place = ap (λ p. place_after p x) step ∙ rest.next_place;
    }

entry_some : (e : Entry) → 0 < length (entry_text e)
entry_some e = omega (arith, length-append e.0 (58 ∷ 32 ∷ e.1))

entries_within : (es : List Entry) → AreEntries es → Within BeginsLine (print_entries es) BeginsLine
entries_within [] are = record { prefix = refl; rest = refl; next_place = refl }
entries_within (e ∷ es) are =
    then_within BeginsLine WithinLine BeginsLine (entry_text e) (10 ∷ print_entries es)
    (line_within (entry_text e) are.0.line (entry_some e))
    (then_within WithinLine BeginsLine BeginsLine (10 ∷ []) (print_entries es)
    (record { prefix = refl; rest = refl; next_place = refl }) (entries_within es are.1))

-- ---- what is read of a prefix

-- what is read of a text that isn't empty
reads_parts : (text : List ℕ) (es : List Entry) (q : List ℕ) → Reads text es q
    → Reads (prefix_of text) es [] × (q ≡ rest_of text)
reads_parts text es q reads =
    let lines = entries_within es reads.entries in (
      record {
        entries = reads.entries;
        whole = ap prefix_of reads.whole ∙ prefix_within BeginsLine BeginsLine (print_entries es) (10 ∷ q) lines;
      },
      sym (ap rest_of reads.whole ∙ rest_within BeginsLine BeginsLine (print_entries es) (10 ∷ q) lines),
    )

-- the empty line alone has no payload
blank_reads : (es : List Entry) (q : List ℕ) → Reads (10 ∷ []) es q → q ≡ []
blank_reads es q reads = (reads_once (10 ∷ []) es [] q [] reads (record { entries = tt; whole = refl })).1

-- If a body is read, its entries are read from its prefix alone, and its payload is the rest.
pub of_prefix : (text : List ℕ) (es : List Entry) (q : List ℕ) → Reads (spelled text) es q
    → Reads (spelled (prefix_of text)) es [] × (q ≡ rest_of text)
of_prefix [] es q reads = let none = blank_reads es q reads in (subst (λ p. Reads (10 ∷ []) es p) none reads, none)
of_prefix (b ∷ text) es q reads = reads_parts (b ∷ text) es q reads

-- If entries are read from the prefix of a body, they are the body's, and its payload is the rest.
pub from_prefix : (text : List ℕ) (es : List Entry) (q : List ℕ) → Reads (spelled (prefix_of text)) es q
    → Reads (spelled text) es (rest_of text) × (q ≡ [])
from_prefix [] es q reads = let none = blank_reads es q reads in (subst (λ p. Reads (10 ∷ []) es p) none reads, none)
from_prefix (b ∷ text) es q reads =
    let none = (reads_parts (prefix_of (b ∷ text)) es q reads).1 ∙ rest_prefix BeginsLine (b ∷ text) in (
      record {
        entries = reads.entries;
        whole =
            sym (both BeginsLine (b ∷ text))
            ∙ ap (λ t. t ++ rest_of (b ∷ text)) (reads.whole ∙ ap (λ p. print_entries es ++ 10 ∷ p) none)
            ∙ append_assoc (print_entries es) (10 ∷ []) (rest_of (b ∷ text));
      },
      none,
    )
