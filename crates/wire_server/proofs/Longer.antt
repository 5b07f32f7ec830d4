-- A head is in a longer buffer at the same places.
use Rattle.std.proofs.Common.{◌≡◌, ℕ, suc, ◌-◌, ◌≤◌, List, [], ◌∷◌, ◌++◌, length, take, drop, refl, sym, ap, ◌∙◌, arith}
use Rattle.std.proofs.Common.{subst, length-append, length-drop}
use Rattle.std.specs.Prelude.{map, All, slice_range}
use Rattle.std.proofs.lemmas.List.{take-append-le, drop-append-le}
use Rattle.httparse.specs.declared.spans.Span.{Span}
use Rattle.httparse.specs.declared.spans.HeaderSpan.{HeaderSpan}
use Rattle.httparse.specs.Grammar.{RequestHead}
use Rattle.httparse.specs.Spans.{span_bytes, header_bytes, IsWithin, IsHeaderWithin}
use Rattle.httparse.proofs.GrammarLemmas.{ReadsRequest-append}
use Rattle.wire_server.specs.declared.head.Head.{Head}
use Rattle.wire_server.specs.Heads.{IsHead, Holds}

range-append : (buf more : List ℕ) (a b : ℕ) → a ≤ b → b ≤ length buf
    → slice_range (buf ++ more) a b ≡ slice_range buf a b
range-append buf more a b ordered within =
    let first : a ≤ length buf = omega arith in
    let size : length (drop a buf) ≡ length buf - a = length-drop a buf in
    ap (take (b - a)) (drop-append-le a buf more first) ∙ take-append-le (b - a) (drop a buf) more (omega arith)

span-append : (buf more : List ℕ) (n : ℕ) (s : Span) → IsWithin n s → n ≤ length buf
    → span_bytes (buf ++ more) s ≡ span_bytes buf s
span-append buf more n s within fits = range-append buf more s.start s.end within.0 (omega (arith, within.1))

map_same : {X Y : Type 0} (f g : X → Y) (P : X → Type 0) → ((x : X) → P x → f x ≡ g x) → (xs : List X) → All P xs
    → map f xs ≡ map g xs
map_same f g P same [] all = refl
map_same f g P same (x ∷ xs) all =
    let first = same x (all 0 x (omega arith)) in
    let rest = map_same f g P same xs (λ k d h. all (suc k) d (omega arith)) in
    ap (λ y. y ∷ map f xs) first ∙ ap (λ ys. g x ∷ ys) rest

-- a head is that of the bytes with more after them
pub head-append : (buf more : List ℕ) (h : RequestHead) (rest : List ℕ) → IsHead buf h rest
    → IsHead (buf ++ more) h (rest ++ more)
head-append buf more h rest is =
    record { reads = ReadsRequest-append buf h rest more is.reads; short = is.short; few = is.few }

pub holds-append : (buf more : List ℕ) (head : Head) (h : RequestHead) → Holds buf head h → Holds (buf ++ more) head h
holds-append buf more head h is =
    let len = head.spans.len in
    let fits = is.within.section.len_fits in
    let rest = sym (drop-append-le len buf more fits) in
    let longer : IsHead (buf ++ more) h (drop len (buf ++ more)) =
    subst (IsHead (buf ++ more) h) rest (head-append buf more h (drop len buf) is.is_head) in
    let at = is.places in
    let same : (f : HeaderSpan) → IsHeaderWithin len f → header_bytes (buf ++ more) f ≡ header_bytes buf f =
    λ f within. λ i. (
      span-append buf more len f.name within.0 fits i,
      span-append buf more len f.value within.1 fits i,
    ) in
    record {
      is_head = longer;
      places = record {
        reads = longer.reads;
        len = at.len;
        method = span-append buf more len head.spans.method is.within.method fits ∙ at.method;
        path = span-append buf more len head.spans.path is.within.path fits ∙ at.path;
        version = at.version;
        fields =
            map_same (header_bytes (buf ++ more)) (header_bytes buf) (IsHeaderWithin len) same
            (take head.spans.headers head.fields) is.within.section.headers_fit ∙ at.fields;
      };
      within = record {
        method = is.within.method;
        path = is.within.path;
        version = is.within.version;
        section = record {
          len_fits = omega (arith, length-append buf more, fits);
          count_fits = is.within.section.count_fits;
          headers_fit = is.within.section.headers_fit;
        };
      };
    }
