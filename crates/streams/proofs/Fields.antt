-- What the fields of `Pieces` say of its bytes.
use Rattle.std.proofs.Common.{◌≡◌, Bool, true, false, ℕ, suc, ◌+◌, ◌*◌, ◌^◌, ◌<◌, ◌≤◌, List, [], ◌∷◌, ◌++◌, length, map}
use Rattle.std.proofs.Common.{take, drop, get_or, Vec, Global, ap, sym, ◌∙◌, arith, length-append}
use Rattle.std.specs.Bool.{if◌then◌else◌}
use Rattle.std.specs.List.{concat}
use Rattle.std.proofs.lemmas.List.{length-map, length-take, get_or-map, take-map, map-append, take_more}
use Rattle.streams.specs.declared.bytes.Pieces.TheInside.{Inside}
use Rattle.streams.specs.Cut.{piece_of, AreCut}
use Rattle.streams.proofs.Cutting.{counted, whole_piece, concat-push, whole-push, whole-take, prefix_of_whole}
use Rattle.streams.proofs.Cutting.{take_before}

-- the bytes of each
abbrev pub bytes_of : List (Vec ℕ Global) → List (List ℕ)
bytes_of vs = map (λ v. v.items) vs

abbrev pub parts : Inside → List (List ℕ)
parts p = bytes_of p.whole.items

pub many : (p : Inside) → length (parts p) ≡ p.whole.len
many p = length-map p.whole.items (λ v. v.items) ∙ sym p.whole.ok.0

pub counted_by : (p : Inside) → AreCut (parts p) p.last.items
    → p.whole.len * 65536 + p.last.len ≡ length (concat (parts p) ++ p.last.items)
counted_by p cut = omega (arith, counted (parts p) p.last.items cut.each, many p, p.last.ok.0)

pub small_by : (p : Inside) → AreCut (parts p) p.last.items → p.whole.len * 65536 + p.last.len < 2 ^ 64
small_by p cut = omega (arith, counted_by p cut, cut.small)

item_at : (vs : List (Vec ℕ Global)) (i : ℕ) (v : Vec ℕ Global) → i < length vs → v ≡ get_or vs i v
    → v.items ≡ get_or (bytes_of vs) i []
item_at vs i v lt is = ap (λ w. w.items) is ∙ sym (get_or-map (λ w. w.items) vs i v [] lt)

pub part_at : (p : Inside) → AreCut (parts p) p.last.items → (i : ℕ) (v : Vec ℕ Global) → i < p.whole.len
    → v ≡ get_or p.whole.items i v → v.items ≡ piece_of i (concat (parts p) ++ p.last.items)
part_at p cut i v lt is =
    item_at p.whole.items i v (omega (arith, p.whole.ok.0)) is
    ∙ whole_piece i (parts p) p.last.items cut.each (omega (arith, many p))

pub concat_more : (vs : List (Vec ℕ Global)) (v : Vec ℕ Global)
    → concat (bytes_of (vs ++ v ∷ [])) ≡ concat (bytes_of vs) ++ v.items
concat_more vs v = ap concat (map-append (λ w. w.items) vs (v ∷ [])) ∙ concat-push (bytes_of vs) v.items

pub joined_more : (vs : List (Vec ℕ Global)) (i : ℕ) (v : Vec ℕ Global) → i < length vs → v ≡ get_or vs i v
    → concat (bytes_of (take i vs)) ++ v.items ≡ concat (bytes_of (take (i + 1) vs))
joined_more vs i v lt is =
    sym (concat_more (take i vs) v)
    ∙ ap (λ w. concat (bytes_of (take i vs ++ w ∷ []))) is
    ∙ ap (λ ws. concat (bytes_of ws)) (sym (take_more vs i v lt))

-- a full last piece among the whole ones, and the next one after it
pub full_joined : (vs : List (Vec ℕ Global)) (v : Vec ℕ Global) (next : List ℕ)
    → concat (bytes_of (vs ++ v ∷ [])) ++ next ≡ (concat (bytes_of vs) ++ v.items) ++ next
full_joined vs v next = ap (λ t. t ++ next) (concat_more vs v)

pub full_cut : (vs : List (Vec ℕ Global)) (v : Vec ℕ Global) (next : List ℕ) → AreCut (bytes_of vs) v.items
    → 65536 ≤ length v.items → length next ≤ 65536
    → length (concat (bytes_of vs) ++ v.items) + length next < 2 ^ 64 → AreCut (bytes_of (vs ++ v ∷ [])) next
full_cut vs v next cut full fits small =
    let split = map-append (λ w. w.items) vs (v ∷ []) in
    record {
      each = rw split (whole-push (bytes_of vs) v.items cut.each (omega (arith, cut.last_fits)));
      last_fits = fits;
      small =
          omega (arith, ap length (full_joined vs v next), length-append (concat (bytes_of vs) ++ v.items) next, small);
    }

-- a last piece that grows or stays, and is short of a whole one in either case
pub grown_cut : (grows : Bool) (vs : List (Vec ℕ Global)) (last more : List ℕ) → AreCut (bytes_of vs) last
    → length last + length more < 65536 → AreCut (bytes_of vs) (if grows then last ++ more else last)
grown_cut false vs last more cut lt = cut
grown_cut true vs last more cut lt =
    record {
      each = cut.each;
      last_fits = omega (arith, length-append last more, lt);
      small =
          omega (
            arith,
            counted (bytes_of vs) last cut.each,
            counted (bytes_of vs) (last ++ more) cut.each,
            length-append last more,
            lt,
            cut.small,
          );
    }

-- ---- a prefix

left_of : (vs left : List (Vec ℕ Global)) (n : ℕ) → n < length vs → left ≡ take n (take n vs ++ drop (suc n) vs)
    → bytes_of left ≡ take n (bytes_of vs)
left_of vs left n lt is = ap bytes_of (is ∙ take_before n vs lt) ∙ sym (take-map (λ w. w.items) n vs)

pub prefix_joined : (p : Inside) → AreCut (parts p) p.last.items
    → (n r : ℕ) (v : Vec ℕ Global) (left : List (Vec ℕ Global)) → n < p.whole.len → r ≤ 65536
    → v ≡ get_or p.whole.items n v → left ≡ take n (take n p.whole.items ++ drop (suc n) p.whole.items)
    → concat (bytes_of left) ++ take r v.items ≡ take (65536 * n + r) (concat (parts p) ++ p.last.items)
prefix_joined p cut n r v left lt le is gone =
    let within : n < length p.whole.items = omega (arith, p.whole.ok.0) in
    ap (λ ps. concat ps ++ take r v.items) (left_of p.whole.items left n within gone)
    ∙ ap (λ t. concat (take n (parts p)) ++ take r t) (item_at p.whole.items n v within is)
    ∙ prefix_of_whole n r (parts p) p.last.items cut.each (omega (arith, many p)) le

pub prefix_cut : (p : Inside) → AreCut (parts p) p.last.items
    → (n r : ℕ) (v : Vec ℕ Global) (left : List (Vec ℕ Global)) → n < p.whole.len → r ≤ 65536
    → v ≡ get_or p.whole.items n v → left ≡ take n (take n p.whole.items ++ drop (suc n) p.whole.items)
    → AreCut (bytes_of left) (take r v.items)
prefix_cut p cut n r v left lt le is gone =
    let within : n < length p.whole.items = omega (arith, p.whole.ok.0) in
    let bytes = concat (parts p) ++ p.last.items in
    record {
      each = rw (left_of p.whole.items left n within gone) (whole-take n (parts p) cut.each);
      last_fits = omega (arith, length-take r v.items);
      small =
          omega (
            arith,
            ap length (prefix_joined p cut n r v left lt le is gone),
            length-take (65536 * n + r) bytes,
            cut.small,
          );
    }
