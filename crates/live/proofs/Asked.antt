-- What the marks against the edges say of paths.
use Rattle.std.proofs.Common.{◌≡◌, ℕ, zero, suc, ◌+◌, ◌<◌, ◌≤◌, Bool, true, false, cond, List, [], ◌∷◌, ◌++◌, length}
use Rattle.std.proofs.Common.{get_or, map, refl, sym, ap, ◌∙◌, subst, arith, IsTrue, ◌||◌, ◌↔◌}
use Rattle.std.specs.Prelude.{All, filter, nat_lt}
use Rattle.std.specs.List.{range_with_len, slice_index, list_any}
use Rattle.std.proofs.lemmas.Bool.{ltb-true, lt-ltb, le-ltb}
use Rattle.std.proofs.lemmas.List.{length-map, get_or-map, get_or_default, get_or_at, append-nil, append_assoc}
use Rattle.std.proofs.lemmas.List.{length_push}
use Rattle.std.proofs.lemmas.List.Elements.{All-cons, All-nil, Contains-get_or, filter-append}
use Rattle.paths.specs.Root.{Root}
use Rattle.live.specs.Graph.{Keep, Path, references_only}
use Rattle.live.specs.Reach.{reaches, refers_to_any}
use Rattle.live.specs.Places.{Entries}
use Rattle.live.specs.Backward.{IsBackward, ReachesAny}
use Rattle.live.specs.Numbering.{IsAimed, Rise, Row, graph_of, numbered, numbered_links, path_at, paths_of, root_at}
use Rattle.live.proofs.Members.{any_from, some_of_any}
use Rattle.live.proofs.Numberings.{at_place}
use Rattle.live.proofs.Order.{same_bools}
use Rattle.live.proofs.Reach.{decided}
use Rattle.live.proofs.Ways.{to_path, to_place}
use Rattle.live.proofs.Ranges.{range_push}

-- ---- the places that pass a test

pub passing_more : (p : ℕ → Bool) (n : ℕ) (before : List ℕ) → before ≡ filter p (range_with_len 0 n) → (b : Bool)
    → p n ≡ b → filter p (range_with_len 0 (n + 1)) ≡ before ++ cond b (n ∷ []) []
passing_more p n before e b is =
    ap (filter p) (range_push 0 n) ∙ filter-append p (range_with_len 0 n) ((0 + n) ∷ [])
    ∙ ap (λ xs. xs ++ filter p ((0 + n) ∷ [])) (sym e)
    ∙ ap (λ k. before ++ filter p (k ∷ [])) zero_n ∙ ap (λ c. before ++ cond c (n ∷ []) []) is
  where
    zero_n : 0 + n ≡ n
    zero_n = omega arith

pub same_passing : (p q : ℕ → Bool) (n : ℕ) → ((k : ℕ) → k < n → p k ≡ q k)
    → filter p (range_with_len 0 n) ≡ filter q (range_with_len 0 n)
same_passing p q zero same = refl
same_passing p q (suc n) same =
    let e : n + 1 ≡ suc n = omega arith in
    let all : filter p (range_with_len 0 (n + 1)) ≡ filter q (range_with_len 0 (n + 1)) =
    passing_more p n (filter p (range_with_len 0 n)) refl (q n) (same n (omega arith))
    ∙ ap (λ xs. xs ++ cond (q n) (n ∷ []) []) (same_passing p q n (λ k l. same k (omega arith)))
    ∙ sym (passing_more q n (filter q (range_with_len 0 n)) refl (q n) refl) in
    subst (λ k. filter p (range_with_len 0 k) ≡ filter q (range_with_len 0 k)) e all

-- what a read of the marks says of the test
pub passes : (marks : List ℕ) (t i x : ℕ) → t < length marks → x ≡ get_or marks t x → t ≡ i → x < 1
    → nat_lt (slice_index marks i) 1 ≡ true
passes marks t i x h at e l = (let r = read marks t i x h at e in lt-ltb (slice_index marks i) 1 (omega arith))
  where
    read : (marks : List ℕ) (t i x : ℕ) → t < length marks → x ≡ get_or marks t x → t ≡ i → slice_index marks i ≡ x
    read marks t i x h at e = ap (slice_index marks) (sym e) ∙ get_or_default marks t 0 x h ∙ sym at

pub misses : (marks : List ℕ) (t i x : ℕ) → t < length marks → x ≡ get_or marks t x → t ≡ i → 1 ≤ x
    → nat_lt (slice_index marks i) 1 ≡ false
misses marks t i x h at e l =
    (let r : slice_index marks i ≡ x = ap (slice_index marks) (sym e) ∙ get_or_default marks t 0 x h ∙ sym at in
    le-ltb (slice_index marks i) 1 (omega arith))

pub one_passes : (p : ℕ → Bool) (n : ℕ) (before after : List ℕ) → before ≡ filter p (range_with_len 0 n) → p n ≡ true
    → after ≡ before ++ n ∷ [] → after ≡ filter p (range_with_len 0 (n + 1))
one_passes p n before after e is a = a ∙ sym (passing_more p n before e true is)

pub one_misses : (p : ℕ → Bool) (n : ℕ) (before after : List ℕ) → before ≡ filter p (range_with_len 0 n) → p n ≡ false
    → after ≡ before → after ≡ filter p (range_with_len 0 (n + 1))
one_misses p n before after e is a = a ∙ sym (append-nil before) ∙ sym (passing_more p n before e false is)

module _ (rows : List Row) (rise : Rise (paths_of rows)) where
  numbers : length (numbered rows) ≡ length rows
  numbers = length-map rows (λ (r : Row). numbered_links (paths_of rows) r.1)

  names : length (paths_of rows) ≡ length rows
  names = length-map rows (λ (r : Row). r.0)

  -- a place that is marked reaches a named path, and the other way round
  any_way : (keep : Keep) (named marks : List ℕ) → All (λ t. t < length rows) named
      → IsBackward keep (numbered rows) named marks → (i : ℕ) → i < length rows
      → nat_lt (slice_index marks i) 1
      ≡ list_any (reaches keep (graph_of rows) (path_at rows i)) (map (path_at rows) named)
  any_way keep named marks aims back i h =
      same_bools (nat_lt (slice_index marks i) 1)
      (list_any (reaches keep (graph_of rows) (path_at rows i)) (map (path_at rows) named)) present here
    where
      exact : (slice_index marks i < 1) ↔ ReachesAny keep (numbered rows) named i
      exact = back.exact i (omega (arith, h, numbers))

      present : IsTrue (nat_lt (slice_index marks i) 1)
          → IsTrue (list_any (reaches keep (graph_of rows) (path_at rows i)) (map (path_at rows) named))
      present m =
          let r = exact.0 (ltb-true (slice_index marks i) 1 m) in
          any_from (reaches keep (graph_of rows) (path_at rows i)) (map (path_at rows) named) (path_at rows r.end) (
            r.is_named.0,
            (let l = r.is_named.1 in let n = length-map named (path_at rows) in omega arith),
            get_or-map (path_at rows) named r.is_named.0 r.end (path_at rows r.end) r.is_named.1
                ∙ ap (path_at rows) r.is_named.2,
          )
          ((decided keep (graph_of rows) (path_at rows i) (path_at rows r.end)).1
          (to_path keep rows rise i r.end h r.reaches))

      here : IsTrue (list_any (reaches keep (graph_of rows) (path_at rows i)) (map (path_at rows) named))
          → IsTrue (nat_lt (slice_index marks i) 1)
      here t =
          let s = some_of_any (reaches keep (graph_of rows) (path_at rows i)) (map (path_at rows) named) t in
          let l : s.1.0 < length named = (let a = s.1.1 in let n = length-map named (path_at rows) in omega arith) in
          let same : path_at rows (get_or named s.1.0 0) ≡ s.0 =
          sym (get_or-map (path_at rows) named s.1.0 0 s.0 l) ∙ s.1.2 in
          let way =
          (decided keep (graph_of rows) (path_at rows i) (path_at rows (get_or named s.1.0 0))).0
          (ap (reaches keep (graph_of rows) (path_at rows i)) same ∙ s.2) in
          lt-ltb (slice_index marks i) 1 (exact.1 (record {
            end = get_or named s.1.0 0;
            is_named = Contains-get_or named s.1.0 0 l;
            reaches = to_place keep rows rise i (get_or named s.1.0 0) h (aims s.1.0 0 l) way;
          }))

  pub one_way : (keep : Keep) (place : ℕ) (marks : List ℕ) → place < length rows
      → IsBackward keep (numbered rows) (place ∷ []) marks → (i : ℕ) → i < length rows
      → nat_lt (slice_index marks i) 1 ≡ reaches keep (graph_of rows) (path_at rows i) (path_at rows place)
  one_way keep place marks h back i l =
      any_way keep (place ∷ []) marks aims back i l
      ∙ or_none (reaches keep (graph_of rows) (path_at rows i) (path_at rows place))
    where
      aims : All (λ t. t < length rows) (place ∷ [])
      aims = All-cons (λ t. t < length rows) place [] h (All-nil (λ t. t < length rows))

      or_none : (b : Bool) → (b || false) ≡ b
      or_none true = refl
      or_none false = refl

  pub roots_asked : (es : List Entries) → es ≡ numbered rows → (keep : Keep) (given : List Root) (targets : List ℕ)
      → IsAimed rows given targets → (place : ℕ) → place < length es → (marks : List ℕ)
      → IsBackward keep es (place ∷ []) marks
      → (n : ℕ) → n ≡ length targets → (found : List ℕ)
      → found ≡ filter (λ k. nat_lt (slice_index marks (slice_index targets k)) 1) (range_with_len 0 n)
      → found ≡ filter (λ k. reaches keep (graph_of rows) (root_at given k).target (path_at rows place))
      (range_with_len 0 (length given))
  roots_asked es is keep given targets aimed place h marks back n en found e =
      e ∙ same_passing (λ k. nat_lt (slice_index marks (slice_index targets k)) 1)
      (λ k. reaches keep (graph_of rows) (root_at given k).target (path_at rows place)) n agree
      ∙ ap (λ m. filter (λ k. reaches keep (graph_of rows) (root_at given k).target (path_at rows place))
      (range_with_len 0 m)) (en ∙ aimed.count)
    where
      agree : (k : ℕ) → k < n → nat_lt (slice_index marks (slice_index targets k)) 1
          ≡ reaches keep (graph_of rows) (root_at given k).target (path_at rows place)
      agree k l =
          let aim =
          at_place (paths_of rows) rise (root_at given k).target (slice_index targets k)
          (aimed.places k (let c = aimed.count in omega arith)) in
          let same = ap length is in
          one_way keep place marks (omega (arith, h, same, numbers))
          (subst (λ (xs : List Entries). IsBackward keep xs (place ∷ []) marks) is back) (slice_index targets k)
          (let a = aim.0 in omega (arith, names))
          ∙ ap (λ p. reaches keep (graph_of rows) p (path_at rows place)) aim.1

  pub referrers_asked : (es : List Entries) → es ≡ numbered rows → (named marks : List ℕ)
      → All (λ t. t < length es) named → IsBackward references_only es named marks
      → (n : ℕ) → n ≡ length es → (found : List ℕ)
      → found ≡ filter (λ i. nat_lt (slice_index marks i) 1) (range_with_len 0 n)
      → found ≡ filter (λ i. refers_to_any (graph_of rows) (map (path_at rows) named) (path_at rows i))
      (range_with_len 0 (length rows))
  referrers_asked es is named marks aims back n en found e =
      let all : n ≡ length rows = (let a = ap length is in omega (arith, numbers)) in
      e ∙ same_passing (λ i. nat_lt (slice_index marks i) 1)
      (λ i. refers_to_any (graph_of rows) (map (path_at rows) named) (path_at rows i)) n
      (λ i l. any_way references_only named marks
      (λ k d h. (let b = aims k d h in let a = ap length is in omega (arith, numbers)))
      (subst (λ (xs : List Entries). IsBackward references_only xs named marks) is back) i (omega arith))
      ∙ ap (λ m. filter (λ i. refers_to_any (graph_of rows) (map (path_at rows) named) (path_at rows i))
      (range_with_len 0 m)) all

-- ---- the elements that pass, by their places

pass_from : {X : Type 0} (q : X → Bool) (d : X) (all pre xs : List X) (a : ℕ) → all ≡ pre ++ xs → length pre ≡ a
    → map (λ k. get_or all k d) (filter (λ k. q (get_or all k d)) (range_with_len a (length xs))) ≡ filter q xs
pass_from q d all pre [] a is e = refl
pass_from {X} q d all pre (x ∷ xs) a is e =
    go (q (get_or all a d)) refl (pass_from q d all (pre ++ x ∷ []) xs (a + 1) (is ∙ sym (append_assoc pre (x ∷ []) xs))
    (length_push pre x ∙ ap (λ n. n + 1) e))
  where
    here : get_or all a d ≡ x
    here = ap (λ ys. get_or ys a d) is ∙ get_or_at pre x xs d a e

    go : (b : Bool) → q (get_or all a d) ≡ b
        → map (λ k. get_or all k d) (filter (λ k. q (get_or all k d)) (range_with_len (a + 1) (length xs)))
        ≡ filter q xs
        → map (λ k. get_or all k d) (cond b (a ∷ filter (λ k. q (get_or all k d)) (range_with_len (a + 1) (length xs)))
        (filter (λ k. q (get_or all k d)) (range_with_len (a + 1) (length xs))))
        ≡ cond (q x) (x ∷ filter q xs) (filter q xs)
    go true t rest =
        (λ i. here i ∷ rest i) ∙ ap (λ b. cond b (x ∷ filter q xs) (filter q xs)) (sym (sym (ap q here) ∙ t))
    go false t rest = rest ∙ ap (λ b. cond b (x ∷ filter q xs) (filter q xs)) (sym (sym (ap q here) ∙ t))

pub all_passing : {X : Type 0} (q : X → Bool) (d : X) (xs : List X) (found : List ℕ)
    → found ≡ filter (λ k. q (get_or xs k d)) (range_with_len 0 (length xs))
    → map (λ k. get_or xs k d) found ≡ filter q xs
all_passing q d xs found e = ap (map (λ k. get_or xs k d)) e ∙ pass_from q d xs [] xs 0 refl refl

pub paths_passing : (rows : List Row) (q : Path → Bool) (found : List ℕ)
    → found ≡ filter (λ i. q (path_at rows i)) (range_with_len 0 (length rows))
    → map (path_at rows) found ≡ filter q (paths_of rows)
paths_passing rows q found e =
    let n : length rows ≡ length (paths_of rows) = sym (length-map rows (λ (r : Row). r.0)) in
    all_passing q [] (paths_of rows) found (e ∙ ap (λ m. filter (λ i. q (path_at rows i)) (range_with_len 0 m)) n)
