-- The paths left that reach a path by references.
use Rattle.std.proofs.Common.{◌≡◌, ℕ, zero, suc, ◌+◌, ◌<◌, ◌≤◌, ◌&&◌, Bool, true, false, cond, List, [], ◌∷◌, length}
use Rattle.std.proofs.Common.{map, refl, sym, ap, ◌∙◌, subst, arith, Some, None, Vec, Global}
use Rattle.std.specs.Prelude.{All, filter, nat_lt}
use Rattle.std.specs.List.{range_with_len, slice_index}
use Rattle.std.proofs.lemmas.List.{length-map}
use Rattle.std.proofs.lemmas.List.Elements.{All-cons, All-nil}
use Rattle.live.specs.Graph.{Path, references_only}
use Rattle.live.specs.Reach.{reaches}
use Rattle.live.specs.Limited.{next_group}
use Rattle.live.specs.Places.{Entries}
use Rattle.live.specs.Backward.{IsBackward}
use Rattle.live.specs.Numbering.{Row, Rise, graph_of, numbered, numbered_links, path_at, paths_of}
use Rattle.live.specs.Remainder.{Remaining, IsRemaining, IsNextUnreferred, IsLeastDead, NoneUnreferred, NoneDead}
use Rattle.live.specs.Remainder.{Represents, group_at, is_in, nothing_owed, places_left}
use Rattle.live.proofs.Asked.{one_way, same_passing}
use Rattle.live.proofs.Nexts.{unreferred_is, with_referrers_is, no_group_is}

inside_step : (m a : ℕ) (rest : List ℕ) (b : Bool) → a < m → All (λ t. t < m) rest
    → All (λ t. t < m) (cond b (a ∷ rest) rest)
inside_step m a rest true h all = All-cons (λ t. t < m) a rest h all
inside_step m a rest false h all = all

inside_from : (p : ℕ → Bool) (a n m : ℕ) → a + n ≤ m → All (λ t. t < m) (filter p (range_with_len a n))
inside_from p a zero m h = All-nil (λ t. t < m)
inside_from p a (suc n) m h =
    inside_step m a (filter p (range_with_len (a + 1) n)) (p a) (omega arith) (inside_from p (a + 1) n m (omega arith))

pub passing_inside : (p : ℕ → Bool) (n m : ℕ) (found : List ℕ) → n ≤ m → found ≡ filter p (range_with_len 0 n)
    → All (λ t. t < m) found
passing_inside p n m found h e = subst (All (λ t. t < m)) (sym e) (inside_from p 0 n m (omega arith))

pub not_here : (a b : Bool) → a ≡ false → (a && b) ≡ false
not_here a b e = ap (λ c. c && b) e

pub not_by_second : (a b : Bool) → b ≡ false → (a && b) ≡ false
not_by_second true b e = e
not_by_second false b e = refl

pub both_hold : (a b : Bool) → a ≡ true → b ≡ true → (a && b) ≡ true
both_hold a b e f = ap (λ c. c && b) e ∙ f

pub reaching_asked : (rows : List Row) → Rise (paths_of rows) → (es : List Entries) → es ≡ numbered rows → (place : ℕ)
    → place < length es → (marks : List ℕ) → IsBackward references_only es (place ∷ []) marks
    → (left : List Bool) → length left ≡ length es → (n : ℕ) → n ≡ length es → (found : List ℕ)
    → found ≡ filter (λ i. is_in left i && nat_lt (slice_index marks i) 1) (range_with_len 0 n)
    → found ≡ filter (λ i. is_in left i
    && reaches references_only (graph_of rows) (path_at rows i) (path_at rows place))
    (range_with_len 0 (length left))
reaching_asked rows rise es is place h marks back left places n all found e =
    let count : length es ≡ length rows =
    ap length is ∙ length-map rows (λ (r : Row). numbered_links (paths_of rows) r.1) in
    e ∙ same_passing (λ i. is_in left i && nat_lt (slice_index marks i) 1)
    (λ i. is_in left i && reaches references_only (graph_of rows) (path_at rows i) (path_at rows place)) n
    (λ i l. ap (λ b. is_in left i && b)
    (one_way rows rise references_only place marks (omega arith)
    (subst (λ (xs : List Entries). IsBackward references_only xs (place ∷ []) marks) is back) i (omega arith)))
    ∙ ap (λ m. filter (λ i. is_in left i
    && reaches references_only (graph_of rows) (path_at rows i) (path_at rows place)) (range_with_len 0 m))
    (all ∙ sym places)

-- ---- the next group at the values of the code

module _ (es : List Entries) (old s : Remaining) (ed : s.dead ≡ old.dead) (el : s.left ≡ old.left)
    (remains : IsRemaining es nothing_owed s)
    (sizes : List ℕ) (rows : List Row) (is_dead : Path → Bool) (size : Path → ℕ)
    (stands : Represents es old.dead sizes rows is_dead size) where
  here : Represents es s.dead sizes rows is_dead size
  here = subst (λ (ds : List Bool). Represents es ds sizes rows is_dead size) (sym ed) stands

  before : next_group (graph_of rows) is_dead (map (path_at rows) (places_left s.left))
      ≡ next_group (graph_of rows) is_dead (map (path_at rows) (places_left old.left))
  before = ap (λ (bs : List Bool). next_group (graph_of rows) is_dead (map (path_at rows) (places_left bs))) el

  pub from_unreferred : (p : ℕ) → IsNextUnreferred s p → (v : Vec ℕ Global) → v.items ≡ p ∷ []
      → Some (group_at rows v) ≡ next_group (graph_of rows) is_dead (map (path_at rows) (places_left old.left))
  from_unreferred p n v e =
      ap (λ xs. Some (map (path_at rows) xs)) e ∙ sym (unreferred_is es s remains sizes rows is_dead size here p n)
      ∙ before

  pub from_referrers : (p : ℕ) → NoneUnreferred s → IsLeastDead s p → (v : Vec ℕ Global)
      → ((rs : List Row) → Rise (paths_of rs) → es ≡ numbered rs
      → v.items ≡ filter (λ i. is_in s.left i
      && reaches references_only (graph_of rs) (path_at rs i) (path_at rs p))
      (range_with_len 0 (length s.left)))
      → Some (group_at rows v) ≡ next_group (graph_of rows) is_dead (map (path_at rows) (places_left old.left))
  from_referrers p none n v e =
      ap (λ xs. Some (map (path_at rows) xs)) (e rows stands.rise stands.rows)
      ∙ sym (with_referrers_is es s remains sizes rows is_dead size here p none n) ∙ before

  pub from_none : NoneUnreferred s → NoneDead s
      → None ≡ next_group (graph_of rows) is_dead (map (path_at rows) (places_left old.left))
  from_none none dead = sym (no_group_is es s remains sizes rows is_dead size here none dead) ∙ before
