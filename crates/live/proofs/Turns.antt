-- A collection up to a limit, turn after turn.
use Rattle.std.proofs.Common.{◌≡◌, ℕ, suc, drop-cons, ◌+◌, ◌<◌, ◌≤◌, ◌-◌, ◌&&◌, ◌==◌, Some, Bool, List, [], ◌∷◌, length}
use Rattle.std.proofs.Common.{get_or, map, drop, sym, ap, ◌∙◌, arith, IsTrue}
use Rattle.std.specs.Prelude.{All, filter, is_none, not, sum_by}
use Rattle.std.specs.List.{list_any, range_with_len, slice_index}
use Rattle.std.proofs.lemmas.List.{length-map, drop_all}
use Rattle.paths.specs.Root.{Root}
use Rattle.live.specs.Graph.{Path, Keep}
use Rattle.live.specs.Live.{is_live}
use Rattle.live.specs.Limited.{is_among, limited_groups, next_group, without}
use Rattle.live.specs.Places.{Entries}
use Rattle.live.specs.Marks.{Marking, first_of}
use Rattle.live.specs.Exact.{IsExact}
use Rattle.live.specs.Numbering.{Row, Rise, graph_of, numbered, numbered_links, path_at, paths_of}
use Rattle.live.specs.Remainder.{Remaining, IsRemaining, Represents, is_in, left_after, nothing_owed, places_left}
use Rattle.live.proofs.Ends.{all_left, dead_is, went}
use Rattle.live.proofs.Nexts.{left_without, sizes_of}
use Rattle.live.proofs.Rests.{nothing_left, one_turn}

-- N turns were taken
pub record IsUnder (es : List Entries) (m : Marking) (sizes : List ℕ) (limit turn : ℕ) (s : Remaining)
    (wanted : ℕ) : Type 0 where
  pub remains : IsRemaining es nothing_owed s
  pub dead : (i : ℕ) → i < length es → is_in s.dead i ≡ is_none (first_of m i)
  pub so_far : (rows : List Row) (is_dead : Path → Bool) (size : Path → ℕ)
      → Represents es s.dead sizes rows is_dead size
      → left_after (graph_of rows) is_dead size (drop turn (paths_of rows)) (map (path_at rows) (places_left s.left))
      wanted ≡ left_after (graph_of rows) is_dead size (paths_of rows) (paths_of rows) limit

count : (es : List Entries) (rows : List Row) → es ≡ numbered rows → length es ≡ length rows
count es rows e = ap length e ∙ length-map rows (λ (r : Row). numbered_links (paths_of rows) r.1)

pub under_way : (es : List Entries) (m : Marking) (sizes : List ℕ) (limit : ℕ) (s : Remaining)
    → IsRemaining es nothing_owed s → ((i : ℕ) → i < length es → IsTrue (is_in s.left i))
    → ((i : ℕ) → i < length es → is_in s.dead i ≡ is_none (first_of m i)) → IsUnder es m sizes limit 0 s limit
under_way es m sizes limit s r left dead = record {
  remains = r;
  dead = dead;
  so_far = λ rows is_dead size stands. ap (λ ps. left_after (graph_of rows) is_dead size (paths_of rows) ps limit)
      (all_left rows stands.rise s.left (r.places ∙ count es rows stands.rows)
      (λ i h. left i (let n = count es rows stands.rows in omega arith)));
}

pub one_more : (es : List Entries) (m : Marking) (sizes : List ℕ) (limit turn : ℕ) (s t : Remaining) (v w : ℕ)
    → turn < length es → IsUnder es m sizes limit turn s v → IsRemaining es nothing_owed t → t.dead ≡ s.dead
    → ((rows : List Row) (is_dead : Path → Bool) (size : Path → ℕ) → Represents es s.dead sizes rows is_dead size
    → (p : Path) (ps : List Path)
    → left_after (graph_of rows) is_dead size ps (map (path_at rows) (places_left t.left)) w
    ≡ left_after (graph_of rows) is_dead size (p ∷ ps) (map (path_at rows) (places_left s.left)) v)
    → IsUnder es m sizes limit (turn + 1) t w
one_more es m sizes limit turn s t v w h u r dead step = record {
  remains = r;
  dead = λ i b. ap (λ (ds : List Bool). is_in ds i) dead ∙ u.dead i b;
  so_far = λ rows is_dead size stands. (
      let before : Represents es s.dead sizes rows is_dead size =
      record {
        rise = stands.rise;
        rows = stands.rows;
        deads = λ i b. stands.deads i b ∙ ap (λ (ds : List Bool). is_in ds i) dead;
        size = stands.size;
      } in
      let n = count es rows stands.rows in
      let l = length-map rows (λ (x : Row). x.0) in
      let next : drop turn (paths_of rows) ≡ get_or (paths_of rows) turn [] ∷ drop (turn + 1) (paths_of rows) =
      drop-cons (paths_of rows) turn [] (omega arith)
      ∙ ap (λ k. get_or (paths_of rows) turn [] ∷ drop k (paths_of rows))
      (let e : suc turn ≡ turn + 1 = omega arith in e) in
      step rows is_dead size before (get_or (paths_of rows) turn []) (drop (turn + 1) (paths_of rows))
      ∙ ap (λ ps. left_after (graph_of rows) is_dead size ps (map (path_at rows) (places_left s.left)) v) (sym next)
      ∙ u.so_far rows is_dead size before);
}

-- a turn in which a group is deleted
pub consumed_turn : (es : List Entries) (s t : Remaining) (sizes : List ℕ) (rows : List Row) (is_dead : Path → Bool)
    (size : Path → ℕ) → Represents es s.dead sizes rows is_dead size
    → (group : List ℕ) → All (λ u. u < length es) group → length s.left ≡ length es → length t.left ≡ length es
    → ((i : ℕ) → i < length es → is_in t.left i ≡ (is_in s.left i && not (list_any (λ j. j == i) group)))
    → (wanted w : ℕ) → 0 < wanted → w ≡ wanted - sum_by (slice_index sizes) group
    → next_group (graph_of rows) is_dead (map (path_at rows) (places_left s.left)) ≡ Some (map (path_at rows) group)
    → (turn : Path) (turns : List Path)
    → left_after (graph_of rows) is_dead size turns (map (path_at rows) (places_left t.left)) w
    ≡ left_after (graph_of rows) is_dead size (turn ∷ turns) (map (path_at rows) (places_left s.left)) wanted
consumed_turn es s t sizes rows is_dead size stands group inside cs ct went wanted w h is next turn turns =
    let n = count es rows stands.rows in
    let within : All (λ u. u < length rows) group = λ k d l. (let b = inside k d l in omega (arith, n)) in
    let lefts =
    left_without rows stands.rise group within s.left t.left (cs ∙ n) (ct ∙ n) (λ i l. went i (omega arith)) in
    let sums = sizes_of rows stands.rise sizes size stands.size group within in
    ap (λ ps. left_after (graph_of rows) is_dead size turns ps w) lefts
    ∙ ap (left_after (graph_of rows) is_dead size turns
    (without (map (path_at rows) group) (map (path_at rows) (places_left s.left))))
    (is ∙ ap (λ k. wanted - k) (sym sums))
    ∙ sym (one_turn (graph_of rows) is_dead size turn turns (map (path_at rows) (places_left s.left)) wanted
    (map (path_at rows) group) h next)

-- after all turns
pub over : (es : List Entries) (m : Marking) (sizes : List ℕ) (limit turn : ℕ) (s : Remaining) (w : ℕ)
    → length es ≤ turn → IsUnder es m sizes limit turn s w
    → (v : List ℕ) → v ≡ filter (λ i. not (is_in s.left i)) (range_with_len 0 (length s.left))
    → (keep : Keep) (rows : List Row) (given : List Root) (size : Path → ℕ) → Rise (paths_of rows) → es ≡ numbered rows
    → IsExact keep rows given m → ((i : ℕ) → i < length rows → size (path_at rows i) ≡ slice_index sizes i)
    → v ≡ filter (λ i. is_among (limited_groups (graph_of rows) (λ p. not (is_live keep (graph_of rows) given p)) size
    limit) (path_at rows i)) (range_with_len 0 (length rows))
over es m sizes limit turn s w h u v is keep rows given size rise same exact sized =
    let n = count es rows same in
    let l = length-map rows (λ (x : Row). x.0) in
    let dead : Path → Bool = λ p. not (is_live keep (graph_of rows) given p) in
    let stands : Represents es s.dead sizes rows (λ p. not (is_live keep (graph_of rows) given p)) size = record {
      rise = rise;
      rows = same;
      size = sized;
      deads = λ i b. dead_is keep rows given m exact i b ∙ sym (u.dead i (omega arith));
    } in
    let none : drop turn (paths_of rows) ≡ [] = drop_all turn (paths_of rows) (omega arith) in
    went rows rise (λ p. not (is_live keep (graph_of rows) given p)) size limit s.left
    (let p = u.remains.places in p ∙ n)
    (nothing_left (graph_of rows) (λ p. not (is_live keep (graph_of rows) given p)) size
    (map (path_at rows) (places_left s.left)) w
    ∙ ap (λ ps. left_after (graph_of rows) (λ p. not (is_live keep (graph_of rows) given p)) size ps
    (map (path_at rows) (places_left s.left)) w) (sym none)
    ∙ u.so_far rows (λ p. not (is_live keep (graph_of rows) given p)) size stands)
    v is
