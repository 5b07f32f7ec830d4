-- The tests of what callers have to meet.
use Rattle.std.proofs.Common.{◌≡◌, ℕ, zero, suc, ◌+◌, ◌-◌, ◌<◌, ◌≤◌, Bool, false, List, [], length, get_or, Option}
use Rattle.std.proofs.Common.{Some, None, refl, sym, ap, ◌∙◌, subst, inl, inr, arith}
use Rattle.std.specs.Prelude.{Contains, is_some, not}
use Rattle.std.specs.Cmp.Lexicographic.{nat_list_cmp_total}
use Rattle.std.specs.declared.cmp.Ordering.TheVariants.{Less}
use Rattle.std.proofs.lemmas.Bool.{cases_lt, false≢true}
use Rattle.std.proofs.lemmas.List.{length-map, get_or-map, get_or_default}
use Rattle.paths.specs.Root.{bytes_cmp, Root}
use Rattle.live.specs.Numbering.{Row as NumberedRow, paths_of, place_of, Rise, root_at}
use Rattle.live.specs.Arguments.{row_view, rows_view, roots_view}
use Rattle.live.specs.declared.numbered.rows.Root.{Root as RawRoot}
use Rattle.live.specs.declared.numbered.rows.Row.{Row}
use Rattle.live.proofs.Numberings.{no_row, at_place}
use Rattle.live.proofs.Searching.{some_row}
use Rattle.live.proofs.Aims.{root_is}

-- each of the first rows is below the next
pub record RiseBelow (rows : List Row) (n : ℕ) : Type 0 where
  pub next : (k : ℕ) (d : Row) → k + 1 < n
      → bytes_cmp (get_or rows k d).path.now (get_or rows (k + 1) d).path.now ≡ Less

pub rise_one : (rows : List Row) → RiseBelow rows 1
rise_one rows = record { next = λ k d h. absurd (omega arith) }

pub rise_more : (rows : List Row) (n : ℕ) (x : Row) → 1 ≤ n → n < length rows → RiseBelow rows n
    → bytes_cmp (get_or rows (n - 1) x).path.now (get_or rows n x).path.now ≡ Less → RiseBelow rows (n + 1)
rise_more rows n x a b r e = record {
  next =
      λ k d h. elim (cases_lt (k + 1) n) as (λ _. bytes_cmp (get_or rows k d).path.now (get_or rows (k + 1) d).path.now
      ≡ Less) [
        | inl lt ↦ r.next k d lt
        | inr ge ↦ (
            let last : n - 1 ≡ k = omega arith in
            let this : n ≡ k + 1 = omega arith in
            let at : bytes_cmp (get_or rows k x).path.now (get_or rows (k + 1) x).path.now ≡ Less =
            ap (λ j. bytes_cmp (get_or rows j x).path.now (get_or rows (k + 1) x).path.now) (sym last)
            ∙ ap (λ j. bytes_cmp (get_or rows (n - 1) x).path.now (get_or rows j x).path.now) (sym this) ∙ e in
            ap (λ (r : Row). bytes_cmp r.path.now (get_or rows (k + 1) d).path.now)
            (get_or_default rows k d x (omega arith))
            ∙ ap (λ (r : Row). bytes_cmp (get_or rows k x).path.now r.path.now)
            (get_or_default rows (k + 1) d x (omega arith)) ∙ at)
      ];
}

pub rise_all : (rows : List Row) (n : ℕ) → length rows ≤ n → RiseBelow rows n → Rise (paths_of (rows_view rows))
rise_all rows n h r = λ i j d l k. (
    let e = get_or_default (paths_of (rows_view rows)) i d [] (omega arith) in
    let f = get_or_default (paths_of (rows_view rows)) j d [] k in
    ap (λ p. bytes_cmp p (get_or (paths_of (rows_view rows)) j d)) e
    ∙ ap (bytes_cmp (get_or (paths_of (rows_view rows)) i [])) f
    ∙ far i (j - (i + 1)) j (omega arith) (omega (arith, count)))
  where
    count : length (paths_of (rows_view rows)) ≡ length rows
    count = length-map (rows_view rows) (λ (r : NumberedRow). r.0) ∙ length-map rows row_view

    at : (k : ℕ) (d : Row) → k < length rows → get_or (paths_of (rows_view rows)) k [] ≡ (get_or rows k d).path.now
    at k d l =
        get_or-map (λ (r : NumberedRow). r.0) (rows_view rows) k no_row []
        (let m = length-map rows row_view in omega arith)
        ∙ ap (λ (r : NumberedRow). r.0) (get_or-map row_view rows k d no_row l)

    step : (k : ℕ) → k + 1 < length rows
        → bytes_cmp (get_or (paths_of (rows_view rows)) k []) (get_or (paths_of (rows_view rows)) (k + 1) []) ≡ Less
    step k l =
        let d = some_row rows (k + 1) l in
        ap (λ p. bytes_cmp p (get_or (paths_of (rows_view rows)) (k + 1) [])) (at k d (omega arith))
        ∙ ap (bytes_cmp (get_or rows k d).path.now) (at (k + 1) d l) ∙ r.next k d (omega arith)

    far : (i m j : ℕ) → i + 1 + m ≡ j → j < length rows
        → bytes_cmp (get_or (paths_of (rows_view rows)) i []) (get_or (paths_of (rows_view rows)) j []) ≡ Less
    far i zero j e l =
        (let same : i + 1 ≡ j = omega arith in
        subst (λ k. bytes_cmp (get_or (paths_of (rows_view rows)) i []) (get_or (paths_of (rows_view rows)) k [])
        ≡ Less) same (step i (omega arith)))
    far i (suc m) j e l = (let same : i + 1 + m + 1 ≡ j = omega arith in
        nat_list_cmp_total.trans (get_or (paths_of (rows_view rows)) i [])
        (get_or (paths_of (rows_view rows)) (i + 1 + m) []) (get_or (paths_of (rows_view rows)) j [])
        (far i m (i + 1 + m) refl (omega arith))
        (subst (λ k. bytes_cmp (get_or (paths_of (rows_view rows)) (i + 1 + m) [])
        (get_or (paths_of (rows_view rows)) k []) ≡ Less) same (step (i + 1 + m) (omega arith))))

-- the first targets are valid
pub record ValidBelow (rows : List NumberedRow) (roots : List Root) (n : ℕ) : Type 0 where
  pub valid : (k : ℕ) → k < n → Contains (paths_of rows) (root_at roots k).target

pub valid_more : (rows : List NumberedRow) → Rise (paths_of rows)
    → (given : List RawRoot) (n : ℕ) (x : RawRoot) (o : Option ℕ) → n < length given → x ≡ get_or given n x
    → o ≡ place_of (paths_of rows) x.target.now → (r : Bool) → is_some o ≡ not r → r ≡ false
    → ValidBelow rows (roots_view given) n → ValidBelow rows (roots_view given) (n + 1)
valid_more rows rise given n x None h at is r some present v = absurd (false≢true (some ∙ ap not present))
valid_more rows rise given n x (Some b) h at is r some present v = record {
  valid = λ k l. elim (cases_lt k n) as (λ _. Contains (paths_of rows) (root_at (roots_view given) k).target) [
    | inl lt ↦ v.valid k lt
    | inr ge ↦ (
        let same : n ≡ k = omega arith in
        let place = at_place (paths_of rows) rise x.target.now b (sym is) in
        let here : Contains (paths_of rows) x.target.now =
        (b, place.0, get_or_default (paths_of rows) b x.target.now [] place.0 ∙ place.1) in
        subst (λ j. Contains (paths_of rows) (root_at (roots_view given) j).target) same
        (subst (Contains (paths_of rows)) (sym (root_is given n x h at)) here))
  ];
}
