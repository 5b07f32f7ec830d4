-- The heads of the first rows.
use Rattle.std.proofs.Common.{◌≡◌, ℕ, ◌+◌, ◌<◌, List, [], ◌∷◌, ◌++◌, length, get_or, refl, sym, ap, ◌∙◌, subst, inl}
use Rattle.std.proofs.Common.{inr, arith}
use Rattle.std.specs.List.{slice_index, slice_index_or}
use Rattle.std.proofs.lemmas.Bool.{cases_lt}
use Rattle.std.proofs.lemmas.List.{length-map, get_or-map, length_push, get_or_append_left, get_or_push}
use Rattle.live.specs.Graph.{Path}
use Rattle.live.specs.Heads.{AreHeads, IsBytes, head_of}
use Rattle.live.specs.Numbering.{Row as NumberedRow, paths_of}
use Rattle.live.specs.Arguments.{row_view, rows_view}
use Rattle.live.specs.declared.numbered.rows.Row.{Row}
use Rattle.live.proofs.Numberings.{no_row}

pub record HeadsBelow (paths : List Path) (n : ℕ) (heads : List ℕ) : Type 0 where
  pub count : length heads ≡ n
  pub head : (k : ℕ) → k < n → slice_index heads k ≡ head_of (slice_index_or paths k [])
  pub bytes : (k : ℕ) → k < n → IsBytes (slice_index_or paths k [])

pub no_heads : (paths : List Path) → HeadsBelow paths 0 []
no_heads paths = record { count = refl; head = λ k h. absurd (omega arith); bytes = λ k h. absurd (omega arith) }

pub heads_more : (paths : List Path) (n : ℕ) (heads : List ℕ) (h : ℕ) → HeadsBelow paths n heads
    → h ≡ head_of (slice_index_or paths n []) → IsBytes (slice_index_or paths n [])
    → HeadsBelow paths (n + 1) (heads ++ h ∷ [])
heads_more paths n heads h b is bytes = record {
  count = length_push heads h ∙ ap (λ k. k + 1) b.count;
  head = λ k l. elim (cases_lt k n) as (λ _. slice_index (heads ++ h ∷ []) k ≡ head_of (slice_index_or paths k [])) [
    | inl lt ↦ get_or_append_left heads (h ∷ []) 0 k (let c = b.count in omega arith) ∙ b.head k lt
    | inr ge ↦ (let same : n ≡ k = omega arith in
        subst (λ j. slice_index (heads ++ h ∷ []) j ≡ head_of (slice_index_or paths j [])) same
        (get_or_push heads h 0 n b.count ∙ is))
  ];
  bytes = λ k l. elim (cases_lt k n) as (λ _. IsBytes (slice_index_or paths k [])) [
    | inl lt ↦ b.bytes k lt
    | inr ge ↦ (let same : n ≡ k = omega arith in subst (λ j. IsBytes (slice_index_or paths j [])) same bytes)
  ];
}

pub heads_all : (paths : List Path) (n : ℕ) (heads : List ℕ) → n ≡ length paths → HeadsBelow paths n heads
    → AreHeads paths heads
heads_all paths n heads e b =
    record { count = b.count ∙ e; head = λ k h. b.head k (omega arith); bytes = λ k h. b.bytes k (omega arith) }

-- the path of a row, at the values of the code
pub path_of_row : (rows : List Row) (k : ℕ) (x : Row) → k < length rows → x ≡ get_or rows k x
    → x.path.now ≡ slice_index_or (paths_of (rows_view rows)) k []
path_of_row rows k x h is =
    sym (get_or-map (λ (r : NumberedRow). r.0) (rows_view rows) k no_row []
    (let n = length-map rows row_view in omega arith)
    ∙ ap (λ (r : NumberedRow). r.0) (get_or-map row_view rows k x no_row h) ∙ ap (λ (r : Row). r.path.now) (sym is))

pub rows_count : (rows : List Row) → length (paths_of (rows_view rows)) ≡ length rows
rows_count rows = length-map (rows_view rows) (λ (r : NumberedRow). r.0) ∙ length-map rows row_view
