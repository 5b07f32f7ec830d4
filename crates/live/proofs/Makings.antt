-- A graph that is made of rows, one after another.
use Rattle.std.proofs.Common.{◌≡◌, ℕ, suc, ◌+◌, ◌-◌, ◌<◌, ◌≤◌, List, [], ◌∷◌, ◌++◌, length, get_or, map, take, drop}
use Rattle.std.proofs.Common.{Option, Some, None, refl, sym, ap, ◌∙◌, subst, arith}
use Rattle.std.specs.Prelude.{All, Contains}
use Rattle.std.specs.List.{slice_range, cons_option}
use Rattle.std.specs.Option.{option_to_list}
use Rattle.std.proofs.lemmas.List.{get_or-map, append_assoc, drop-append-le, take-append-le, drop_at, take_at}
use Rattle.std.proofs.lemmas.List.{map-append, take_more, length-drop, length-append, take_all, append-nil, length_push}
use Rattle.std.proofs.lemmas.List.Elements.{All-weaker, All-contains_itself, All-append, All-push, filter_map-append}
use Rattle.live.specs.Graph.{Path, Links, listed}
use Rattle.live.specs.Places.{Entries}
use Rattle.live.specs.Flat.{entries_in, IsWithin, IsFlat}
use Rattle.live.specs.Numbering.{Row as NumberedRow, numbered, numbered_links, paths_of, place_of, places_of, Rise}
use Rattle.live.specs.Added.{IsAdded}
use Rattle.live.specs.Arguments.{row_view, rows_view}
use Rattle.live.specs.declared.numbered.rows.Row.{Row}
use Rattle.live.specs.declared.numbered.Span.{Span}
use Rattle.live.proofs.Numberings.{in_places, no_row}

-- what comes before keeps its parts
part_prefix : (xs ys : List ℕ) (a b : ℕ) → a ≤ b → b ≤ length xs → slice_range (xs ++ ys) a b ≡ slice_range xs a b
part_prefix xs ys a b h k =
    ap (take (b - a)) (drop-append-le a xs ys (omega arith))
    ∙ take-append-le (b - a) (drop a xs) ys (omega (arith, length-drop a xs))

-- the part after it
pub part_after : (xs ys zs : List ℕ) (a b : ℕ) → length xs ≡ a → length xs + length ys ≡ b
    → slice_range ((xs ++ ys) ++ zs) a b ≡ ys
part_after xs ys zs a b h k =
    ap (λ l. take (b - a) (drop a l)) (append_assoc xs ys zs) ∙ ap (take (b - a)) (drop_at xs (ys ++ zs) a h)
    ∙ take_at ys zs (b - a) (omega arith)

-- the first rows are made
pub record IsMade (rows : List NumberedRow) (k : ℕ) (spans : List Span) (targets : List ℕ) : Type 0 where
  pub count : length spans ≡ k
  pub view : map (entries_in targets) spans
      ≡ map (λ (r : NumberedRow). numbered_links (paths_of rows) r.1) (take k rows)
  pub within : All (IsWithin (length targets)) spans
  pub inside : All (λ t. t < length rows) targets

pub made_none : (rows : List NumberedRow) → IsMade rows 0 [] []
made_none rows =
    record { count = refl; view = refl; within = λ k d h. absurd (omega arith); inside = λ k d h. absurd (omega arith) }

module _ (e : Entries) (before after : List ℕ) (s : Span) (a : IsAdded e before after s) where
  total : length after ≡ length before + length e.references + length e.outputs + length e.deriver
  total = ap length a.joined ∙ length-append ((before ++ e.references) ++ e.outputs) e.deriver
      ∙ ap (λ n. n + length e.deriver)
      (length-append (before ++ e.references) e.outputs
      ∙ ap (λ n. n + length e.outputs) (length-append before e.references))

  new_within : IsWithin (length after) s
  new_within =
      let r = a.references in let o = a.outputs in let d = a.deriver in let n = a.end in
      record { references = omega arith; outputs = omega arith; deriver = omega (arith, total); end = omega arith }

  old_within : (t : Span) → IsWithin (length before) t → IsWithin (length after) t
  old_within t w =
      record {
        references = w.references;
        outputs = w.outputs;
        deriver = w.deriver;
        end = (let n = w.end in omega (arith, total));
      }

  grown : after ≡ before ++ (e.references ++ (e.outputs ++ e.deriver))
  grown =
      a.joined ∙ append_assoc (before ++ e.references) e.outputs e.deriver
      ∙ append_assoc before e.references (e.outputs ++ e.deriver)

  old_entries : (t : Span) → IsWithin (length before) t → entries_in after t ≡ entries_in before t
  old_entries t w =
      let more = e.references ++ (e.outputs ++ e.deriver) in
      let x = w.references in let y = w.outputs in let z = w.deriver in let n = w.end in
      let r : slice_range after t.references t.outputs ≡ slice_range before t.references t.outputs =
      ap (λ l. slice_range l t.references t.outputs) grown
      ∙ part_prefix before more t.references t.outputs (omega arith) (omega arith) in
      let o : slice_range after t.outputs t.deriver ≡ slice_range before t.outputs t.deriver =
      ap (λ l. slice_range l t.outputs t.deriver) grown
      ∙ part_prefix before more t.outputs t.deriver (omega arith) (omega arith) in
      let d : slice_range after t.deriver t.end ≡ slice_range before t.deriver t.end =
      ap (λ l. slice_range l t.deriver t.end) grown
      ∙ part_prefix before more t.deriver t.end (omega arith) (omega arith) in
      λ i. record { references = r i; outputs = o i; deriver = d i }

  new_entries : entries_in after s ≡ e
  new_entries =
      let x = a.references in let y = a.outputs in let z = a.deriver in let n = a.end in
      let p = length-append before e.references in
      let q = length-append (before ++ e.references) e.outputs in
      let r : slice_range after s.references s.outputs ≡ e.references =
      ap (λ l. slice_range l s.references s.outputs)
      (a.joined ∙ append_assoc (before ++ e.references) e.outputs e.deriver)
      ∙ part_after before e.references (e.outputs ++ e.deriver) s.references s.outputs (sym x) (omega arith) in
      let o : slice_range after s.outputs s.deriver ≡ e.outputs =
      ap (λ l. slice_range l s.outputs s.deriver) a.joined
      ∙ part_after (before ++ e.references) e.outputs e.deriver s.outputs s.deriver (omega arith) (omega arith) in
      let d : slice_range after s.deriver s.end ≡ e.deriver =
      ap (λ l. slice_range l s.deriver s.end)
      (a.joined ∙ sym (append-nil (((before ++ e.references) ++ e.outputs) ++ e.deriver)))
      ∙ part_after ((before ++ e.references) ++ e.outputs) e.deriver [] s.deriver s.end (omega arith)
      (omega (arith, total)) in
      λ i. record { references = r i; outputs = o i; deriver = d i }

  old_all : (spans : List Span) → All (IsWithin (length before)) spans
      → map (entries_in after) spans ≡ map (entries_in before) spans
  old_all [] w = refl
  old_all (t ∷ ts) w = λ i. old_entries t (w 0 t (omega arith)) i ∷ old_all ts (λ k d h. w (suc k) d (omega arith)) i

places_inside : (rows : List NumberedRow) → Rise (paths_of rows) → (ps : List Path)
    → All (λ t. t < length rows) (places_of (paths_of rows) ps)
places_inside rows rise ps =
    All-weaker (Contains (places_of (paths_of rows) ps)) (λ t. t < length rows) (λ t c. (in_places rows rise ps t c).0)
    (places_of (paths_of rows) ps) (All-contains_itself (places_of (paths_of rows) ps))

pub made_more : (rows : List NumberedRow) → Rise (paths_of rows)
    → (k : ℕ) (spans : List Span) (before after : List ℕ) (s : Span) → k < length rows → IsMade rows k spans before
    → IsAdded (numbered_links (paths_of rows) (get_or rows k no_row).1) before after s
    → IsMade rows (k + 1) (spans ++ s ∷ []) after
made_more rows rise k spans before after s h m a = record {
  count = length_push spans s ∙ ap (λ n. n + 1) m.count;
  view =
      map-append (entries_in after) spans (s ∷ [])
      ∙ ap (λ xs. xs ++ entries_in after s ∷ []) (old_all e before after s a spans m.within ∙ m.view)
      ∙ ap (λ x. map f (take k rows) ++ x ∷ []) (new_entries e before after s a)
      ∙ sym (ap (map f) (take_more rows k no_row h) ∙ map-append f (take k rows) (get_or rows k no_row ∷ []));
  within =
      All-push (IsWithin (length after)) spans s
      (All-weaker (IsWithin (length before)) (IsWithin (length after)) (old_within e before after s a) spans m.within)
      (new_within e before after s a);
  inside =
      subst (All (λ t. t < length rows)) (sym a.joined)
      (All-append (λ t. t < length rows) _ _
      (All-append (λ t. t < length rows) _ _ (All-append (λ t. t < length rows) _ _ m.inside
      (places_inside rows rise l.references)) (places_inside rows rise l.outputs))
      (places_inside rows rise (listed l.deriver)));
}
  where
    l : Links
    l = (get_or rows k no_row).1

    e : Entries
    e = numbered_links (paths_of rows) (get_or rows k no_row).1

    f : NumberedRow → Entries
    f r = numbered_links (paths_of rows) r.1

pub made_all : (rows : List NumberedRow) (k : ℕ) (spans : List Span) (targets : List ℕ) → length rows ≤ k
    → k ≤ length rows → IsMade rows k spans targets
    → (map (entries_in targets) spans ≡ numbered rows) × IsFlat spans targets
made_all rows k spans targets h g m = (
  m.view ∙ ap (map (λ (r : NumberedRow). numbered_links (paths_of rows) r.1)) (take_all k rows h),
  record {
    within = m.within;
    inside =
        (let c = m.count in subst (λ n. All (λ t. t < n) targets)
        (let e : length rows ≡ length spans = omega arith in e) m.inside);
  },
)

-- one more path of a list
pub places_more : (paths ps : List Path) (i : ℕ) (x : Path) → i < length ps → x ≡ get_or ps i x → (o : Option ℕ)
    → o ≡ place_of paths x → (first before after : List ℕ)
    → before ≡ first ++ places_of paths (take i ps) → after ≡ before ++ option_to_list o
    → after ≡ first ++ places_of paths (take (i + 1) ps)
places_more paths ps i x h at o is first before after e f =
    f ∙ ap (λ xs. xs ++ option_to_list o) e ∙ append_assoc first (places_of paths (take i ps)) (option_to_list o)
    ∙ ap (λ xs. first ++ (places_of paths (take i ps) ++ xs)) (listed_place o ∙ ap (λ k. cons_option k []) is)
    ∙ ap (λ xs. first ++ xs) (sym (ap (places_of paths) (take_more ps i x h ∙ ap (λ y. take i ps ++ y ∷ []) (sym at))
    ∙ filter_map-append (place_of paths) (take i ps) (x ∷ [])))
  where
    listed_place : (k : Option ℕ) → option_to_list k ≡ cons_option k []
    listed_place None = refl
    listed_place (Some n) = refl

pub row_is : (rows : List Row) (k : ℕ) (x : Row) → k < length rows → x ≡ get_or rows k x
    → get_or (rows_view rows) k no_row ≡ row_view x
row_is rows k x h is = get_or-map row_view rows k x no_row h ∙ ap row_view (sym is)
