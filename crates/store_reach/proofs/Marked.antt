-- What lives, by the marks; and the paths that are chosen.
use Rattle.std.proofs.Common.{◌≡◌, ℕ, ◌+◌, ◌<◌, Bool, true, false, cond, List, [], ◌∷◌, ◌++◌, map, length, get_or, take}
use Rattle.std.proofs.Common.{sym, ap, ◌∙◌, subst, append-nil, arith}
use Rattle.std.specs.Prelude.{filter, is_some}
use Rattle.std.specs.List.{range_with_len}
use Rattle.std.specs.FinMap as finite
use Rattle.std.proofs.lemmas.List.{length-map, get_or-map}
use Rattle.std.proofs.lemmas.List.Elements.{filter_more}
use Rattle.std.proofs.lemmas.List.Kept.{AllPairs-filter}
use Rattle.std.specs.declared.cmp.Ordering.TheVariants.{Less}
use Rattle.paths.specs.Root.{Root, root_cmp}
use Rattle.live.specs.Exact.{IsExact}
use Rattle.live.specs.Graph.{Keep}
use Rattle.live.specs.Arguments.{row_view, rows_view}
use Rattle.live.specs.declared.numbered.rows.Row.{Row as Handed}
use Rattle.live.specs.Marks.{Marking, first_of}
use Rattle.live.specs.Numbering.{AllValid, AreRootsOf, Rise, RootsRise, Row, paths_of}
use Rattle.policy.specs.Settings.{Settings}
use Rattle.model.specs.World.{Path, roots_of}
use Rattle.tables_outline.specs.Outline.{OutlineValue}
use Rattle.model.specs.Liveness.{keep_of}
use Rattle.store_reach.specs.Linked.{is_wanted, lives_in, rows_in}
use Rattle.tables_outline.specs.Rooted.{rooted}
use Rattle.store_reach.proofs.Rising.{paths_in, roots_rise, rows_rise}
use Rattle.store_reach.proofs.Valid.{aims_well, all_marked, valid_all}

-- some of the roots rise, too
some_rise : (roots : List Root) → RootsRise roots → (p : Root → Bool) → RootsRise (filter p roots)
some_rise roots rise p = AllPairs-filter (λ a b. root_cmp a b ≡ Less) p roots rise

module _ (o : OutlineValue) (rows : List Row) (is : rows ≡ rows_in o) where
  pub passed_rise : Rise (paths_of rows)
  passed_rise = subst (λ (rs : List Row). Rise (paths_of rs)) (sym is) (rows_rise o)

  module _ (roots valid : List Root) (same : valid ≡ filter (aims_well o) roots) where
    pub valid_aimed : AreRootsOf rows valid
    valid_aimed = record {
      rows = passed_rise;
      targets =
          subst (λ (rs : List Row). AllValid rs valid) (sym is)
          (subst (AllValid (rows_in o)) (sym same) (valid_all o roots));
    }

    module _ (rise : RootsRise roots) where
      pub valid_rise : RootsRise valid
      valid_rise = subst RootsRise (sym same) (some_rise roots rise (aims_well o))

  module _ (valid : List Root) (same : valid ≡ filter (aims_well o) (roots_of (rooted o))) where
    -- of each path whether it lives
    pub lives_marked : (s : Settings) (keep : Keep) (m : Marking) (n : ℕ) → keep ≡ keep_of s → IsExact keep rows valid m
        → n ≡ length rows
        → map (λ i. is_some (first_of m i)) (range_with_len 0 n) ≡ map (lives_in s o) (finite.keys o.objects)
    lives_marked s keep m n kept exact count =
        all_marked (keep_of s) o (roots_of (rooted o)) (some_rise (roots_of (rooted o)) (roots_rise o) (aims_well o)) m
        (subst (λ (k : Keep). IsExact k (rows_in o) (filter (aims_well o) (roots_of (rooted o))) m) kept
        (subst (λ (rs : List Row). IsExact keep rs (filter (aims_well o) (roots_of (rooted o))) m) is
        (subst (λ (vs : List Root). IsExact keep rows vs m) same exact)))
        n (count ∙ ap length is)

-- ---- paths that are chosen one after another

module _ (p : Path → Bool) (paths : List Path) (i : ℕ) (h : i < length paths) (before : List Path)
    (so_far : before ≡ filter p (take i paths)) where
  pub one_chosen : (after : List Path) (x : Path) → after ≡ before ++ x ∷ [] → x ≡ get_or paths i []
      → p (get_or paths i []) ≡ true → after ≡ filter p (take (i + 1) paths)
  one_chosen after x is same passes =
      is ∙ (λ j. so_far j ++ same j ∷ [])
      ∙ ap (λ b. filter p (take i paths) ++ cond b (get_or paths i [] ∷ []) []) (sym passes)
      ∙ sym (filter_more p paths i [] h)

  pub one_passed_over : (after : List Path) → after ≡ before → p (get_or paths i []) ≡ false
      → after ≡ filter p (take (i + 1) paths)
  one_passed_over after is misses =
      is ∙ so_far ∙ sym (append-nil (filter p (take i paths)))
      ∙ ap (λ b. filter p (take i paths) ++ cond b (get_or paths i [] ∷ []) []) (sym misses)
      ∙ sym (filter_more p paths i [] h)

-- the paths that are chosen of the rows of an outline
pub chosen_reported : (s : Settings) (o : OutlineValue) (rows : List Row) → rows ≡ rows_in o → (flags : List Bool)
    → flags ≡ map (lives_in s o) (finite.keys o.objects) → (wanted : Bool) (chosen : List Path)
    → ((test : Path → Bool) → flags ≡ map test (paths_of rows)
    → chosen ≡ filter (λ p. is_wanted wanted (test p)) (paths_of rows))
    → chosen ≡ filter (λ p. is_wanted wanted (lives_in s o p)) (finite.keys o.objects)
chosen_reported s o rows is flags lives wanted chosen choose =
    let paths : paths_of rows ≡ finite.keys o.objects = ap paths_of is ∙ paths_in o in
    choose (lives_in s o) (lives ∙ ap (map (lives_in s o)) (sym paths))
    ∙ ap (filter (λ p. is_wanted wanted (lives_in s o p))) paths

-- ---- rows as they are passed

-- as many as there are answers, one for each valid path
pub as_many : (s : Settings) (o : OutlineValue) (rows : List Handed) → rows_view rows ≡ rows_in o → (lives : List Bool)
    → lives ≡ map (lives_in s o) (finite.keys o.objects) → length lives ≡ length rows
as_many s o rows is lives answers =
    ap length answers ∙ length-map (finite.keys o.objects) (lives_in s o) ∙ sym (ap length (paths_in o))
    ∙ length-map (rows_in o) (λ (r : Row). r.0) ∙ sym (ap length is) ∙ length-map rows row_view

module _ (rows : List Handed) (i : ℕ) (h : i < length rows) where
  below_paths : i < length (paths_of (rows_view rows))
  below_paths =
      let a = length-map rows row_view in
      let b = length-map (rows_view rows) (λ r. r.0) in
      omega (arith, h, a, b)

  -- the path of a row
  pub row_path : (r : Handed) → get_or (paths_of (rows_view rows)) i [] ≡ (get_or rows i r).path.now
  row_path r =
      let below : i < length (rows_view rows) = (let a = length-map rows row_view in omega (arith, h, a)) in
      get_or-map (λ (x : Row). x.0) (rows_view rows) i (row_view r) [] below
      ∙ ap (λ (x : Row). x.0) (get_or-map row_view rows i r (row_view r) h)

  -- whether it lives
  pub row_lives : (lives : List Bool) (test : Path → Bool) → lives ≡ map test (paths_of (rows_view rows))
      → get_or lives i false ≡ test (get_or (paths_of (rows_view rows)) i [])
  row_lives lives test is =
      ap (λ (l : List Bool). get_or l i false) is ∙ get_or-map test (paths_of (rows_view rows)) i [] false below_paths

  module _ (lives : List Bool) (wanted : Bool) (test : Path → Bool) (is : lives ≡ map test (paths_of (rows_view rows)))
      (before after : List Path)
      (so_far : before ≡ filter (λ p. is_wanted wanted (test p)) (take i (paths_of (rows_view rows)))) where
    passes : (b : Bool) → is_wanted wanted (get_or lives i false) ≡ b
        → is_wanted wanted (test (get_or (paths_of (rows_view rows)) i [])) ≡ b
    passes b e = ap (is_wanted wanted) (sym (row_lives lives test is)) ∙ e

    pub row_chosen : (r : Handed) (x : Path) → is_wanted wanted (get_or lives i false) ≡ true → after ≡ before ++ x ∷ []
        → x ≡ (get_or rows i r).path.now
        → after ≡ filter (λ p. is_wanted wanted (test p)) (take (i + 1) (paths_of (rows_view rows)))
    row_chosen r x e pushed same =
        one_chosen (λ p. is_wanted wanted (test p)) (paths_of (rows_view rows)) i below_paths before so_far after x
        pushed (same ∙ sym (row_path r)) (passes true e)

    pub row_passed_over : is_wanted wanted (get_or lives i false) ≡ false → after ≡ before
        → after ≡ filter (λ p. is_wanted wanted (test p)) (take (i + 1) (paths_of (rows_view rows)))
    row_passed_over e kept =
        one_passed_over (λ p. is_wanted wanted (test p)) (paths_of (rows_view rows)) i below_paths before so_far after
        kept (passes false e)
