-- The rowids of a table differ, after a write too, so a row is known by its own.
use Rattle.std.proofs.Common.{◌≡◌, List, [], ◌∷◌, map, filter, Bool, true, false, not, cond, inl, inr, ℤ, sym, ap, ◌∙◌}
use Rattle.std.proofs.Common.{Less, Equal, Greater, Ordering}
use Rattle.std.specs.List.{AllByRecursion, IsDistinct}
use Rattle.std.specs.Ordering.{is_eq, eq_by_cmp, match_ordering}
use Rattle.std.specs.Cmp.{eq_by_cmp_equiv}
use Rattle.sqlite_value.specs.declared.value.Value.{Value}
use Rattle.sqlite_value.specs.Order.{Row, value_cmp}
use Rattle.sqlite_value.proofs.OrderLemmas.{value_cmp_total}
use Rattle.sqlite_trees.specs.Tree.{rowid, put_row, has_rowid, without_rowid}
use Rattle.sqlite_trees.proofs.ListLemmas.{all-map, all-filter, all_from_map}
use Rattle.sqlite_rules.specs.Lists.{Has}
use Rattle.sqlite_rules.specs.Edit.{is_taken, without_all}
use Rattle.tables_sql.proofs.Truths.{neither}

-- two values are one to an index
abbrev pub tie : Value → Value → Bool
tie = eq_by_cmp value_cmp

pub turned : (v w : Value) → tie v w ≡ tie w v
turned v w = (eq_by_cmp_equiv value_cmp_total).symm v w

-- none of the rows has this rowid
abbrev Missing : Value → List Row → Type 0
Missing v rows = AllByRecursion (λ w. tie v w ≡ false) (map rowid rows)

-- no two of the rows have one rowid
abbrev pub AreDistinct : List Row → Type 0
AreDistinct rows = IsDistinct tie (map rowid rows)

-- ---- rows of one rowid are one

lacks : (v : Value) (rows : List Row) (b : Row) → Missing v rows → Has rows b → tie v (rowid b) ≡ false
lacks v [] b h present = absurd present
lacks v (r ∷ rows) b h (inl is) = ap (λ (x : Row). tie v (rowid x)) is ∙ h.0
lacks v (r ∷ rows) b h (inr present) = lacks v rows b h.1 present

pub once : (rows : List Row) → AreDistinct rows → (a b : Row) → Has rows a → Has rows b → tie (rowid a) (rowid b) ≡ true
    → a ≡ b
unfolding IsDistinct
once [] d a b h g e = absurd h
once (r ∷ rows) d a b (inl is) (inl same) e = is ∙ sym same
once (r ∷ rows) d a b (inl is) (inr present) e =
    absurd (let no = sym (lacks (rowid r) rows b d.0 present) ∙ ap (λ (x : Row). tie (rowid x) (rowid b)) (sym is)
    ∙ e in cc)
once (r ∷ rows) d a b (inr present) (inl same) e =
    absurd (let no = sym (lacks (rowid r) rows a d.0 present) ∙ turned (rowid r) (rowid a)
    ∙ ap (λ (x : Row). tie (rowid a) (rowid x)) (sym same) ∙ e in cc)
once (r ∷ rows) d a b (inr here) (inr present) e = once rows d.1 a b here present e

-- ---- a new row

missing_put : (v : Value) (new : Row) (rows : List Row) → tie v (rowid new) ≡ false → Missing v rows
    → Missing v (put_row new rows)
missing_put v new [] off h = (off, tt)
missing_put v new (r ∷ rows) off h = go (value_cmp (rowid r) (rowid new)) (missing_put v new rows off h.1)
  where
    go : (c : Ordering) → Missing v (put_row new rows)
        → Missing v (match_ordering c (r ∷ put_row new rows) (new ∷ rows) (new ∷ r ∷ rows))
    go Less later = (h.0, later)
    go Equal later = (off, h.1)
    go Greater later = (off, h)

missing_used : (new : Row) (rows : List Row) → is_taken rows new ≡ false → Missing (rowid new) rows
missing_used new [] free = tt
missing_used new (r ∷ rows) free = let off =
    neither _ _ free in (turned (rowid new) (rowid r) ∙ off.0, missing_used new rows off.1)

pub distinct_put : (new : Row) (rows : List Row) → is_taken rows new ≡ false → AreDistinct rows
    → AreDistinct (put_row new rows)
unfolding IsDistinct
distinct_put new [] free h = (tt, tt)
distinct_put new (r ∷ rows) free h = let off =
    neither _ _ free in go (value_cmp (rowid r) (rowid new)) off.0 (distinct_put new rows off.1 h.1)
  where
    go : (c : Ordering) → is_eq c ≡ false → AreDistinct (put_row new rows)
        → AreDistinct (match_ordering c (r ∷ put_row new rows) (new ∷ rows) (new ∷ r ∷ rows))
    go Less off later = (missing_put (rowid r) new rows (let e = neither _ _ free in e.0) h.0, later)
    go Equal off later = absurd (let e = off in cc)
    go Greater off later = (missing_used new (r ∷ rows) free, h)

-- ---- rows that go

missing_where : (v : Value) (p : Row → Bool) (rows : List Row) → Missing v rows → Missing v (filter p rows)
missing_where v p rows h =
    let distinct_rowids =
    λ (w : Value). tie v w ≡ false in
    all-map distinct_rowids rowid (filter p rows)
    (all-filter (λ r. distinct_rowids (rowid r)) p rows (all_from_map distinct_rowids rowid rows h))

distinct_where : (p : Row → Bool) (rows : List Row) → AreDistinct rows → AreDistinct (filter p rows)
unfolding IsDistinct
distinct_where p [] h = tt
distinct_where p (r ∷ rows) h = go (p r) (distinct_where p rows h.1)
  where
    go : (b : Bool) → AreDistinct (filter p rows) → AreDistinct (cond b (r ∷ filter p rows) (filter p rows))
    go true later = (missing_where (rowid r) p rows h.0, later)
    go false later = later

pub distinct_left : (ids : List ℤ) (rows : List Row) → AreDistinct rows → AreDistinct (without_all rows ids)
distinct_left [] rows h = h
distinct_left (i ∷ ids) rows h =
    distinct_left ids (without_rowid i rows) (distinct_where (λ r. not (has_rowid i r)) rows h)
