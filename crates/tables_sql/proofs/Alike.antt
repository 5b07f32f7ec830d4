-- Two maps of the same rows: the values of one are made of those of the other.
use Rattle.std.proofs.Common.{◌≡◌, inl, inr, List, [], ◌∷◌, length, arith, map, filter, cond, Bool, true, false, Less}
use Rattle.std.proofs.Common.{Equal, Greater, Ordering, refl, ap, sym, ◌∙◌}
use Rattle.std.specs.Cmp.{IsTotalOrder}
use Rattle.std.specs.FinMap as finite
use Rattle.std.specs.FinMap.Entries.{by_order, put, where_key}
use Rattle.sqlite_value.specs.Order.{Row}
use Rattle.sqlite_rules.specs.Lists.{Has}
use Rattle.tables_sql.specs.Contents.{map_of}
use Rattle.tables_sql.proofs.Members.{made_where}

module _ {K X Y : Type 0} (R : K → K → Ordering) (f : X → Y) where
  abbrev pub made : K × X → K × Y
  made e = (e.0, f e.1)

  by_orders : (r : Ordering) (a b c : List (K × X))
      → by_order r (map made a) (map made b) (map made c) ≡ map made (by_order r a b c)
  by_orders Less a b c = refl
  by_orders Equal a b c = refl
  by_orders Greater a b c = refl

  put_made : (k : K) (v : X) (es : List (K × X)) → put R k (f v) (map made es) ≡ map made (put R k v es)
  put_made k v [] = refl
  put_made k v (e ∷ es) =
      rw (put_made k v es) (by_orders (R k e.0) ((k, v) ∷ e ∷ es) ((e.0, v) ∷ es) (e ∷ put R k v es))

  no_length : {A : Type 0} (es : List A) → length es ≡ 0 → es ≡ []
  no_length [] e = refl
  no_length (x ∷ es) e = absurd (omega (arith, e))

  none : (Z : Type 0) → finite.entries (finite.empty {X = Z} {R = R}) ≡ []
  none Z = no_length _ (sym (finite.len-entries (finite.empty {X = Z} {R = R})) ∙ finite.len-empty R Z)

  -- entry by entry
  entries_made : IsTotalOrder R → (es : List (K × X))
      → finite.entries (finite.from_entries {R = R} (map made es))
      ≡ map made (finite.entries (finite.from_entries {R = R} es))
  entries_made o [] = none Y ∙ ap (map made) (sym (none X))
  entries_made o (e ∷ es) =
      finite.entries-insert o (finite.from_entries {R = R} (map made es)) e.0 (f e.1)
      ∙ ap (put R e.0 (f e.1)) (entries_made o es)
      ∙ put_made e.0 e.1 (finite.entries (finite.from_entries {R = R} es))
      ∙ ap (map made) (sym (finite.entries-insert o (finite.from_entries {R = R} es) e.0 e.1))

  -- a test of keys passes the same
  where_made : (test : K → Bool) (es : List (K × X)) → where_key R test (map made es) ≡ map made (where_key R test es)
  where_made test [] = refl
  where_made test (e ∷ es) = go (test e.0) (where_made test es)
    where
      go : (b : Bool) → where_key R test (map made es) ≡ map made (where_key R test es)
          → cond b (made e ∷ where_key R test (map made es)) (where_key R test (map made es))
          ≡ map made (cond b (e ∷ where_key R test es) (where_key R test es))
      go true later = ap (λ l. made e ∷ l) later
      go false later = later

  module _ (kind has : Row → Bool) (entry : Row → K × X) where
    rows_made : (rows : List Row) → ((r : Row) → Has rows r → has r ≡ kind r)
        → map (λ r. made (entry r)) (filter has rows) ≡ map made (map entry (filter kind rows))
    rows_made [] alike = refl
    rows_made (r ∷ rows) alike = rw (alike r (inl refl)) (go (kind r) (rows_made rows (λ x h. alike x (inr h))))
      where
        go : (b : Bool) → map (λ r. made (entry r)) (filter has rows) ≡ map made (map entry (filter kind rows))
            → map (λ r. made (entry r)) (cond b (r ∷ filter has rows) (filter has rows))
            ≡ map made (map entry (cond b (r ∷ filter kind rows) (filter kind rows)))
        go true later = ap (λ l. made (entry r) ∷ l) later
        go false later = later

    -- the same of the rows of a part of the keys
    pub part_made : IsTotalOrder R → finite.IsAntisymmetric R → (test : K → Bool) (rows : List Row)
        → ((r : Row) → Has rows r → has r ≡ kind r)
        → finite.entries (finite.retain_keys (map_of R has (λ r. made (entry r)) rows) test)
        ≡ map made (finite.entries (finite.retain_keys (map_of R kind entry rows) test))
    unfolding map_of
    part_made o same test rows alike =
        let es = map entry (filter kind rows) in
        ap finite.entries (sym (made_where o same test (map (λ r. made (entry r)) (filter has rows)))
        ∙ ap (λ l. finite.from_entries {R = R} (where_key R test l)) (rows_made rows alike)
        ∙ ap (finite.from_entries {R = R}) (where_made test es))
        ∙ entries_made o (where_key R test es) ∙ ap (λ m. map made (finite.entries m)) (made_where o same test es)

-- where nothing is left out, it is the same list
pub all_made : {K X : Type 0} (R : K → K → Ordering) (es : List (K × X)) → map (made R (λ x. x)) es ≡ es
all_made R [] = refl
all_made R (e ∷ es) = ap (λ l. e ∷ l) (all_made R es)
