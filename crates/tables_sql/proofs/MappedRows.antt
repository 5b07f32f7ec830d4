-- Each row of a table of the store has its entry in the map that its rows make.
use Rattle.std.proofs.Common.{◌≡◌, List, map, filter, Bool, true, Some, None, Option, refl, sym, ap, ◌∙◌, Ordering}
use Rattle.std.specs.Cmp.{IsTotalOrder, tied_itself}
use Rattle.std.specs.FinMap as finite
use Rattle.std.specs.FinMap.Entries.{find}
use Rattle.sqlite_value.specs.Order.{Row}
use Rattle.sqlite_rules.specs.Lists.{Has}
use Rattle.sqlite_rules.proofs.ListLemmas.{has_filtered, has_kept}
use Rattle.sqlite_rules.proofs.ProbeLemmas.{has_mapped, mapped_has}
use Rattle.tables_sql.specs.Contents.{map_of}
use Rattle.tables_sql.proofs.Orders.{found_has, tied_some}

module _ {K X : Type 0} {R : K → K → Ordering} (o : IsTotalOrder R) (same : finite.IsAntisymmetric R)
    (kind : Row → Bool) (entry : Row → K × X) (rows : List Row) where
  -- an entry of the map is that of a row
  pub row_of : (k : K) (v : X) → finite.get (map_of R kind entry rows) k ≡ Some v
      → (row : Row) × Has rows row × (kind row ≡ true) × (entry row ≡ (k, v))
  unfolding map_of
  row_of k v h =
      let found =
      found_has o same k (map entry (filter kind rows)) v
      (sym (finite.get-from_entries o (map entry (filter kind rows)) k) ∙ h) in
      let r = has_mapped entry (filter kind rows) (found.0, v) found.2 in
      let present = has_filtered kind rows r.0 r.1 in
      (r.0, present.0, present.1, sym r.2 ∙ ap (λ l. (l, v)) (sym (same k found.0 found.1)))

  -- rows of one key are one
  abbrev pub HasOneRowEach : Type 0
  HasOneRowEach =
      (a b : Row) → Has rows a → Has rows b → kind a ≡ true → kind b ≡ true → (entry a).0 ≡ (entry b).0 → a ≡ b

  -- and where no two rows have one key, each row has its entry there
  pub entry_of : HasOneRowEach → (row : Row) → Has rows row → kind row ≡ true
      → finite.get (map_of R kind entry rows) (entry row).0 ≡ Some (entry row).1
  unfolding map_of
  entry_of once row present is = go (find R (entry row).0 (map entry (filter kind rows))) refl
    where
      entries : List (K × X)
      entries = map entry (filter kind rows)

      go : (a : Option X) → find R (entry row).0 (map entry (filter kind rows)) ≡ a
          → finite.get (map_of R kind entry rows) (entry row).0 ≡ Some (entry row).1
      go None a =
          absurd (tied_some o same (entry row).0 (entry row).0 (map entry (filter kind rows)) (entry row).1
          (mapped_has entry (filter kind rows) row (has_kept kind rows row present is)) (tied_itself o (entry row).0)
          a)
      go (Some v) a =
          let r = row_of (entry row).0 v (finite.get-from_entries o (map entry (filter kind rows)) (entry row).0 ∙ a) in
          let one : r.0 ≡ row = once r.0 row r.1 present r.2 is (ap (λ e. e.0) r.3) in
          finite.get-from_entries o (map entry (filter kind rows)) (entry row).0 ∙ a
          ∙ ap Some (sym (ap (λ e. e.1) r.3) ∙ ap (λ x. (entry x).1) one)
