-- An insert into a set which was done put an entry that wasn't there: no two rows have one key afterwards.
use Rattle.std.proofs.Common.{◌≡◌, List, Bool, true, false, Some, None, Option, refl, ap, subst, Ordering}
use Rattle.std.proofs.lemmas.Bool.{both_ways}
use Rattle.std.specs.Ordering.{is_eq}
use Rattle.std.specs.Cmp.{IsTotalOrder, tied_itself}
use Rattle.std.specs.FinMap as finite
use Rattle.sqlite_value.specs.Order.{Row, value_cmp}
use Rattle.sqlite_value.proofs.OrderLemmas.{value_cmp_total}
use Rattle.sqlite_trees.specs.Tree.{rowid, put_row}
use Rattle.sqlite_rules.specs.Lists.{Has}
use Rattle.sqlite_rules.specs.Edit.{is_taken}
use Rattle.sqlite_rules.proofs.ListLemmas.{some_from}
use Rattle.tables_sql.specs.Contents.{map_of}
use Rattle.tables_sql.proofs.Members.{put_has, kept_put}
use Rattle.tables_sql.proofs.MappedRows.{row_of, HasOneRowEach}

-- where no two rows have one key once a row of a new rowid is put, none had its key before
pub was_none : {K X : Type 0} {R : K → K → Ordering} (o : IsTotalOrder R) (same : finite.IsAntisymmetric R)
    (kind : Row → Bool) (entry : Row → K × X) (row : Row) (rows : List Row)
    → is_taken rows row ≡ false → kind row ≡ true → HasOneRowEach o same kind entry (put_row row rows)
    → finite.get (map_of R kind entry rows) (entry row).0 ≡ None
was_none {K} {X} {R} o same kind entry row rows free is once =
    go (finite.get (map_of R kind entry rows) (entry row).0) refl
  where
    go : (a : Option X) → finite.get (map_of R kind entry rows) (entry row).0 ≡ a
        → finite.get (map_of R kind entry rows) (entry row).0 ≡ None
    go None a = a
    go (Some v) a =
        let r = row_of o same kind entry rows (entry row).0 v a in
        let one : r.0 ≡ row =
        once r.0 row (kept_put row rows r.0 free r.1) (put_has row rows) r.2 is (ap (λ e. e.0) r.3) in
        absurd (both_ways (is_taken rows row) free
        (some_from (λ x. is_eq (value_cmp (rowid x) (rowid row))) rows row (subst (λ x. Has rows x) one r.1)
        (ap is_eq (tied_itself value_cmp_total (rowid row)))))
