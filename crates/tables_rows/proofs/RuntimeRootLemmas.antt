-- The table of runtime roots, described once, and what the texts of its statements mean.
use Rattle.std.proofs.Common.{ℕ, List, [], ◌∷◌, codes, true, ◌&&◌, refl}
use Rattle.std.specs.List.{AllByRecursion}
use Rattle.sqlite_value.specs.declared.value.Value.TheVariants.{Int, Text}
use Rattle.sqlite_value.specs.Order.{bytes}
use Rattle.sqlite_tied.specs.Compute.{everything}
use Rattle.tables_schema.specs.Forms.{runtime}
use Rattle.tables_sql.specs.Contents.{is_text, is_pair, member_of, Pair}
use Rattle.tables_sql.specs.Queries.{IsSelect}
use Rattle.tables_rows.specs.Entries.{runtime_of, ShowsRuntimeRoot, IsPairRow}
use Rattle.tables_sql.proofs.Orders.{pair_total, pair_antisymmetric}
use Rattle.tables_sql.proofs.Truths.{cast_null, and_so}
use Rattle.tables_sql.proofs.Means.{insert_means}
use Rattle.tables_sql.proofs.Ordered.{Place, IsColumn}
use Rattle.tables_sql.proofs.ContentsLemmas.{runtime_set}
use Rattle.tables_sql.proofs.Parts.{IsAsked, added, selected, removed}
use Rattle.tables_sql.proofs.KeyOrders.{by_pair}
use Rattle.tables_rows.proofs.Legible.{pair_row}
use Rattle.tables_sql.proofs.FreeKeys.{agreed_two}
use Rattle.tables_sql.proofs.RowKinds.{runtime_kept}
use Rattle.tables_sql.proofs.OneOfNine.{one_of_nine}
use Rattle.tables_sql.proofs.Description.{Description, Addition, Removal, Reading, Selection}

-- ---- the table

abbrev pub table : Description Pair (Unit {0})
table =
    one_of_nine runtime pair_total pair_antisymmetric is_pair member_of (λ c. c.runtime)
    (λ c m. record c { runtime = m })
    refl (λ db has. refl) (λ s has. has.1.1.1.1.1.1.1.1.0) (λ db of_store. of_store.keyed.1.1.1.1.1.1.1.1.0)
    runtime_kept runtime_set

-- ---- one more

abbrev pub insert_text : List ℕ
insert_text = codes "INSERT INTO runtime (label, target) VALUES (?1, ?2)"

pub addition : (label target : List ℕ)
    → Addition table insert_text (Text label ∷ Text target ∷ []) (Text label ∷ Text target ∷ []) (label, target) tt
unfolding everything
addition label target =
    added table (λ s at tree found. (
      _,
      insert_means insert_text refl s at (codes "runtime") runtime.columns runtime.primary tree _ found refl,
      refl,
      refl,
      refl,
      refl,
      refl,
    ))
    (λ rows. rw cast_null refl) (refl, refl, λ id. (refl, refl, refl))
    (λ id r kind h. let e = agreed_two (Text label) (Text target) (Int id) [] r (and_so _ _ kind) h in
    λ i. (e.0 i, e.1 i))

-- ---- reading them

abbrev pub places : List Place
places = (codes "label", 0) ∷ (codes "target", 1) ∷ []

pub places_are : AllByRecursion (IsColumn runtime.name runtime.columns runtime.primary) places
unfolding everything
places_are = ((refl, (_, refl, refl, refl)), ((refl, (_, refl, refl, refl)), tt))

abbrev pub reading : Reading table ShowsRuntimeRoot runtime_of IsPairRow
reading = record {
  shown = places;
  by = 2;
  fits =
      λ params filter tree r t h. (λ i. is_text (h.0 i) && is_text (h.1 i), λ i. ((bytes (h.0 i), bytes (h.1 i)), tt));
  legible = λ params filter tree. pair_row;
  orders = λ params filter tree. by_pair;
}

abbrev pub all_text : List ℕ
all_text = codes "SELECT label, target FROM runtime ORDER BY label, target"

pub all_asked : IsAsked table reading all_text []
unfolding everything
all_asked = (
  (_, _, _, _, refl, refl, refl),
  refl,
  λ s at tree known. (rw (known.low, known.by_tree), rw (known.low, known.by_tree) refl),
)

abbrev pub all : Selection table reading all_text [] (λ _. true)
all = selected table reading places_are refl all_text [] all_asked (λ r kind. refl)

-- ---- all gone

abbrev pub delete_all_text : List ℕ
delete_all_text = codes "DELETE FROM runtime"

pub removal_all : Removal table delete_all_text [] (λ _. true)
unfolding everything
removal_all =
    removed table places places_are refl delete_all_text [] (
      (_, _, _, _, refl, refl, refl),
      refl,
      λ s at tree known. (rw (known.low, known.by_tree), rw (known.low, known.by_tree) refl),
    )
    (λ r kind. refl)

-- ---- they are SELECTs

pub all_read : IsSelect all_text
all_read = all.reads
