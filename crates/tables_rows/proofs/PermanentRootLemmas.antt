-- The table of permanent roots, described once, and what the texts of its statements mean.
use Rattle.std.proofs.Common.{ℕ, List, [], ◌∷◌, codes, true, ◌&&◌, refl}
use Rattle.std.specs.Ordering.{eq_by_cmp}
use Rattle.std.specs.List.{AllByRecursion}
use Rattle.sqlite_value.specs.declared.value.Value.TheVariants.{Int, Text}
use Rattle.sqlite_value.specs.Order.{bytes}
use Rattle.sqlite_tied.specs.Compute.{everything}
use Rattle.tables_schema.specs.Forms.{permanent}
use Rattle.tables_sql.specs.Contents.{texts_cmp, is_text, is_pair, pair_of, Bytes}
use Rattle.tables_sql.specs.Queries.{IsSelect}
use Rattle.tables_rows.specs.Entries.{permanent_of, ShowsPermanentRoot, IsPairRow}
use Rattle.tables_sql.proofs.Orders.{texts_total, texts_antisymmetric}
use Rattle.tables_sql.proofs.Truths.{cast_null, and_so}
use Rattle.tables_sql.proofs.Means.{insert_means}
use Rattle.tables_sql.proofs.Ordered.{Place, IsColumn}
use Rattle.tables_sql.proofs.ContentsLemmas.{permanent_set}
use Rattle.tables_sql.proofs.Parts.{IsAsked, added, selected, removed, said_one}
use Rattle.tables_sql.proofs.KeyOrders.{by_text}
use Rattle.tables_rows.proofs.Legible.{pair_row}
use Rattle.tables_sql.proofs.FreeKeys.{agreed_one}
use Rattle.tables_sql.proofs.RowKinds.{permanent_kept}
use Rattle.tables_sql.proofs.OneOfNine.{one_of_nine}
use Rattle.tables_sql.proofs.Description.{Description, Addition, Removal, Reading, Selection}

-- ---- the table

abbrev pub table : Description Bytes Bytes
table =
    one_of_nine permanent texts_total texts_antisymmetric is_pair pair_of (λ c. c.permanent)
    (λ c m. record c { permanent = m })
    refl (λ db has. refl) (λ s has. has.1.1.1.1.0) (λ db of_store. of_store.keyed.1.1.1.1.0) permanent_kept
    permanent_set

-- ---- one more

abbrev pub insert_text : List ℕ
insert_text = codes "INSERT INTO permanent (name, target) VALUES (?1, ?2)"

pub addition : (name : List ℕ) (target : List ℕ)
    → Addition table insert_text (Text name ∷ Text target ∷ []) (Text name ∷ Text target ∷ []) name target
unfolding everything
addition name target =
    added table (λ s at tree found. (
      _,
      insert_means insert_text refl s at (codes "permanent") permanent.columns permanent.primary tree _ found
          refl,
      refl,
      refl,
      refl,
      refl,
      refl,
    ))
    (λ rows. rw cast_null refl) (refl, refl, λ id. (refl, refl, refl))
    (λ id r kind h. agreed_one (Text name) (Int id) (Text target ∷ []) r ((and_so _ _ kind).0) h)

-- ---- reading them

abbrev pub places : List Place
places = (codes "name", 0) ∷ (codes "target", 1) ∷ []

pub places_are : AllByRecursion (IsColumn permanent.name permanent.columns permanent.primary) places
unfolding everything
places_are = ((refl, (_, refl, refl, refl)), ((refl, (_, refl, refl, refl)), tt))

abbrev pub reading : Reading table ShowsPermanentRoot permanent_of IsPairRow
reading = record {
  shown = places;
  by = 1;
  fits = λ params filter tree r t h. (λ i. is_text (h.0 i) && is_text (h.1 i), λ i. (bytes (h.0 i), bytes (h.1 i)));
  legible = λ params filter tree. pair_row;
  orders = λ params filter tree a b h k. by_text a b (and_so _ _ h).0 (and_so _ _ k).0;
}

abbrev pub all_text : List ℕ
all_text = codes "SELECT name, target FROM permanent ORDER BY name"

pub all_asked : IsAsked table reading all_text []
unfolding everything
all_asked = (
  (_, _, _, _, refl, refl, refl),
  refl,
  λ s at tree known. (rw (known.low, known.by_tree), rw (known.low, known.by_tree) refl),
)

abbrev pub all : Selection table reading all_text [] (λ _. true)
all = selected table reading places_are refl all_text [] all_asked (λ r kind. refl)

-- ---- those gone

abbrev pub delete_text : List ℕ
delete_text = codes "DELETE FROM permanent WHERE name = ?1"

pub removal : (name : List ℕ) → Removal table delete_text (Text name ∷ []) (λ k. eq_by_cmp texts_cmp k name)
unfolding everything
removal name =
    removed table places places_are refl delete_text (Text name ∷ []) (
      (_, _, _, _, refl, refl, refl),
      refl,
      λ s at tree known. (rw (known.low, known.by_tree), rw (known.low, known.by_tree) refl),
    )
    (λ r kind. said_one (Text name) r (and_so _ _ kind).0)

-- ---- they are SELECTs

pub all_read : IsSelect all_text
all_read = all.reads
