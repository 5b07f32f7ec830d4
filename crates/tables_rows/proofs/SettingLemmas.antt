-- The table of settings, described once, and what the texts of its statements mean.
use Rattle.std.proofs.Common.{ℕ, List, [], ◌∷◌, codes, true, ◌&&◌, refl}
use Rattle.std.specs.Ordering.{eq_by_cmp}
use Rattle.std.specs.List.{AllByRecursion}
use Rattle.sqlite_value.specs.declared.value.Value.TheVariants.{Int, Text}
use Rattle.sqlite_value.specs.Order.{bytes}
use Rattle.sqlite_tied.specs.Compute.{everything}
use Rattle.tables_schema.specs.Forms.{meta}
use Rattle.tables_sql.specs.Contents.{texts_cmp, is_text, is_pair, pair_of, Bytes}
use Rattle.tables_sql.specs.Queries.{IsSelect}
use Rattle.tables_rows.specs.Entries.{setting_of, ShowsSetting, IsPairRow}
use Rattle.tables_sql.proofs.Orders.{texts_total, texts_antisymmetric}
use Rattle.tables_sql.proofs.Truths.{cast_null, and_so}
use Rattle.tables_sql.proofs.Means.{insert_means}
use Rattle.tables_sql.proofs.Ordered.{Place, IsColumn}
use Rattle.tables_sql.proofs.ContentsLemmas.{meta_set}
use Rattle.tables_sql.proofs.Parts.{IsAsked, added, selected, removed, said_one}
use Rattle.tables_sql.proofs.KeyOrders.{by_text}
use Rattle.tables_rows.proofs.Legible.{pair_row}
use Rattle.tables_sql.proofs.FreeKeys.{agreed_one}
use Rattle.tables_sql.proofs.RowKinds.{meta_kept}
use Rattle.tables_sql.proofs.OneOfNine.{one_of_nine}
use Rattle.tables_sql.proofs.Description.{Description, Inserts, Addition, Removal, Reading, Selection}

-- ---- the table

abbrev pub table : Description Bytes Bytes
table =
    one_of_nine meta texts_total texts_antisymmetric is_pair pair_of (λ c. c.meta) (λ c m. record c { meta = m })
    refl (λ db has. refl) (λ s has. has.0) (λ db of_store. of_store.keyed.0) meta_kept meta_set

-- ---- one more

abbrev pub insert_text : List ℕ
insert_text = codes "INSERT INTO meta (word, val) VALUES (?1, ?2)"

pub insert_is : Inserts table insert_text 2
unfolding everything
insert_is s at tree found = (
  _,
  insert_means insert_text refl s at (codes "meta") meta.columns meta.primary tree _ found refl,
  refl,
  refl,
  refl,
  refl,
  refl,
)

pub addition : (word : List ℕ) (value : List ℕ)
    → Addition table insert_text (Text word ∷ Text value ∷ []) (Text word ∷ Text value ∷ []) word value
addition word value =
    added table insert_is (λ rows. rw cast_null refl) (refl, refl, λ id. (refl, refl, refl))
    (λ id r kind h. agreed_one (Text word) (Int id) (Text value ∷ []) r ((and_so _ _ kind).0) h)

-- ---- reading them

abbrev pub places : List Place
places = (codes "word", 0) ∷ (codes "val", 1) ∷ []

pub places_are : AllByRecursion (IsColumn meta.name meta.columns meta.primary) places
unfolding everything
places_are = ((refl, (_, refl, refl, refl)), ((refl, (_, refl, refl, refl)), tt))

abbrev pub reading : Reading table ShowsSetting setting_of IsPairRow
reading = record {
  shown = places;
  by = 1;
  fits = λ params filter tree r t h. (λ i. is_text (h.0 i) && is_text (h.1 i), λ i. (bytes (h.0 i), bytes (h.1 i)));
  legible = λ params filter tree. pair_row;
  orders = λ params filter tree a b h k. by_text a b (and_so _ _ h).0 (and_so _ _ k).0;
}

abbrev pub all_text : List ℕ
all_text = codes "SELECT word, val FROM meta ORDER BY word"

pub all_asked : IsAsked table reading all_text []
unfolding everything
all_asked = (
  (_, _, _, _, refl, refl, refl),
  refl,
  λ s at tree known. (rw (known.low, known.by_tree), rw (known.low, known.by_tree) refl),
)

abbrev pub all : Selection table reading all_text [] (λ _. true)
all = selected table reading places_are refl all_text [] all_asked (λ r kind. refl)

-- ---- those gone

abbrev pub delete_text : List ℕ
delete_text = codes "DELETE FROM meta WHERE word = ?1"

pub removal : (word : List ℕ) → Removal table delete_text (Text word ∷ []) (λ k. eq_by_cmp texts_cmp k word)
unfolding everything
removal word =
    removed table places places_are refl delete_text (Text word ∷ []) (
      (_, _, _, _, refl, refl, refl),
      refl,
      λ s at tree known. (rw (known.low, known.by_tree), rw (known.low, known.by_tree) refl),
    )
    (λ r kind. said_one (Text word) r (and_so _ _ kind).0)

-- ---- they are SELECTs

pub all_read : IsSelect all_text
all_read = all.reads
