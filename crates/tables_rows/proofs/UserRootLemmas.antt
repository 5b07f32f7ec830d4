-- The table of roots of users, described once, and what the texts of its statements mean.
use Rattle.std.proofs.Common.{ℕ, List, [], ◌∷◌, codes, true, ◌&&◌, refl}
use Rattle.std.specs.Ordering.{eq_by_cmp}
use Rattle.std.specs.List.{AllByRecursion}
use Rattle.sqlite_value.specs.declared.value.Value.TheVariants.{Int, Text}
use Rattle.sqlite_value.specs.Order.{bytes}
use Rattle.sqlite_tied.specs.Compute.{everything}
use Rattle.tables_schema.specs.Forms.{user_root}
use Rattle.tables_sql.specs.Contents.{texts_cmp, is_text, is_triple, target_of, Bytes, Pair}
use Rattle.tables_sql.specs.Queries.{IsSelect}
use Rattle.tables_rows.specs.Entries.{user_root_of, ShowsUserRoot, IsTripleRow}
use Rattle.tables_sql.proofs.Orders.{pair_total, pair_antisymmetric}
use Rattle.tables_sql.proofs.Truths.{cast_null, and_so}
use Rattle.tables_sql.proofs.Means.{insert_means}
use Rattle.tables_sql.proofs.Ordered.{Place, IsColumn}
use Rattle.tables_sql.proofs.ContentsLemmas.{user_root_set}
use Rattle.tables_sql.proofs.Parts.{IsAsked, added, selected, removed, said_two}
use Rattle.tables_sql.proofs.KeyOrders.{by_pair}
use Rattle.tables_rows.proofs.Legible.{triple_row}
use Rattle.tables_sql.proofs.FreeKeys.{agreed_two}
use Rattle.tables_sql.proofs.RowKinds.{user_root_kept}
use Rattle.tables_sql.proofs.OneOfNine.{one_of_nine}
use Rattle.tables_sql.proofs.Description.{Description, Addition, Removal, Reading, Selection}

-- ---- the table

abbrev pub table : Description Pair Bytes
table =
    one_of_nine user_root pair_total pair_antisymmetric is_triple target_of (λ c. c.user_roots)
    (λ c m. record c { user_roots = m })
    refl (λ db has. refl) (λ s has. has.1.1.1.1.1.0) (λ db of_store. of_store.keyed.1.1.1.1.1.0) user_root_kept
    user_root_set

-- ---- one more

abbrev pub insert_text : List ℕ
insert_text = codes "INSERT INTO user_root (owner, name, target) VALUES (?1, ?2, ?3)"

pub addition : (owner : List ℕ) (name : List ℕ) (target : List ℕ)
    → Addition table insert_text (Text owner ∷ Text name ∷ Text target ∷ []) (Text owner ∷ Text name ∷ Text target ∷ [])
    (owner, name) target
unfolding everything
addition owner name target =
    added table (λ s at tree found. (
      _,
      insert_means insert_text refl s at (codes "user_root") user_root.columns user_root.primary tree _ found
          refl,
      refl,
      refl,
      refl,
      refl,
      refl,
    ))
    (λ rows. rw cast_null refl) (refl, refl, λ id. (refl, refl, refl))
    (λ id r kind h. let e = agreed_two (Text owner) (Text name) (Int id) (Text target ∷ []) r
    (and_so _ _ (and_so _ _ kind).0) h in λ i. (e.0 i, e.1 i))

-- ---- reading them

abbrev pub places : List Place
places = (codes "owner", 0) ∷ (codes "name", 1) ∷ (codes "target", 2) ∷ []

pub places_are : AllByRecursion (IsColumn user_root.name user_root.columns user_root.primary) places
unfolding everything
places_are = ((refl, (_, refl, refl, refl)), ((refl, (_, refl, refl, refl)), ((refl, (_, refl, refl, refl)), tt)))

abbrev pub reading : Reading table ShowsUserRoot user_root_of IsTripleRow
reading = record {
  shown = places;
  by = 2;
  fits =
      λ params filter tree r t h. (
        λ i. is_text (h.0 i) && is_text (h.1 i) && is_text (h.2 i),
        λ i. ((bytes (h.0 i), bytes (h.1 i)), bytes (h.2 i)),
      );
  legible = λ params filter tree. triple_row;
  orders = λ params filter tree a b h k. by_pair a b (and_so _ _ h).0 (and_so _ _ k).0;
}

abbrev pub all_text : List ℕ
all_text = codes "SELECT owner, name, target FROM user_root ORDER BY owner, name"

pub all_asked : IsAsked table reading all_text []
unfolding everything
all_asked = (
  (_, _, _, _, refl, refl, refl),
  refl,
  λ s at tree known. (rw (known.low, known.by_tree), rw (known.low, known.by_tree) refl),
)

abbrev pub all : Selection table reading all_text [] (λ _. true)
all = selected table reading places_are refl all_text [] all_asked (λ r kind. refl)

-- ---- those gone

abbrev pub delete_text : List ℕ
delete_text = codes "DELETE FROM user_root WHERE owner = ?1 AND name = ?2"

pub removal : (owner : List ℕ) (name : List ℕ)
    → Removal table delete_text (Text owner ∷ Text name ∷ [])
    (λ k. eq_by_cmp texts_cmp k.0 owner && eq_by_cmp texts_cmp k.1 name)
unfolding everything
removal owner name =
    removed table places places_are refl delete_text (Text owner ∷ Text name ∷ []) (
      (_, _, _, _, refl, refl, refl),
      refl,
      λ s at tree known. (rw (known.low, known.by_tree), rw (known.low, known.by_tree) refl),
    )
    (λ r kind. said_two (Text owner) (Text name) r (and_so _ _ (and_so _ _ kind).0))

-- ---- they are SELECTs

pub all_read : IsSelect all_text
all_read = all.reads
