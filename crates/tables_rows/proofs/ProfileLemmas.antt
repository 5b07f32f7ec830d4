-- The table of profiles, described once, and what the texts of its statements mean.
use Rattle.std.proofs.Common.{ℕ, ℤ, List, [], ◌∷◌, codes, true, ◌&&◌, refl}
use Rattle.std.specs.Ordering.{eq_by_cmp}
use Rattle.std.specs.List.{AllByRecursion}
use Rattle.sqlite_value.specs.declared.value.Value.TheVariants.{Int, Text}
use Rattle.sqlite_value.specs.Order.{bytes}
use Rattle.sqlite_trees.specs.View.{is_int}
use Rattle.sqlite_rules.specs.Edit.{id_in}
use Rattle.sqlite_tied.specs.Compute.{everything}
use Rattle.tables_schema.specs.Forms.{profile}
use Rattle.tables_sql.specs.Contents.{texts_cmp, is_text, is_profile, profile_of, Pair}
use Rattle.tables_sql.specs.Queries.{IsSelect}
use Rattle.tables_rows.specs.Entries.{current_of, ShowsProfile, IsProfileRow}
use Rattle.tables_sql.proofs.Orders.{pair_total, pair_antisymmetric}
use Rattle.tables_sql.proofs.Truths.{cast_null, cast_int, and_so}
use Rattle.tables_sql.proofs.Means.{insert_means}
use Rattle.tables_sql.proofs.Ordered.{Place, IsColumn}
use Rattle.tables_sql.proofs.ContentsLemmas.{profile_set}
use Rattle.tables_sql.proofs.Parts.{IsAsked, added, selected, removed, said_two}
use Rattle.tables_sql.proofs.KeyOrders.{by_pair}
use Rattle.tables_rows.proofs.Legible.{profile_row}
use Rattle.tables_sql.proofs.FreeKeys.{agreed_two}
use Rattle.tables_sql.proofs.RowKinds.{profile_kept}
use Rattle.tables_sql.proofs.OneOfNine.{one_of_nine}
use Rattle.tables_sql.proofs.Description.{Description, Addition, Removal, Reading, Selection}

-- ---- the table

abbrev pub table : Description Pair ℤ
table =
    one_of_nine profile pair_total pair_antisymmetric is_profile profile_of (λ c. c.profiles)
    (λ c m. record c { profiles = m })
    refl (λ db has. refl) (λ s has. has.1.1.1.1.1.1.0) (λ db of_store. of_store.keyed.1.1.1.1.1.1.0) profile_kept
    profile_set

-- ---- one more

abbrev pub insert_text : List ℕ
insert_text = codes "INSERT INTO profile (owner, name, cur) VALUES (?1, ?2, ?3)"

pub addition : (owner : List ℕ) (name : List ℕ) (current : ℤ)
    → Addition table insert_text (Text owner ∷ Text name ∷ Int current ∷ []) (Text owner ∷ Text name ∷ Int current ∷ [])
    (owner, name) current
unfolding everything
addition owner name current =
    added table (λ s at tree found. (
      _,
      insert_means insert_text refl s at (codes "profile") profile.columns profile.primary tree _ found refl,
      refl,
      refl,
      refl,
      refl,
      refl,
    ))
    (λ rows. rw (cast_null, cast_int current) refl) (refl, refl, λ id. (refl, refl, refl))
    (λ id r kind h. let e = agreed_two (Text owner) (Text name) (Int id) (Int current ∷ []) r
    (and_so _ _ (and_so _ _ kind).0) h in λ i. (e.0 i, e.1 i))

-- ---- reading them

abbrev pub places : List Place
places = (codes "owner", 0) ∷ (codes "name", 1) ∷ (codes "cur", 2) ∷ []

pub places_are : AllByRecursion (IsColumn profile.name profile.columns profile.primary) places
unfolding everything
places_are = ((refl, (_, refl, refl, refl)), ((refl, (_, refl, refl, refl)), ((refl, (_, refl, refl, refl)), tt)))

abbrev pub reading : Reading table ShowsProfile current_of IsProfileRow
reading = record {
  shown = places;
  by = 2;
  fits =
      λ params filter tree r t h. (
        λ i. is_text (h.0 i) && is_text (h.1 i) && is_int (h.2 i),
        λ i. ((bytes (h.0 i), bytes (h.1 i)), id_in (h.2 i)),
      );
  legible = λ params filter tree. profile_row;
  orders = λ params filter tree a b h k. by_pair a b (and_so _ _ h).0 (and_so _ _ k).0;
}

abbrev pub all_text : List ℕ
all_text = codes "SELECT owner, name, cur FROM profile ORDER BY owner, name"

pub all_asked : IsAsked table reading all_text []
unfolding everything
all_asked = (
  (_, _, _, _, refl, refl, refl),
  refl,
  λ s at tree known. (rw (known.low, known.by_tree), rw (known.low, known.by_tree) refl),
)

abbrev pub all : Selection table reading all_text [] (λ _. true)
all = selected table reading places_are refl all_text [] all_asked (λ r kind. refl)

-- ---- those gone

abbrev pub delete_text : List ℕ
delete_text = codes "DELETE FROM profile WHERE owner = ?1 AND name = ?2"

pub removal : (owner : List ℕ) (name : List ℕ)
    → Removal table delete_text (Text owner ∷ Text name ∷ [])
    (λ k. eq_by_cmp texts_cmp k.0 owner && eq_by_cmp texts_cmp k.1 name)
unfolding everything
removal owner name =
    removed table places places_are refl delete_text (Text owner ∷ Text name ∷ []) (
      (_, _, _, _, refl, refl, refl),
      refl,
      λ s at tree known. (rw (known.low, known.by_tree), rw (known.low, known.by_tree) refl),
    )
    (λ r kind. said_two (Text owner) (Text name) r (and_so _ _ (and_so _ _ kind).0))

-- ---- they are SELECTs

pub all_read : IsSelect all_text
all_read = all.reads
