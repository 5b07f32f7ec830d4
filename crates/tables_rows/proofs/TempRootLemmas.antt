-- The table of temporary roots, described once, and what the texts of its statements mean.
use Rattle.std.proofs.Common.{◌≡◌, ℕ, ℤ, List, [], ◌∷◌, codes, true, ◌&&◌, refl}
use Rattle.std.specs.Ordering.{eq_by_cmp, int_cmp}
use Rattle.std.specs.List.{AllByRecursion}
use Rattle.sqlite_value.specs.declared.value.Value.TheVariants.{Int, Text}
use Rattle.sqlite_value.specs.Order.{Row, column, bytes}
use Rattle.sqlite_trees.specs.View.{is_int}
use Rattle.sqlite_rules.specs.Edit.{id_in}
use Rattle.sqlite_tied.specs.Compute.{everything}
use Rattle.tables_schema.specs.Forms.{temp_root}
use Rattle.tables_schema.specs.Intact.{IsIntact}
use Rattle.tables_sql.specs.Contents.{SessionPath, texts_cmp, session_path_cmp, is_text, is_session_path}
use Rattle.tables_sql.specs.Contents.{session_path_of}
use Rattle.tables_sql.specs.Calls.{HasFurther}
use Rattle.tables_sql.specs.Queries.{IsSelect}
use Rattle.tables_rows.specs.Entries.{temp_root_of, ShowsTempRoot, IsTempRootRow}
use Rattle.tables_sql.proofs.Orders.{session_path_total, session_path_antisymmetric}
use Rattle.tables_sql.proofs.Truths.{cast_null, cast_int, and_so}
use Rattle.tables_sql.proofs.Means.{insert_means}
use Rattle.tables_sql.proofs.Ordered.{Place, IsColumn}
use Rattle.tables_sql.proofs.FurtherTables.{temp_root_kept, temp_roots_held, temp_roots_set}
use Rattle.tables_sql.proofs.Parts.{IsAsked, added, selected, removed, said_two, said_three}
use Rattle.tables_sql.proofs.KeyOrders.{by_kept}
use Rattle.tables_rows.proofs.Legible.{temp_root_row}
use Rattle.tables_sql.proofs.FreeKeys.{agreed_three}
use Rattle.tables_sql.proofs.Places.{further_kept}
use Rattle.tables_sql.proofs.Description.{Description, Addition, Removal, Reading, Selection}

-- ---- the table

abbrev pub table : Description SessionPath (Unit {0})
table = record {
  name = temp_root.name;
  columns = temp_root.columns;
  key = temp_root.primary;
  order = session_path_cmp;
  total = session_path_total;
  same = session_path_antisymmetric;
  kind = is_session_path;
  entry = session_path_of;
  IsIn = λ s. IsIntact s temp_root;
  IsOwn = λ db. HasFurther db temp_root;
  within = λ db of_store mine. mine.exists;
  of = λ c. c.temp_roots;
  put = λ c m. record c { temp_roots = m };
  held = temp_roots_held;
  named = refl;
  exists = λ s here. here;
  keyed = λ db of_store mine. mine.keyed;
  kept = temp_root_kept;
  written = λ old new rows has here sets m is. temp_roots_set old new has rows here sets m is;
  still =
      λ old new rows exists sets keyed readable mine. further_kept temp_root old new rows exists sets keyed readable
      temp_root mine;
}

-- its key is a text, a number and a text
key_is : (r : Row) → is_session_path r ≡ true
    → (is_text (column r 1) ≡ true) × (is_int (column r 2) ≡ true) × (is_text (column r 3) ≡ true)
key_is r kind = let whole = and_so _ _ kind in let front = and_so _ _ whole.0 in (front.0, front.1, whole.1)

-- ---- one more

abbrev pub insert_text : List ℕ
insert_text = codes "INSERT INTO temp_root (owner, session, target) VALUES (?1, ?2, ?3)"

pub addition : (owner : List ℕ) (session : ℤ) (target : List ℕ)
    → Addition table insert_text (Text owner ∷ Int session ∷ Text target ∷ [])
    (Text owner ∷ Int session ∷ Text target ∷ []) (owner, session, target) tt
unfolding everything
addition owner session target =
    added table (λ s at tree found. (
      _,
      insert_means insert_text refl s at (codes "temp_root") temp_root.columns temp_root.primary tree _ found
          refl,
      refl,
      refl,
      refl,
      refl,
      refl,
    ))
    (λ rows. rw (cast_null, cast_int session) refl) (refl, refl, λ id. (refl, refl, refl))
    (λ id r kind h. let e = agreed_three (Text owner) (Int session) (Text target) (Int id) [] r (key_is r kind) h in
    λ i. (e.0 i, e.1 i, e.2 i))

-- ---- reading them

abbrev pub places : List Place
places = (codes "owner", 0) ∷ (codes "session", 1) ∷ (codes "target", 2) ∷ []

pub places_are : AllByRecursion (IsColumn temp_root.name temp_root.columns temp_root.primary) places
unfolding everything
places_are = ((refl, (_, refl, refl, refl)), ((refl, (_, refl, refl, refl)), ((refl, (_, refl, refl, refl)), tt)))

abbrev pub reading : Reading table ShowsTempRoot temp_root_of IsTempRootRow
reading = record {
  shown = places;
  by = 3;
  fits =
      λ params filter tree r t h. (
        λ i. is_text (h.0 i) && is_int (h.1 i) && is_text (h.2 i),
        λ i. ((bytes (h.0 i), id_in (h.1 i), bytes (h.2 i)), tt),
      );
  legible = λ params filter tree. temp_root_row;
  orders = λ params filter tree. by_kept;
}

abbrev pub all_text : List ℕ
all_text = codes "SELECT owner, session, target FROM temp_root ORDER BY owner, session, target"

pub all_asked : IsAsked table reading all_text []
unfolding everything
all_asked = (
  (_, _, _, _, refl, refl, refl),
  refl,
  λ s at tree known. (rw (known.low, known.by_tree), rw (known.low, known.by_tree) refl),
)

abbrev pub all : Selection table reading all_text [] (λ _. true)
all = selected table reading places_are refl all_text [] all_asked (λ r kind. refl)

-- ---- those gone

abbrev pub delete_of_text : List ℕ
delete_of_text = codes "DELETE FROM temp_root WHERE owner = ?1 AND session = ?2"

pub removal : (owner : List ℕ) (session : ℤ)
    → Removal table delete_of_text (Text owner ∷ Int session ∷ [])
    (λ k. eq_by_cmp texts_cmp k.0 owner && eq_by_cmp int_cmp k.1 session)
unfolding everything
removal owner session =
    removed table places places_are refl delete_of_text (Text owner ∷ Int session ∷ []) (
      (_, _, _, _, refl, refl, refl),
      refl,
      λ s at tree known. (rw (known.low, known.by_tree), rw (known.low, known.by_tree) refl),
    )
    (λ r kind. said_two (Text owner) (Int session) r (let k = key_is r kind in (k.0, k.1)))

abbrev pub delete_text : List ℕ
delete_text = codes "DELETE FROM temp_root WHERE owner = ?1 AND session = ?2 AND target = ?3"

pub removal_one : (owner : List ℕ) (session : ℤ) (target : List ℕ)
    → Removal table delete_text (Text owner ∷ Int session ∷ Text target ∷ [])
    (λ k. eq_by_cmp texts_cmp k.0 owner && (eq_by_cmp int_cmp k.1 session && eq_by_cmp texts_cmp k.2 target))
unfolding everything
removal_one owner session target =
    removed table places places_are refl delete_text (Text owner ∷ Int session ∷ Text target ∷ []) (
      (_, _, _, _, refl, refl, refl),
      refl,
      λ s at tree known. (rw (known.low, known.by_tree), rw (known.low, known.by_tree) refl),
    )
    (λ r kind. said_three (Text owner) (Int session) (Text target) r (key_is r kind))

-- ---- they are SELECTs

pub all_read : IsSelect all_text
all_read = all.reads
