-- The table of generations, described once, and what the texts of its statements mean.
use Rattle.std.proofs.Common.{◌≡◌, ℕ, ℤ, List, [], ◌∷◌, codes, true, ◌&&◌, refl}
use Rattle.std.specs.Ordering.{eq_by_cmp, int_cmp}
use Rattle.std.specs.List.{AllByRecursion}
use Rattle.sqlite_value.specs.declared.value.Value.TheVariants.{Int, Text}
use Rattle.sqlite_value.specs.Order.{Row, column, bytes}
use Rattle.sqlite_trees.specs.View.{is_int}
use Rattle.sqlite_rules.specs.Edit.{id_in}
use Rattle.sqlite_tied.specs.Compute.{everything}
use Rattle.tables_schema.specs.Forms.{generation}
use Rattle.tables_sql.specs.Contents.{texts_cmp, is_text, is_generation, generation_of, Bytes, Triple}
use Rattle.tables_sql.specs.Queries.{IsSelect}
use Rattle.tables_rows.specs.Entries.{generation_in, ShowsGeneration, IsGenerationRow}
use Rattle.tables_sql.proofs.Orders.{triple_total, triple_antisymmetric}
use Rattle.tables_sql.proofs.Truths.{cast_null, cast_int, and_so}
use Rattle.tables_sql.proofs.Means.{insert_means}
use Rattle.tables_sql.proofs.Ordered.{Place, IsColumn}
use Rattle.tables_sql.proofs.ContentsLemmas.{generation_set}
use Rattle.tables_sql.proofs.Parts.{IsAsked, added, selected, removed, said_three}
use Rattle.tables_sql.proofs.KeyOrders.{by_triple}
use Rattle.tables_rows.proofs.Legible.{generation_row}
use Rattle.tables_sql.proofs.FreeKeys.{agreed_three}
use Rattle.tables_sql.proofs.RowKinds.{generation_kept}
use Rattle.tables_sql.proofs.OneOfNine.{one_of_nine}
use Rattle.tables_sql.proofs.Description.{Description, Addition, Removal, Reading, Selection}

-- ---- the table

abbrev pub table : Description Triple Bytes
table =
    one_of_nine generation triple_total triple_antisymmetric is_generation generation_of (λ c. c.generations)
    (λ c m. record c { generations = m })
    refl (λ db has. refl) (λ s has. has.1.1.1.1.1.1.1.0) (λ db of_store. of_store.keyed.1.1.1.1.1.1.1.0) generation_kept
    generation_set

-- its key is two texts and a number
key_is : (r : Row) → is_generation r ≡ true
    → (is_text (column r 1) ≡ true) × (is_text (column r 2) ≡ true) × (is_int (column r 3) ≡ true)
key_is r kind = let whole = and_so _ _ (and_so _ _ kind).0 in let pair = and_so _ _ whole.0 in (pair.0, pair.1, whole.1)

-- ---- one more

abbrev pub insert_text : List ℕ
insert_text = codes "INSERT INTO generation (owner, name, num, target) VALUES (?1, ?2, ?3, ?4)"

pub addition : (owner : List ℕ) (name : List ℕ) (number : ℤ) (target : List ℕ)
    → Addition table insert_text (Text owner ∷ Text name ∷ Int number ∷ Text target ∷ [])
    (Text owner ∷ Text name ∷ Int number ∷ Text target ∷ []) (owner, name, number) target
unfolding everything
addition owner name number target =
    added table (λ s at tree found. (
      _,
      insert_means insert_text refl s at (codes "generation") generation.columns generation.primary tree _ found
          refl,
      refl,
      refl,
      refl,
      refl,
      refl,
    ))
    (λ rows. rw (cast_null, cast_int number) refl) (refl, refl, λ id. (refl, refl, refl))
    (λ id r kind h. let e = agreed_three (Text owner) (Text name) (Int number) (Int id) (Text target ∷ []) r
    (key_is r kind) h in λ i. (e.0 i, e.1 i, e.2 i))

-- ---- reading them

abbrev pub places : List Place
places = (codes "owner", 0) ∷ (codes "name", 1) ∷ (codes "num", 2) ∷ (codes "target", 3) ∷ []

pub places_are : AllByRecursion (IsColumn generation.name generation.columns generation.primary) places
unfolding everything
places_are = (
  (refl, (_, refl, refl, refl)),
  ((refl, (_, refl, refl, refl)), ((refl, (_, refl, refl, refl)), ((refl, (_, refl, refl, refl)), tt))),
)

abbrev pub reading : Reading table ShowsGeneration generation_in IsGenerationRow
reading = record {
  shown = places;
  by = 3;
  fits =
      λ params filter tree r t h. (
        λ i. is_text (h.0 i) && is_text (h.1 i) && is_int (h.2 i) && is_text (h.3 i),
        λ i. ((bytes (h.0 i), bytes (h.1 i), id_in (h.2 i)), bytes (h.3 i)),
      );
  legible = λ params filter tree. generation_row;
  orders = λ params filter tree. by_triple;
}

abbrev pub all_text : List ℕ
all_text = codes "SELECT owner, name, num, target FROM generation ORDER BY owner, name, num"

pub all_asked : IsAsked table reading all_text []
unfolding everything
all_asked = (
  (_, _, _, _, refl, refl, refl),
  refl,
  λ s at tree known. (rw (known.low, known.by_tree), rw (known.low, known.by_tree) refl),
)

abbrev pub all : Selection table reading all_text [] (λ _. true)
all = selected table reading places_are refl all_text [] all_asked (λ r kind. refl)

-- ---- those gone

abbrev pub delete_text : List ℕ
delete_text = codes "DELETE FROM generation WHERE owner = ?1 AND name = ?2 AND num = ?3"

pub removal : (owner : List ℕ) (name : List ℕ) (number : ℤ)
    → Removal table delete_text (Text owner ∷ Text name ∷ Int number ∷ [])
    (λ k. eq_by_cmp texts_cmp k.0 owner && (eq_by_cmp texts_cmp k.1 name && eq_by_cmp int_cmp k.2 number))
unfolding everything
removal owner name number =
    removed table places places_are refl delete_text (Text owner ∷ Text name ∷ Int number ∷ []) (
      (_, _, _, _, refl, refl, refl),
      refl,
      λ s at tree known. (rw (known.low, known.by_tree), rw (known.low, known.by_tree) refl),
    )
    (λ r kind. said_three (Text owner) (Text name) (Int number) r (key_is r kind))

-- ---- they are SELECTs

pub all_read : IsSelect all_text
all_read = all.reads
