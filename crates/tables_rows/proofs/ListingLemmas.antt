-- What the statement means that lists the paths of objects. Before it are the columns of an object but its archive,
-- which an opening tests.
use Rattle.std.proofs.Common.{ℕ, List, [], ◌∷◌, codes, true, refl}
use Rattle.std.specs.Prelude.{string_bytes}
use Rattle.std.specs.List.{AllByRecursion}
use Rattle.sqlite_value.specs.Order.{column, bytes}
use Rattle.sqlite_tied.specs.Compute.{everything}
use Rattle.tables_schema.specs.Forms.{object}
use Rattle.tables_sql.specs.Contents.{is_text}
use Rattle.tables_sql.specs.Queries.{IsSelect}
use Rattle.tables_sql.specs.Reading.{ShowsText, IsTextRow}
use Rattle.tables_sql.proofs.Description.{Part, part, PartReading, Selection}
use Rattle.tables_sql.proofs.KeyOrders.{by_text}
use Rattle.tables_rows.proofs.Legible.{path_row}
use Rattle.tables_rows.proofs.ObjectLemmas.{table}
use Rattle.tables_sql.proofs.Ordered.{Place, IsColumn}
use Rattle.tables_sql.proofs.Parts.{selected}
use Rattle.tables_sql.proofs.Typed.{base_is}

-- ---- the columns but the archive

abbrev pub places : List Place
places = (codes "base", 0) ∷ (codes "hash", 2) ∷ (codes "deriver", 3) ∷ (codes "ca", 4) ∷ []

pub places_are : AllByRecursion (IsColumn object.name object.columns object.primary) places
unfolding everything
places_are = (
  (refl, (_, refl, refl, refl)),
  ((refl, (_, refl, refl, refl)), ((refl, (_, refl, refl, refl)), ((refl, (_, refl, refl, refl)), tt))),
)

-- ---- paths alone

abbrev pub key_places : List Place
key_places = (codes "base", 0) ∷ []

pub key_places_are : AllByRecursion (IsColumn object.name object.columns object.primary) key_places
unfolding everything
key_places_are = ((refl, (_, refl, refl, refl)), tt)

abbrev pub nothing : Part table (Unit {0})
nothing = part table (λ o. tt) (λ r. is_text (column r 1)) base_is

abbrev pub keys_reading : PartReading table nothing ShowsText (λ s. (string_bytes s, tt)) IsTextRow
keys_reading = record {
  shown = key_places;
  by = 1;
  fits = λ params filter tree r t h. (λ i. is_text (h i), λ i. (bytes (h i), tt));
  legible = λ params filter tree. path_row;
  orders = λ params filter tree a b h k. by_text a b (base_is a h) (base_is b k);
}

abbrev pub keys_text : List ℕ
keys_text = codes "SELECT base FROM object ORDER BY base"

pub keys : Selection table keys_reading keys_text [] (λ _. true)
unfolding everything
keys =
    selected table keys_reading key_places_are refl keys_text [] (
      (_, _, _, _, refl, refl, refl),
      refl,
      λ s at tree known. (rw (known.low, known.by_tree), rw (known.low, known.by_tree) refl),
    ) (λ r has. refl)

pub keys_read : IsSelect keys_text
keys_read = keys.reads
