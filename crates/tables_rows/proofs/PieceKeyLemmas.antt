-- What the text means that reads which pieces there are, without their bytes.
use Rattle.std.proofs.Common.{ℕ, List, [], ◌∷◌, codes, true, ◌&&◌, refl}
use Rattle.std.specs.List.{AllByRecursion}
use Rattle.sqlite_value.specs.Order.{column, bytes}
use Rattle.sqlite_trees.specs.View.{is_int}
use Rattle.sqlite_rules.specs.Edit.{id_in}
use Rattle.sqlite_tied.specs.Compute.{everything}
use Rattle.tables_schema.specs.Forms.{piece}
use Rattle.tables_sql.specs.Contents.{is_text}
use Rattle.tables_sql.specs.Queries.{IsSelect}
use Rattle.tables_rows.specs.Entries.{numbered_in, ShowsPieceKey, IsPieceKeyRow}
use Rattle.tables_sql.proofs.Truths.{and_so}
use Rattle.tables_sql.proofs.Description.{Part, part, PartReading, Selection}
use Rattle.tables_sql.proofs.KeyOrders.{by_numbered}
use Rattle.tables_rows.proofs.Legible.{piece_key_row}
use Rattle.tables_sql.proofs.Ordered.{Place, IsColumn}
use Rattle.tables_sql.proofs.Parts.{IsAsked, selected}
use Rattle.tables_rows.proofs.PieceLemmas.{table}

abbrev pub places : List Place
places = (codes "base", 0) ∷ (codes "num", 1) ∷ []

pub places_are : AllByRecursion (IsColumn piece.name piece.columns piece.primary) places
unfolding everything
places_are = ((refl, (_, refl, refl, refl)), ((refl, (_, refl, refl, refl)), tt))

abbrev pub nothing : Part table (Unit {0})
nothing = part table (λ x. tt) (λ r. is_text (column r 1) && is_int (column r 2)) (λ r kind. (and_so _ _ kind).0)

abbrev pub reading : PartReading table nothing ShowsPieceKey (λ e. (numbered_in e, tt)) IsPieceKeyRow
reading = record {
  shown = places;
  by = 2;
  fits =
      λ params filter tree r t h. (λ i. is_text (h.0 i) && is_int (h.1 i), λ i. ((bytes (h.0 i), id_in (h.1 i)), tt));
  legible = λ params filter tree. piece_key_row;
  orders = λ params filter tree. by_numbered;
}

abbrev pub keys_text : List ℕ
keys_text = codes "SELECT base, num FROM piece ORDER BY base, num"

pub keys_asked : IsAsked table reading keys_text []
unfolding everything
keys_asked = (
  (_, _, _, _, refl, refl, refl),
  refl,
  λ s at tree known. (rw (known.low, known.by_tree), rw (known.low, known.by_tree) refl),
)

abbrev pub keys : Selection table reading keys_text [] (λ _. true)
keys = selected table reading places_are refl keys_text [] keys_asked (λ r has. refl)

pub keys_read : IsSelect keys_text
keys_read = keys.reads
