-- What the store's tables report of one path.
use Rattle.std.proofs.Common.{◌≡◌, ℕ, List, [], ◌++◌, map, ◌&&◌, refl, ap, ◌∙◌}
use Rattle.std.specs.Prelude.{ℤ}
use Rattle.std.specs.List.{filter}
use Rattle.std.specs.declared.cmp.Ordering.{Ordering}
use Rattle.std.specs.declared.cmp.Ordering.TheVariants.{Less, Equal, Greater}
use Rattle.std.specs.Ordering.{eq_by_cmp, int_cmp, is_eq, ordering_then}
use Rattle.std.specs.Cmp.Lexicographic.{nat_list_cmp_total}
use Rattle.std.specs.FinMap as finite
use Rattle.std.proofs.lemmas.List.{append-nil}
use Rattle.paths.specs.Root.{bytes_cmp}
use Rattle.tables_sql.specs.Contents.{Contents, Stored, pair_cmp}
use Rattle.model.specs.World.{Path}
use Rattle.tables_world.specs.Pieces.{joined}
use Rattle.tables_world.specs.Rows.{Piece, piece_cmp, references_in, outputs_in, pieces_in, archive_in}
use Rattle.tables_world.specs.Worlds.{rows_of}
use Rattle.tables_world.specs.Laws.{TablesAreRows}
use Rattle.tables_world.proofs.Columns.{get_part, piece_at}
use Rattle.model.proofs.Empty.{no_entries}

both_tied : (r s : Ordering) → is_eq (ordering_then r s) ≡ (is_eq r && is_eq s)
both_tied Less s = refl
both_tied Equal s = refl
both_tied Greater s = refl

pair_tied : (p r : List ℕ) (k : List ℕ × List ℕ)
    → eq_by_cmp pair_cmp (p, r) k ≡ (eq_by_cmp bytes_cmp p k.0 && eq_by_cmp bytes_cmp r k.1)
pair_tied p r k = both_tied (bytes_cmp p k.0) (bytes_cmp r k.1)

-- a reference of a path is a row
pub get-reference : (c : Contents) (p r : Path) → finite.get (references_in (rows_of c) p) r ≡ finite.get c.refs (p, r)
get-reference c p r = get_part bytes_cmp pair_cmp nat_list_cmp_total pair_tied c.refs p r

-- and so is an output
pub get-output : (c : Contents) (p name : Path)
    → finite.get (outputs_in (rows_of c) p) name ≡ finite.get c.outs (p, name)
get-output c p name = get_part bytes_cmp pair_cmp nat_list_cmp_total pair_tied c.outs p name

-- and so is a piece
pub get-piece : (c : Contents) (p : Path) (n : ℤ) → finite.get (pieces_in (rows_of c) p) n ≡ finite.get c.pieces (p, n)
get-piece c p n = piece_at (rows_of c) p n

-- where there is no further piece, the row has the whole archive
pub whole : (c : Contents) (p : Path) (x : Stored) → c.pieces ≡ finite.empty → archive_in (rows_of c) p x ≡ x.nar
whole c p x none = ap (λ (es : List (ℤ × List ℕ)). x.nar ++ joined es) nothing ∙ append-nil x.nar
  where
    loaded : finite.FinMap piece_cmp (List ℕ) → List (ℤ × List ℕ)
    loaded m =
        finite.entries (finite.from_entries {R = int_cmp}
        (map (λ (e : Piece × List ℕ). let d : ℤ × List ℕ = (e.0.1, e.1) in d)
        (filter (λ (e : Piece × List ℕ). eq_by_cmp bytes_cmp p e.0.0) (finite.entries m))))

    nothing : finite.entries (pieces_in (rows_of c) p) ≡ []
    nothing =
        ap loaded none
        ∙ ap (λ (es : List (Piece × List ℕ)). finite.entries
        (finite.from_entries {R = int_cmp}
        (map (λ (e : Piece × List ℕ). let d : ℤ × List ℕ = (e.0.1, e.1) in d)
        (filter (λ (e : Piece × List ℕ). eq_by_cmp bytes_cmp p e.0.0) es)))) (no_entries (List ℕ) piece_cmp)
        ∙ no_entries (List ℕ) int_cmp

pub tables_rows : TablesAreRows
tables_rows c = record {
  meta = refl;
  objects = refl;
  refs = refl;
  outs = refl;
  permanent = refl;
  user_roots = refl;
  profiles = refl;
  generations = refl;
  runtime = refl;
  pieces = refl;
  temp_roots = refl;
  world = refl;
}
