-- The text of each table of the store asks for the rowids and the texts of its rows.
use Rattle.std.proofs.Common.{ℕ, ◌+◌, [], ◌∷◌, arith, below_none, below_more}
use Rattle.sqlite_value.specs.Order.{Row, column}
use Rattle.tables_schema.specs.Forms.{meta, object, refs, outs, permanent, user_root, profile, generation, runtime}
use Rattle.tables_schema.specs.Forms.{piece, temp_root}
use Rattle.tables_sql.specs.Texts.{IsReadable, IsReadableRow}
use Rattle.tables_sql.proofs.Truths.{and_so}
use Rattle.tables_rows.proofs.SettingLemmas as settings
use Rattle.tables_rows.proofs.ListingLemmas as listing
use Rattle.tables_rows.proofs.ReferenceLemmas as references
use Rattle.tables_rows.proofs.OutputLemmas as outputs
use Rattle.tables_rows.proofs.PermanentRootLemmas as permanent_roots
use Rattle.tables_rows.proofs.UserRootLemmas as user_roots
use Rattle.tables_rows.proofs.ProfileLemmas as profiles
use Rattle.tables_rows.proofs.GenerationLemmas as generations
use Rattle.tables_rows.proofs.RuntimeRootLemmas as runtime_roots
use Rattle.tables_rows.proofs.PieceKeyLemmas as piece_keys
use Rattle.tables_rows.proofs.TempRootLemmas as temp_roots
use Rattle.tables_sql.proofs.Typed.{objects_typed, pieces_typed}
use Rattle.tables_sql.proofs.ReadableValues.{blob_readable}
use Rattle.tables_schema.specs.declared.store_table.StoreTable.{StoreTable}
use Rattle.tables_schema.specs.declared.store_table.StoreTable.TheVariants.{Meta, Object, Refs, Outs, Permanent}
use Rattle.tables_schema.specs.declared.store_table.StoreTable.TheVariants.{UserRoot, Profile, Generation, Runtime}
use Rattle.tables_schema.specs.declared.store_table.StoreTable.TheVariants.{Piece, TempRoot}
use Rattle.tables_schema.specs.StoreTables.{form}
use Rattle.tables_recognize.specs.Tables.{rows_text}
use Rattle.tables_recognize.proofs.ReadableRows.{AreOfUtf8, all_cells}
use Rattle.tables_recognize.proofs.StoreRows.{our_rows}
use Rattle.tables_recognize.proofs.Tested.{IsTest, test_by}

-- ---- the objects, whose archives are not shown: they are no texts

abbrev shown_of : Row → Row
shown_of r = column r 1 ∷ column r 3 ∷ column r 4 ∷ column r 5 ∷ []

all_columns : (r : Row) → IsReadable (column r 2) → IsReadableRow (shown_of r) → AreOfUtf8 5 r
all_columns r second h =
    let P = λ (at : ℕ). IsReadable (column r (at + 1)) in
    below_more P 4 (below_more P 3
    (below_more P 2 (below_more P 1 (below_more P 0 (below_none P) (h 0 (omega arith))) second)
    (h 1 (omega arith))) (h 2 (omega arith))) (h 3 (omega arith))

shown_columns : (r : Row) → AreOfUtf8 5 r → IsReadableRow (shown_of r)
shown_columns r h =
    let P = λ (at : ℕ). IsReadable (column (shown_of r) at) in
    below_more P 3 (below_more P 2
    (below_more P 1 (below_more P 0 (below_none P) (h 0 (omega arith))) (h 2 (omega arith))) (h 3 (omega arith)))
    (h 4 (omega arith))

-- ---- the pieces, whose bytes are not shown

abbrev key_of : Row → Row
key_of r = column r 1 ∷ column r 2 ∷ []

whole_piece : (r : Row) → IsReadable (column r 3) → IsReadableRow (key_of r) → AreOfUtf8 3 r
whole_piece r third h = let P =
    λ (at : ℕ). IsReadable (column r (at + 1)) in
    below_more P 2 (below_more P 1 (below_more P 0 (below_none P) (h 0 (omega arith))) (h 1 (omega arith))) third

key_columns : (r : Row) → AreOfUtf8 3 r → IsReadableRow (key_of r)
key_columns r h = let P =
    λ (at : ℕ). IsReadable (column (key_of r) at) in
    below_more P 1 (below_more P 0 (below_none P) (h 0 (omega arith))) (h 1 (omega arith))

-- ---- each table

pub test_of : (t : StoreTable) → IsTest (form t) (rows_text t)
test_of Meta =
    test_by meta.name meta.columns meta.primary settings.places (our_rows Meta)
    (λ db sound exists r present. all_cells 2 r)
test_of Object = test_by object.name object.columns object.primary listing.places (our_rows Object)
    (λ db sound exists r present. (
      all_columns r
          (blob_readable (column r 2) (and_so _ _
          (and_so _ _ (and_so _ _ (and_so _ _ (objects_typed db sound exists r present)).0).0).0).1),
      shown_columns r,
    ))
test_of Refs =
    test_by refs.name refs.columns refs.primary references.places (our_rows Refs)
    (λ db sound exists r present. all_cells 2 r)
test_of Outs =
    test_by outs.name outs.columns outs.primary outputs.places (our_rows Outs)
    (λ db sound exists r present. all_cells 3 r)
test_of Permanent =
    test_by permanent.name permanent.columns permanent.primary permanent_roots.places (our_rows Permanent)
    (λ db sound exists r present. all_cells 2 r)
test_of UserRoot =
    test_by user_root.name user_root.columns user_root.primary user_roots.places (our_rows UserRoot)
    (λ db sound exists r present. all_cells 3 r)
test_of Profile =
    test_by profile.name profile.columns profile.primary profiles.places (our_rows Profile)
    (λ db sound exists r present. all_cells 3 r)
test_of Generation =
    test_by generation.name generation.columns generation.primary generations.places (our_rows Generation)
    (λ db sound exists r present. all_cells 4 r)
test_of Runtime =
    test_by runtime.name runtime.columns runtime.primary runtime_roots.places (our_rows Runtime)
    (λ db sound exists r present. all_cells 2 r)
test_of Piece = test_by piece.name piece.columns piece.primary piece_keys.places (our_rows Piece)
    (λ db sound exists r present. (
      whole_piece r
          (blob_readable (column r 3) (and_so _ _ (pieces_typed db sound exists r present)).1),
      key_columns r,
    ))
test_of TempRoot =
    test_by temp_root.name temp_root.columns temp_root.primary temp_roots.places (our_rows TempRoot)
    (λ db sound exists r present. all_cells 3 r)
