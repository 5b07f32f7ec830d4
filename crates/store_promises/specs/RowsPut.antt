-- The rows that each request puts.
use Rattle.std.specs.Prelude.{ℕ, List}
use Rattle.std.specs.List.{filter}
use Rattle.std.specs.FinMap as finite
use Rattle.paths.specs.Root.{set_of}
use Rattle.model.specs.World.{Path, Pair, pair_cmp}
use Rattle.model.specs.Adds.{Added, added_text, added_source, added_import}
use Rattle.model.specs.Request.{Request, add_text, add_source, import_object, set_permanent, set_user_root}
use Rattle.model.specs.Request.{set_profile, rollback, switch, replace_runtime, add_temp}
use Rattle.tables_outline.specs.Outline.{OutlineValue, outlined}
use Rattle.tables_writes.specs.Reasons.{Rows, NoRow, RowsOf}
use Rattle.tables_writes.specs.RowsPut.{PermanentRow, UserRootRow, RuntimeRow, TemporaryRow, ProfileRow, GenerationRows}
use Rattle.tables_writes.specs.RowsPut.{AddedRows}

-- an object, with its references, its outputs and the pieces of its archive
abbrev pub ObjectRowsPut : Added → Rows
ObjectRowsPut a = AddedRows a.path a.object.nar (outlined a.object)

-- a profile with some current number
abbrev pub AnyProfileRow : Pair → Rows
AnyProfileRow owned = record { count = 1; has = λ t row. (current : ℕ) × (ProfileRow owned current).has t row }

-- a profile, and a path at some number of it
abbrev pub AnyGenerationRows : Pair → Path → Rows
AnyGenerationRows owned target = record {
  count = 2;
  has = λ t row. (n : ℕ) × (current : ℕ) × (GenerationRows owned n target current).has t row;
}

-- the runtime roots whose targets are valid, each once
abbrev pub RuntimeRows : OutlineValue → List Pair → Rows
RuntimeRows o pairs =
    RowsOf RuntimeRow (finite.keys (set_of pair_cmp (filter (λ p. finite.contains_key o.objects p.1) pairs)))

-- What a request puts, in a store of this directory with this outline: by default nothing, the stricter side, since
-- then no row explains a failure.
abbrev pub rows_put : List ℕ → OutlineValue → Request → Rows
rows_put dir o (add_text name refs contents) = ObjectRowsPut (added_text dir name refs contents)
rows_put dir o (add_source name refs b) = ObjectRowsPut (added_source dir name refs b)
rows_put dir o (import_object i) = ObjectRowsPut (added_import dir i)
rows_put dir o (set_permanent name p) = PermanentRow name p
rows_put dir o (set_user_root owner name p) = UserRootRow (owner, name) p
rows_put dir o (set_profile owner name p) = AnyGenerationRows (owner, name) p
rows_put dir o (rollback owner name) = AnyProfileRow (owner, name)
rows_put dir o (switch owner name n) = ProfileRow (owner, name) n
rows_put dir o (replace_runtime pairs) = RuntimeRows o pairs
rows_put dir o (add_temp owner session p) = TemporaryRow (record { owner = owner; session = session; path = p })
rows_put dir o _ = NoRow
