-- The settings of a database, as their rows list them.
use Rattle.std.proofs.Common.{◌≡◌, ℕ, List, [], ◌∷◌, length, None, Some, Option, codes, refl, sym, ap, ◌∙◌, IsTrue}
use Rattle.std.proofs.Common.{arith}
use Rattle.std.specs.Prelude.{MatchOption}
use Rattle.std.specs.FinMap as finite
use Rattle.paths.specs.Names.{is_store_dir}
use Rattle.paths.specs.Root.{bytes_cmp}
use Rattle.tables_world.specs.Rows.{settings}
use Rattle.tables_schema.specs.declared.schema.Schema.{Schema}
use Rattle.tables_schema.specs.Schemas.{schema_text}
use Rattle.std.specs.FinMap.Entries.{put}
use Rattle.std.specs.Cmp.Lexicographic.{nat_list_cmp_total as bytes_total}
use Rattle.tables_recognize.specs.Settings.{two_settings}

none_of : {A : Type 0} (xs : List A) → length xs ≡ 0 → xs ≡ []
none_of [] e = refl
none_of (x ∷ xs) e = absurd (omega (arith, e))

entries-empty : finite.entries (finite.empty {X = List ℕ} {R = bytes_cmp}) ≡ []
entries-empty = none_of _ (sym (finite.len-entries finite.empty) ∙ finite.len-empty bytes_cmp (List ℕ))

settings_listed : (schema : Schema) (dir : List ℕ) → finite.entries (settings schema dir) ≡ two_settings schema dir
settings_listed schema dir =
    finite.entries-insert bytes_total (finite.insert finite.empty (codes "schema") (schema_text schema))
    (codes "store-dir") dir
    ∙ ap (put bytes_cmp (codes "store-dir") dir)
    (finite.entries-insert bytes_total finite.empty (codes "schema") (schema_text schema)
    ∙ ap (put bytes_cmp (codes "schema") (schema_text schema)) entries-empty)

module _ (schema : Schema) (m : finite.FinMap bytes_cmp (List ℕ)) (xs : List (List ℕ × List ℕ))
    (is : xs ≡ finite.entries m) where
  -- what is true of the list is true of the map
  pub settings_reported : (o : Option (List ℕ))
      → MatchOption o ((dir : List ℕ) → IsTrue (is_store_dir dir) → ¬ (xs ≡ two_settings schema dir))
      (λ d. IsTrue (is_store_dir d) × (xs ≡ two_settings schema d))
      → MatchOption o ((dir : List ℕ) → IsTrue (is_store_dir dir) → ¬ (m ≡ settings schema dir))
      (λ d. IsTrue (is_store_dir d) × (m ≡ settings schema d))
  settings_reported None h = λ dir valid e. h dir valid (is ∙ ap finite.entries e ∙ settings_listed schema dir)
  settings_reported (Some d) h =
      (h.0, finite.same_entries_map m (settings schema d) (sym is ∙ h.1 ∙ sym (settings_listed schema d)))
