use Rattle.std.proofs.Common.{◌≡◌, ◌≤◌, ◌<◌, List, [], ◌∷◌, length, get_or, map, Bool, true, false, not, codes, refl}
use Rattle.std.proofs.Common.{sym, ap, ◌∙◌, arith, string_bytes}
use Rattle.std.specs.Cmp.Lexicographic.{same_text}
use Rattle.std.proofs.lemmas.Bool.{false≢true}
use Rattle.paths.specs.Names.{is_store_dir}
use Rattle.tables_rows.specs.Entries.{setting_of}
use Rattle.tables_schema.specs.Schemas.{schema_text}
use Rattle.tables_recognize.proofs.settings.directory_of.Goals as goal

two_items : {A : Type 0} (xs : List A) (a b : A) → 2 ≤ length xs → length xs < 3 → a ≡ get_or xs 0 a → b ≡ get_or xs 1 b
    → xs ≡ a ∷ b ∷ []
two_items [] a b low high f g = absurd (omega (arith, low))
two_items (x ∷ []) a b low high f g = absurd (omega (arith, low))
two_items (x ∷ y ∷ []) a b low high f g = λ i. sym f i ∷ sym g i ∷ []
two_items (x ∷ y ∷ z ∷ zs) a b low high f g = absurd (omega (arith, high))

same_not : (b : Bool) → false ≡ not b → true ≡ b
same_not true e = refl
same_not false e = absurd (false≢true e)

pub returns-in-Ok : goal.returns-in-Ok
returns-in-Ok c =
    let schema_word : string_bytes c.form-item.result.word ≡ codes "schema" =
    sym c.as_str.ensures.value ∙ same_text c.as_str.result.now (codes "schema") (same_not _ c.if-ne.ensures) in
    let schema_value : string_bytes c.form-item.result.value ≡ schema_text c.args.schema =
    sym c.as_str-else-ne.ensures.value
    ∙ same_text c.as_str-else-ne.result.now c.text.result.now
    (same_not _ (sym c.if-ne-2.false ∙ c.ne-else-ne.ensures)) ∙ c.text.ensures in
    let place_word : string_bytes c.place-item.result.word ≡ codes "store-dir" =
    sym c.as_str-2.ensures.value ∙ same_text c.as_str-2.result.now (codes "store-dir")
    (same_not _ (sym c.if-ne-3.false ∙ c.ne-2.ensures)) in
    let place_value : string_bytes c.place-item.result.value ≡ c.in-Ok.dir =
    sym c.as_str-3.ensures.value ∙ sym c.in-Ok.ensures.ok.0 in (
      ap is_store_dir c.in-Ok.ensures.ok.0 ∙ c.in-Ok.ensures.ok.1,
      ap (map setting_of) (two_items c.args.all.now c.form-item.result c.place-item.result c.in-len2.len_at_least
          c.in-len2.len_below c.form-item.is c.place-item.is)
          ∙ (λ i. (schema_word i, schema_value i) ∷ (place_word i, place_value i) ∷ []),
    )
