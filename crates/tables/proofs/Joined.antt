-- Sound settings, objects and roots are sound rows, and what they put into an outline is the outline of their world.
use Rattle.std.proofs.Common.{◌≡◌, ℕ, List, Some, None, Option, option_map, is_some, refl, sym, ap, subst, ◌∙◌, IsTrue}
use Rattle.std.proofs.Common.{codes}
use Rattle.std.specs.Prelude.{◌↔◌, MatchOption, Bool, false, IsFalse}
use Rattle.std.specs.FinMap as finite
use Rattle.std.proofs.lemmas.Bool.{false≢true}
use Rattle.std.proofs.lemmas.Option.{same_Some}
use Rattle.paths.specs.Names.{is_store_dir}
use Rattle.tables_sql.specs.Contents.{Contents, Stored}
use Rattle.model.specs.World.{Path, Object, no_world}
use Rattle.tables_world.specs.Rows.{settings, object_in}
use Rattle.tables_schema.specs.declared.schema.Schema.{Schema}
use Rattle.tables_schema.specs.Schemas.{schema_text, has_pieces, has_temporary}
use Rattle.tables_world.specs.Parts.{AreSoundParts}
use Rattle.tables_world.specs.Worlds.{rows_of, world_in, IsSoundBy}
use Rattle.tables_world.proofs.Columns.{object_at}
use Rattle.tables_world.proofs.SoundParts.{sound_by_parts}
use Rattle.tables_outline.specs.Outline.{OutlineValue, outlined, outline_of}
use Rattle.tables_outline.proofs.Orders.{bytes_total, bytes_antisymmetric}
use Rattle.tables_outline.proofs.Reported.{has-reported}
use Rattle.tables_load_objects.specs.Loaded.{AreSoundInPieces}
use Rattle.tables_load_roots.specs.Loaded.{Objects, AreAllSound, AreObjects, with_roots}

module _ (schema : Schema) (dir : List ℕ) (c : Contents) where
  parts : IsTrue (is_store_dir dir) → c.meta ≡ settings schema dir
      → (IsFalse (has_pieces schema) → c.pieces ≡ finite.empty)
      → (IsFalse (has_temporary schema) → c.temp_roots ≡ finite.empty)
      → AreSoundInPieces schema dir (rows_of c) → AreAllSound (rows_of c) → AreSoundParts schema dir (rows_of c)
  parts valid are no_pieces no_temporary objects roots = record {
    directory = valid;
    settings_are = are;
    no_pieces = no_pieces;
    no_temporary = no_temporary;
    cut = objects.cut;
    pieces = objects.pieces;
    sessions = roots.sessions;
    objects = objects.objects;
    roots = roots.roots;
  }

  pub sound_from : IsTrue (is_store_dir dir) → c.meta ≡ settings schema dir
      → (IsFalse (has_pieces schema) → c.pieces ≡ finite.empty)
      → (IsFalse (has_temporary schema) → c.temp_roots ≡ finite.empty)
      → AreSoundInPieces schema dir (rows_of c) → AreAllSound (rows_of c) → IsSoundBy schema dir c
  sound_from valid are no_pieces no_temporary objects roots =
      (sound_by_parts schema dir (rows_of c)).1 (parts valid are no_pieces no_temporary objects roots)

  pub objects_of : IsSoundBy schema dir c → AreSoundInPieces schema dir (rows_of c)
  objects_of sound = let it =
      (sound_by_parts schema dir (rows_of c)).0 sound in
      record { objects = it.objects; cut = it.cut; pieces = it.pieces }

  pub roots_of : IsSoundBy schema dir c → AreAllSound (rows_of c)
  roots_of sound = let it =
      (sound_by_parts schema dir (rows_of c)).0 sound in record { roots = it.roots; sessions = it.sessions }

  some_mapped : (p : Path) (g : Option Stored) → is_some (option_map (object_in (rows_of c) p) g) ≡ is_some g
  some_mapped p None = refl
  some_mapped p (Some o) = refl

  -- the objects of the outline are those of the rows
  same_objects : (p : Path) → finite.contains_key (outline_of (world_in c)).objects p ≡ finite.contains_key c.objects p
  same_objects p =
      has-reported bytes_total bytes_antisymmetric (λ _ (o : Object). outlined o) (world_in c).objects p
      ∙ ap is_some (object_at (rows_of c) p) ∙ some_mapped p (finite.get c.objects p)

  some_key : (g : Option Stored) → IsTrue (is_some g) → (o : Stored) × (g ≡ Some o)
  some_key None h = absurd (false≢true h)
  some_key (Some o) h = (o, refl)

  pub are_objects : (objects : Objects) → objects ≡ (outline_of (world_in c)).objects
      → AreSoundInPieces schema dir (rows_of c) → AreObjects objects c
  are_objects objects is sound = record {
    same = λ p. ap (λ (m : Objects). finite.contains_key m p) is ∙ same_objects p;
    named = λ p present.
        let o =
        some_key (finite.get c.objects p)
        (sym (ap (λ (m : Objects). finite.contains_key m p) is ∙ same_objects p) ∙ present) in
        (sound.objects.objects p o.0 o.1).path;
  }

-- an outline with all objects and all roots of the rows
pub whole_outline : (c : Contents) (o : OutlineValue)
    → o ≡ record (outline_of no_world) { objects = (outline_of (world_in c)).objects }
    → with_roots o c ≡ outline_of (world_in c)
whole_outline c o is = ap (λ (x : OutlineValue). with_roots x c) is

-- ---- what each test says of all rows

at_dir : (schema : Schema) (d : List ℕ) → finite.get (settings schema d) (codes "store-dir") ≡ Some d
at_dir schema d =
    finite.get-insert bytes_total (finite.insert finite.empty (codes "schema") (schema_text schema)) (codes "store-dir")
    d (codes "store-dir")

-- settings are those of one directory
same_dir : (schema : Schema) (a b : List ℕ) → settings schema a ≡ settings schema b → a ≡ b
same_dir schema a b is =
    same_Some a b (sym (at_dir schema a) ∙ ap (λ m. finite.get m (codes "store-dir")) is ∙ at_dir schema b)

-- an option that is this
pub none_reported : {A : Type 0} (P : Type 0) (Q : A → Type 0) (o : Option A) → o ≡ None → MatchOption o P Q → P
none_reported P Q None is h = h
none_reported P Q (Some x) is h = absurd (false≢true (sym (ap is_some is)))

pub some_reported : {A : Type 0} (P : Type 0) (Q : A → Type 0) (o : Option A) (d : A) → o ≡ Some d → MatchOption o P Q
    → Q d
some_reported P Q None d is h = absurd (false≢true (ap is_some is))
some_reported P Q (Some x) d is h = subst Q (same_Some x d is) h

-- settings that were found
pub named_dir : (schema : Schema) (c : Contents) (o : Option (List ℕ)) (d : List ℕ) → o ≡ Some d
    → MatchOption o ((dir : List ℕ) → IsTrue (is_store_dir dir) → ¬ (c.meta ≡ settings schema dir))
    (λ e. IsTrue (is_store_dir e) × (c.meta ≡ settings schema e))
    → IsTrue (is_store_dir d) × (c.meta ≡ settings schema d)
named_dir schema c o d is h =
    some_reported ((dir : List ℕ) → IsTrue (is_store_dir dir) → ¬ (c.meta ≡ settings schema dir))
    (λ e. IsTrue (is_store_dir e) × (c.meta ≡ settings schema e)) o d is h

module _ (schema : Schema) (c : Contents) (d : List ℕ) (are : c.meta ≡ settings schema d) where
  pub only : (dir : List ℕ) → IsSoundBy schema dir c → IsSoundBy schema d c
  only dir sound =
      subst (λ (x : List ℕ). IsSoundBy schema x c) (same_dir schema dir d (sym sound.settings_are ∙ are)) sound

  pub without_objects : (b : Bool) → (IsTrue b ↔ AreSoundInPieces schema d (rows_of c)) → b ≡ false → (dir : List ℕ)
      → ¬ IsSoundBy schema dir c
  without_objects b reported failed dir sound =
      false≢true (sym failed ∙ reported.1 (objects_of schema d c (only dir sound)))

  pub without_roots : (b : Bool) → (IsTrue b ↔ AreAllSound (rows_of c)) → b ≡ false → (dir : List ℕ)
      → ¬ IsSoundBy schema dir c
  without_roots b reported failed dir sound =
      false≢true (sym failed ∙ reported.1 (roots_of schema d c (only dir sound)))
