-- What sound rows of each schema have.
use Rattle.std.proofs.Common.{◌≡◌, ℕ, ◌+◌, ◌≤◌, ◌||◌, List, [], ◌∷◌, map, Bool, true, false, Some, None, Option, refl}
use Rattle.std.proofs.Common.{sym, ap, ◌∙◌, arith, IsTrue}
use Rattle.std.specs.Prelude.{ℤ, pos, codes, is_some, nat_le}
use Rattle.std.specs.List.{list_any}
use Rattle.std.specs.Ordering.{eq_by_cmp, int_cmp}
use Rattle.std.specs.Cmp.{Equal-is}
use Rattle.std.specs.Cmp.Lexicographic.{nat_list_cmp_total}
use Rattle.std.specs.FinMap as finite
use Rattle.std.proofs.lemmas.Bool.{false≢true, and_parts, leb-true}
use Rattle.tables_sql.specs.Contents.{Stored}
use Rattle.tables_world.specs.Pieces.{GoOn}
use Rattle.tables_world.specs.Rows.{Rows, settings, pieces_in, IsSoundRows}
use Rattle.tables_schema.specs.declared.schema.Schema.{Schema}
use Rattle.tables_schema.specs.declared.schema.Schema.TheVariants.{V1, V2, V3}
use Rattle.tables_schema.specs.Schemas.{schema_text, has_pieces}
use Rattle.laws.specs.Schemas.{NamesSchema, SchemasDiffer, PiecesCountFromOne, SessionsKeepInBounds}
use Rattle.tables_world.proofs.Columns.{piece_at}
use Rattle.tables_world.proofs.SoundParts.{sound_by_parts}

-- ---- the settings

schema_set : (schema : Schema) (dir : List ℕ)
    → finite.get (settings schema dir) (codes "schema") ≡ Some (schema_text schema)
schema_set schema dir =
    finite.get-insert nat_list_cmp_total (finite.insert finite.empty (codes "schema") (schema_text schema))
    (codes "store-dir") dir (codes "schema")
    ∙ finite.get-insert nat_list_cmp_total finite.empty (codes "schema") (schema_text schema) (codes "schema")

directory_set : (schema : Schema) (dir : List ℕ) → finite.get (settings schema dir) (codes "store-dir") ≡ Some dir
directory_set schema dir =
    finite.get-insert nat_list_cmp_total (finite.insert finite.empty (codes "schema") (schema_text schema))
    (codes "store-dir") dir (codes "store-dir")

pub names : (schema : Schema) (dir : List ℕ) (c : Rows) → IsSoundRows schema dir c
    → NamesSchema (schema_text schema) dir c
names schema dir c sound = record {
  schema = ap (λ m. finite.get m (codes "schema")) sound.settings_are ∙ schema_set schema dir;
  directory = ap (λ m. finite.get m (codes "store-dir")) sound.settings_are ∙ directory_set schema dir;
}

pub schemas_differ : (dir : List ℕ) (c : Rows) → SchemasDiffer dir c
schemas_differ dir c = record {
  first = λ sound. (names V1 dir c sound, sound.no_pieces refl, sound.no_temporary refl);
  second = λ sound. (names V2 dir c sound, sound.no_temporary refl);
  third = λ sound. names V3 dir c sound;
}

-- ---- pieces

numbered : (part : List ℕ) (k : ℕ) (ps : List (ℤ × List ℕ)) → 1 ≤ k → GoOn part k ps → (n : ℤ)
    → IsTrue (list_any (eq_by_cmp int_cmp n) (map (λ (e : ℤ × List ℕ). e.0) ps)) → (m : ℕ) × (n ≡ pos m) × (1 ≤ m)
numbered part k [] low g n h = absurd (false≢true h)
numbered part k (e ∷ ps) low g n h =
    by (eq_by_cmp int_cmp n e.0) refl h (λ later. numbered e.1 (k + 1) ps (omega arith) g.3 n later)
  where
    by : (b : Bool) → eq_by_cmp int_cmp n e.0 ≡ b
        → IsTrue (b || list_any (eq_by_cmp int_cmp n) (map (λ (x : ℤ × List ℕ). x.0) ps))
        → (IsTrue (list_any (eq_by_cmp int_cmp n) (map (λ (x : ℤ × List ℕ). x.0) ps)) → (m : ℕ) × (n ≡ pos m) × (1 ≤ m))
        → (m : ℕ) × (n ≡ pos m) × (1 ≤ m)
    by true t h later = (k, finite.int_cmp-IsAntisymmetric n e.0 ((Equal-is (int_cmp n e.0)).0 t) ∙ g.1, low)
    by false t h later = later h

pub pieces_count_from_one : PiecesCountFromOne
pieces_count_from_one schema dir c sound p n h =
    by (finite.get c.objects p) refl (sound.pieces p n h) (has_pieces schema) refl
  where
    by : (o : Option Stored) → finite.get c.objects p ≡ o → IsTrue (is_some o) → (b : Bool) → has_pieces schema ≡ b
        → (m : ℕ) × (n ≡ pos m) × (1 ≤ m)
    by None e present b f = absurd (false≢true present)
    by (Some o) e present true f =
        numbered o.nar 1 (finite.entries (pieces_in c p)) (omega arith) (sound.cut f p o e) n
        (sym (finite.contains_key-keys (pieces_in c p) n) ∙ ap is_some (piece_at c p n) ∙ h)
    by (Some o) e present false f =
        absurd (false≢true (sym (ap is_some
        (ap (λ m. finite.get m (p, n)) (sound.no_pieces f) ∙ finite.get-empty _ (p, n))) ∙ h))

-- ---- sessions

pub sessions_keep_in_bounds : SessionsKeepInBounds
sessions_keep_in_bounds schema dir c sound k h =
    let x = ((sound_by_parts schema dir c).0 sound).sessions k h in
    let both = and_parts (nat_le 1 x.number) (nat_le x.number 4194304) x.session in
    record {
      owner = x.owner;
      number = x.number;
      is_number = x.is_number;
      lowest = leb-true 1 x.number both.0;
      highest = leb-true x.number 4194304 both.1;
      target = x.target;
    }
