-- What was found of the store's tables, by the schema that was recognised.
use Rattle.std.proofs.Common.{◌≡◌, ◌∙◌, ℕ, List, refl, sym, ap, subst}
use Rattle.std.specs.FinMap as finite
use Rattle.std.proofs.lemmas.Bool.{false≢true}
use Rattle.sqlite.specs.Effect.{Database}
use Rattle.sqlite.specs.State.{State}
use Rattle.tables_schema.specs.Forms.{piece, temp_root}
use Rattle.tables_schema.specs.Presence.{HasNone, IsFree}
use Rattle.tables_schema.specs.declared.recognition.Recognised.{Recognised}
use Rattle.tables_schema.specs.declared.recognition.Recognised.TheVariants.{Nothing, Tables, Other}
use Rattle.tables_sql.specs.Contents.{contents_of, map_of, session_path_cmp, is_session_path, session_path_of}
use Rattle.tables_sql.specs.Texts.{AreReadable}
use Rattle.tables_sql.specs.Calls.{HasFurther, IsStoreDatabase, IsWhole}
use Rattle.tables_sql.proofs.FurtherTables.{if_any_free}
use Rattle.tables_make.proofs.Uncut.{no_pieces}
use Rattle.tables_recognize.specs.Opened.{IsFound, IsReadyBy}
use Rattle.tables_schema.specs.declared.schema.Schema.{Schema}
use Rattle.tables_schema.specs.declared.schema.Schema.TheVariants.{V1, V2, V3}
use Rattle.tables_world.specs.Worlds.{IsSoundBy}
use Rattle.tables.specs.Opening.{HasFurtherOf, HasTablesOf, IsFoundBy, IsNoStore}

-- ---- the further tables, as a schema has them

-- a table whose name is free holds nothing
no_temporary : (db : Database) → IsFree db.schema temp_root.name → (contents_of db).temp_roots ≡ finite.empty
unfolding map_of
no_temporary db free = ap (map_of session_path_cmp is_session_path session_path_of) (if_any_free db temp_root.name free)

first_further : (db : Database) → IsFree db.schema piece.name → IsFree db.schema temp_root.name → HasFurtherOf V1 db
first_further db pieces temporary = record {
  pieces = λ has. absurd (false≢true has);
  no_pieces = λ none. no_pieces db pieces;
  temporary = λ has. absurd (false≢true has);
  no_temporary = λ none. no_temporary db temporary;
}

second_further : (db : Database) → HasFurther db piece → IsFree db.schema temp_root.name → HasFurtherOf V2 db
second_further db pieces temporary = record {
  pieces = λ has. pieces;
  no_pieces = λ none. absurd (false≢true (sym none));
  temporary = λ has. absurd (false≢true has);
  no_temporary = λ none. no_temporary db temporary;
}

third_further : (db : Database) → IsWhole db → HasFurtherOf V3 db
third_further db whole = record {
  pieces = λ _. whole.pieces;
  no_pieces = λ none. absurd (false≢true (sym none));
  temporary = λ _. whole.temp_roots;
  no_temporary = λ none. absurd (false≢true (sym none));
}

-- all eleven are there, as the third schema has them
pub whole_by : (db : Database) → IsStoreDatabase db → HasFurtherOf V3 db → IsWhole db
whole_by db of_store further =
    record { of_store = of_store; pieces = further.pieces refl; temp_roots = further.temporary refl }

-- ---- each schema

-- the schema of tables that were recognised; any, where none were
abbrev schema_of : Recognised → Schema
schema_of (Tables schema) = schema
schema_of _ = V1

module _ (r : Recognised) (s : State) (found : IsFound r s) where
  ready_by : (x : Recognised) → r ≡ x → IsReadyBy x s
  ready_by x is = subst (λ (y : Recognised). IsReadyBy y s) is found.ready

  recognised : (schema : Schema) → HasTablesOf schema s.now.schema → AreReadable (contents_of s.now) → r ≡ Tables schema
  recognised V1 has readable = found.by_schema.first.1 (has, readable)
  recognised V2 has readable = found.by_schema.second.1 (has, readable)
  recognised V3 has readable = found.by_schema.third.1 (has, readable)

  some : (schema : Schema) → r ≡ Tables schema → ¬ HasNone s.now.schema
  some schema is none = absurd (let it : Tables schema ≡ Nothing = sym is ∙ found.by_schema.nothing.1 none in cc)

  -- by a schema, and by no other
  found_by : (schema : Schema) → r ≡ Tables schema → HasTablesOf schema s.now.schema → AreReadable (contents_of s.now)
      → HasFurtherOf schema s.now → IsFoundBy schema s.now
  found_by schema is has readable further = record {
    tables = has;
    only = λ other it. ap schema_of (sym (recognised other it readable) ∙ is);
    some = some schema is;
    readable = readable;
    further = further;
  }

  pub first_found : r ≡ Tables V1 → IsFoundBy V1 s.now
  first_found is = let it = found.by_schema.first.0 is in found_by V1 is it.0 it.1 (first_further s.now it.0.1 it.0.2)

  pub second_found : r ≡ Tables V2 → IsFoundBy V2 s.now
  second_found is = let it =
      found.by_schema.second.0 is in found_by V2 is it.0 it.1 (second_further s.now (ready_by (Tables V2) is).1 it.0.2)

  pub third_found : r ≡ Tables V3 → IsFoundBy V3 s.now
  third_found is = let it =
      found.by_schema.third.0 is in found_by V3 is it.0 it.1 (third_further s.now (ready_by (Tables V3) is).1)

  pub is_none : r ≡ Nothing → HasNone s.now.schema
  is_none is = found.by_schema.nothing.0 is

  -- where it is anything else, there is no store and not nothing
  pub is_other : r ≡ Other → IsNoStore s.now
  is_other is = (
    λ none. absurd (let it : Other ≡ Nothing = sym is ∙ found.by_schema.nothing.1 none in cc),
    λ d holds. no holds.0 (sym is ∙ recognised holds.0 holds.1.tables holds.1.readable),
  )
    where
      no : (schema : Schema) → Other ≡ Tables schema → ⊥
      no schema it = absurd (let same : Other ≡ Tables schema = it in cc)

-- ---- a schema by which the rows aren't sound

pub unsound : (schema : Schema) (db : Database) → IsFoundBy schema db
    → ((dir : List ℕ) → ¬ IsSoundBy schema dir (contents_of db)) → IsNoStore db
unsound schema db found none = (
  found.some,
  λ d holds. none d
      (subst (λ (x : Schema). IsSoundBy x d (contents_of db)) (found.only holds.0 holds.1.tables) holds.1.sound),
)
