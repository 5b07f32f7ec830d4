-- What the store's tables hold after a write to one of them.
use Rattle.std.proofs.Common.{◌≡◌, ℤ, List, Bool, true, false, if◌then◌else◌, refl, ap, ◌∙◌, bytes_eq}
use Rattle.std.proofs.lemmas.Slice.Eq.{bytes_eq-Decides}
use Rattle.std.specs.FinMap as finite
use Rattle.sqlite_value.specs.Order.{Row}
use Rattle.sqlite_schema.specs.declared.schema.Table.{Table}
use Rattle.sqlite_schema.specs.Names.{same_name}
use Rattle.sqlite.specs.State.{State}
use Rattle.tables_schema.specs.Forms.{meta, object, refs, outs, permanent, user_root, profile, generation, runtime}
use Rattle.tables_schema.specs.Forms.{piece, temp_root}
use Rattle.tables_schema.specs.Intact.{HasTables, IsIntact, tree_named}
use Rattle.tables_sql.specs.Contents.{Contents, Bytes, rows_named, rows_if_any, Stored, PairSet, contents_of, map_of}
use Rattle.tables_sql.specs.Contents.{texts_cmp, pair_cmp, triple_cmp, is_pair, pair_of, member_of, is_triple}
use Rattle.tables_sql.specs.Contents.{target_of, is_object, object_of, is_profile, profile_of, is_generation}
use Rattle.tables_sql.specs.Contents.{generation_of, numbered_cmp, is_piece, piece_of, session_path_cmp}
use Rattle.tables_sql.specs.Contents.{is_session_path, session_path_of}
use Rattle.tables_sql.proofs.Writes.{SetsRows}
use Rattle.tables_sql.proofs.Places.{own_rows, others_kept, if_any_kept}

-- ---- each of the nine has the rows that it had, but the one that was written

module _ (old new : State) (has : HasTables old.now.schema) (rows : List Row) (a : Table)
    (exists : IsIntact old.now.schema a) (sets : SetsRows old new (tree_named old.now.schema a.name) rows) where
  abbrev after : Table → List Row
  after t = if bytes_eq t.name a.name then rows else rows_named old.now t.name

  has_after : (t : Table) → IsIntact old.now.schema t → rows_named new.now t.name ≡ after t
  has_after t present = go (bytes_eq t.name a.name) refl
    where
      go : (b : Bool) → bytes_eq t.name a.name ≡ b
          → rows_named new.now t.name ≡ (if b then rows else rows_named old.now t.name)
      go true is = ap (rows_named new.now) ((bytes_eq-Decides t.name a.name).0 is) ∙ own_rows a old new rows exists sets
      go false is = others_kept a old new rows exists sets t present is

  -- what the store's tables hold then, by the rows of the further two
  abbrev pub contents_by : List Row → List Row → Contents
  contents_by pieces temp_roots = record {
    meta = map_of texts_cmp is_pair pair_of (after meta);
    objects = map_of texts_cmp is_object object_of (after object);
    refs = map_of pair_cmp is_pair member_of (after refs);
    outs = map_of pair_cmp is_triple target_of (after outs);
    permanent = map_of texts_cmp is_pair pair_of (after permanent);
    user_roots = map_of pair_cmp is_triple target_of (after user_root);
    profiles = map_of pair_cmp is_profile profile_of (after profile);
    generations = map_of triple_cmp is_generation generation_of (after generation);
    runtime = map_of pair_cmp is_pair member_of (after runtime);
    pieces = map_of numbered_cmp is_piece piece_of pieces;
    temp_roots = map_of session_path_cmp is_session_path session_path_of temp_roots;
  }

  pub after_write : (pieces temp_roots : List Row) → rows_if_any new.now piece.name ≡ pieces
      → rows_if_any new.now temp_root.name ≡ temp_roots → contents_of new.now ≡ contents_by pieces temp_roots
  after_write pieces temp_roots has_pieces has_temp_roots = λ i. record {
    meta = map_of texts_cmp is_pair pair_of (has_after meta has.0 i);
    objects = map_of texts_cmp is_object object_of (has_after object has.1.0 i);
    refs = map_of pair_cmp is_pair member_of (has_after refs has.1.1.0 i);
    outs = map_of pair_cmp is_triple target_of (has_after outs has.1.1.1.0 i);
    permanent = map_of texts_cmp is_pair pair_of (has_after permanent has.1.1.1.1.0 i);
    user_roots = map_of pair_cmp is_triple target_of (has_after user_root has.1.1.1.1.1.0 i);
    profiles = map_of pair_cmp is_profile profile_of (has_after profile has.1.1.1.1.1.1.0 i);
    generations = map_of triple_cmp is_generation generation_of (has_after generation has.1.1.1.1.1.1.1.0 i);
    runtime = map_of pair_cmp is_pair member_of (has_after runtime has.1.1.1.1.1.1.1.1.0 i);
    pieces = map_of numbered_cmp is_piece piece_of (has_pieces i);
    temp_roots = map_of session_path_cmp is_session_path session_path_of (has_temp_roots i);
  }

  -- a write to one of them leaves the further tables
  after_one : same_name a.name piece.name ≡ false → same_name a.name temp_root.name ≡ false
      → contents_of new.now ≡ contents_by (rows_if_any old.now piece.name) (rows_if_any old.now temp_root.name)
  after_one pieces temp_roots =
      after_write _ _ (if_any_kept a old new rows exists sets piece.name pieces)
      (if_any_kept a old new rows exists sets temp_root.name temp_roots)

-- ---- what the store's tables hold then

module _ (old new : State) (has : HasTables old.now.schema) (rows : List Row) where
  pub meta_set : SetsRows old new (tree_named old.now.schema meta.name) rows → (m : finite.FinMap texts_cmp Bytes)
      → map_of texts_cmp is_pair pair_of rows ≡ m → contents_of new.now ≡ record (contents_of old.now) { meta = m }
  unfolding same_name
  meta_set sets m is =
      after_one old new has rows meta has.0 sets refl refl ∙ ap (λ x. record (contents_of old.now) { meta = x }) is

  pub object_set : SetsRows old new (tree_named old.now.schema object.name) rows → (m : finite.FinMap texts_cmp Stored)
      → map_of texts_cmp is_object object_of rows ≡ m
      → contents_of new.now ≡ record (contents_of old.now) { objects = m }
  unfolding same_name
  object_set sets m is =
      after_one old new has rows object has.1.0 sets refl refl
      ∙ ap (λ x. record (contents_of old.now) { objects = x }) is

  pub refs_set : SetsRows old new (tree_named old.now.schema refs.name) rows → (m : PairSet)
      → map_of pair_cmp is_pair member_of rows ≡ m → contents_of new.now ≡ record (contents_of old.now) { refs = m }
  unfolding same_name
  refs_set sets m is =
      after_one old new has rows refs has.1.1.0 sets refl refl ∙ ap (λ x. record (contents_of old.now) { refs = x }) is

  pub outs_set : SetsRows old new (tree_named old.now.schema outs.name) rows → (m : finite.FinMap pair_cmp Bytes)
      → map_of pair_cmp is_triple target_of rows ≡ m → contents_of new.now ≡ record (contents_of old.now) { outs = m }
  unfolding same_name
  outs_set sets m is =
      after_one old new has rows outs has.1.1.1.0 sets refl refl
      ∙ ap (λ x. record (contents_of old.now) { outs = x }) is

  pub permanent_set : SetsRows old new (tree_named old.now.schema permanent.name) rows
      → (m : finite.FinMap texts_cmp Bytes) → map_of texts_cmp is_pair pair_of rows ≡ m
      → contents_of new.now ≡ record (contents_of old.now) { permanent = m }
  unfolding same_name
  permanent_set sets m is =
      after_one old new has rows permanent has.1.1.1.1.0 sets refl refl
      ∙ ap (λ x. record (contents_of old.now) { permanent = x }) is

  pub user_root_set : SetsRows old new (tree_named old.now.schema user_root.name) rows
      → (m : finite.FinMap pair_cmp Bytes) → map_of pair_cmp is_triple target_of rows ≡ m
      → contents_of new.now ≡ record (contents_of old.now) { user_roots = m }
  unfolding same_name
  user_root_set sets m is =
      after_one old new has rows user_root has.1.1.1.1.1.0 sets refl refl
      ∙ ap (λ x. record (contents_of old.now) { user_roots = x }) is

  pub profile_set : SetsRows old new (tree_named old.now.schema profile.name) rows → (m : finite.FinMap pair_cmp ℤ)
      → map_of pair_cmp is_profile profile_of rows ≡ m
      → contents_of new.now ≡ record (contents_of old.now) { profiles = m }
  unfolding same_name
  profile_set sets m is =
      after_one old new has rows profile has.1.1.1.1.1.1.0 sets refl refl
      ∙ ap (λ x. record (contents_of old.now) { profiles = x }) is

  pub generation_set : SetsRows old new (tree_named old.now.schema generation.name) rows
      → (m : finite.FinMap triple_cmp Bytes) → map_of triple_cmp is_generation generation_of rows ≡ m
      → contents_of new.now ≡ record (contents_of old.now) { generations = m }
  unfolding same_name
  generation_set sets m is =
      after_one old new has rows generation has.1.1.1.1.1.1.1.0 sets refl refl
      ∙ ap (λ x. record (contents_of old.now) { generations = x }) is

  pub runtime_set : SetsRows old new (tree_named old.now.schema runtime.name) rows → (m : PairSet)
      → map_of pair_cmp is_pair member_of rows ≡ m → contents_of new.now ≡ record (contents_of old.now) { runtime = m }
  unfolding same_name
  runtime_set sets m is =
      after_one old new has rows runtime has.1.1.1.1.1.1.1.1.0 sets refl refl
      ∙ ap (λ x. record (contents_of old.now) { runtime = x }) is
