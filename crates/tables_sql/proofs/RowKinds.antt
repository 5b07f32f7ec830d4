-- The rows of each of the nine tables are of its kind, no two have one key or one rowid, and each text in them is
-- UTF-8.
use Rattle.sqlite_value.specs.Order.{column, bytes}
use Rattle.sqlite.specs.Effect.{Database}
use Rattle.tables_schema.specs.Forms.{meta, object, refs, outs, permanent, user_root, profile, generation, runtime}
use Rattle.tables_sql.specs.Contents.{is_pair, pair_of, is_triple, is_profile, is_generation, generation_of, is_object}
use Rattle.tables_sql.specs.Contents.{rows_named}
use Rattle.tables_sql.specs.Texts.{HasReadableRows}
use Rattle.tables_sql.specs.Calls.{IsStoreDatabase}
use Rattle.tables_sql.proofs.ReadableMaps as maps
use Rattle.tables_sql.proofs.Rising.{AreKept}

module _ (db : Database) (of_store : IsStoreDatabase db) where
  pub meta_kept : AreKept is_pair (λ r. bytes (column r 1)) 2 (rows_named db meta.name)
  unfolding HasReadableRows
  meta_kept =
      record {
        typed = maps.meta_typed db of_store.sound of_store.has of_store.keyed;
        once = maps.meta_once db of_store.sound of_store.has of_store.keyed;
        distinct_rowids = of_store.keyed.0.distinct_rowids;
        readable = of_store.readable.0;
      }

  pub object_kept : AreKept is_object (λ r. bytes (column r 1)) 5 (rows_named db object.name)
  unfolding HasReadableRows
  object_kept =
      record {
        typed = maps.object_typed db of_store.sound of_store.has of_store.keyed;
        once = maps.object_once db of_store.sound of_store.has of_store.keyed;
        distinct_rowids = of_store.keyed.1.0.distinct_rowids;
        readable = of_store.readable.1.0;
      }

  pub refs_kept : AreKept is_pair pair_of 2 (rows_named db refs.name)
  unfolding HasReadableRows
  refs_kept =
      record {
        typed = maps.refs_typed db of_store.sound of_store.has of_store.keyed;
        once = maps.refs_once db of_store.sound of_store.has of_store.keyed;
        distinct_rowids = of_store.keyed.1.1.0.distinct_rowids;
        readable = of_store.readable.1.1.0;
      }

  pub outs_kept : AreKept is_triple pair_of 3 (rows_named db outs.name)
  unfolding HasReadableRows
  outs_kept =
      record {
        typed = maps.outs_typed db of_store.sound of_store.has of_store.keyed;
        once = maps.outs_once db of_store.sound of_store.has of_store.keyed;
        distinct_rowids = of_store.keyed.1.1.1.0.distinct_rowids;
        readable = of_store.readable.1.1.1.0;
      }

  pub permanent_kept : AreKept is_pair (λ r. bytes (column r 1)) 2 (rows_named db permanent.name)
  unfolding HasReadableRows
  permanent_kept =
      record {
        typed = maps.permanent_typed db of_store.sound of_store.has of_store.keyed;
        once = maps.permanent_once db of_store.sound of_store.has of_store.keyed;
        distinct_rowids = of_store.keyed.1.1.1.1.0.distinct_rowids;
        readable = of_store.readable.1.1.1.1.0;
      }

  pub user_root_kept : AreKept is_triple pair_of 3 (rows_named db user_root.name)
  unfolding HasReadableRows
  user_root_kept =
      record {
        typed = maps.user_root_typed db of_store.sound of_store.has of_store.keyed;
        once = maps.user_root_once db of_store.sound of_store.has of_store.keyed;
        distinct_rowids = of_store.keyed.1.1.1.1.1.0.distinct_rowids;
        readable = of_store.readable.1.1.1.1.1.0;
      }

  pub profile_kept : AreKept is_profile pair_of 3 (rows_named db profile.name)
  unfolding HasReadableRows
  profile_kept =
      record {
        typed = maps.profile_typed db of_store.sound of_store.has of_store.keyed;
        once = maps.profile_once db of_store.sound of_store.has of_store.keyed;
        distinct_rowids = of_store.keyed.1.1.1.1.1.1.0.distinct_rowids;
        readable = of_store.readable.1.1.1.1.1.1.0;
      }

  pub generation_kept : AreKept is_generation (λ r. (generation_of r).0) 4 (rows_named db generation.name)
  unfolding HasReadableRows
  generation_kept =
      record {
        typed = maps.generation_typed db of_store.sound of_store.has of_store.keyed;
        once = maps.generation_once db of_store.sound of_store.has of_store.keyed;
        distinct_rowids = of_store.keyed.1.1.1.1.1.1.1.0.distinct_rowids;
        readable = of_store.readable.1.1.1.1.1.1.1.0;
      }

  pub runtime_kept : AreKept is_pair pair_of 2 (rows_named db runtime.name)
  unfolding HasReadableRows
  runtime_kept =
      record {
        typed = maps.runtime_typed db of_store.sound of_store.has of_store.keyed;
        once = maps.runtime_once db of_store.sound of_store.has of_store.keyed;
        distinct_rowids = of_store.keyed.1.1.1.1.1.1.1.1.0.distinct_rowids;
        readable = of_store.readable.1.1.1.1.1.1.1.1.0;
      }
