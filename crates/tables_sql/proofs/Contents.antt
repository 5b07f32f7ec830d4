-- Tables hold the same where each has the same rows.
use Rattle.std.proofs.Common.{◌≡◌, List}
use Rattle.std.specs.List.{AllByRecursion}
use Rattle.sqlite_value.specs.Order.{Row}
use Rattle.tables_schema.specs.Forms.{store_tables}
use Rattle.tables_sql.specs.Contents.{Bytes, contents_with, map_of, texts_cmp, pair_cmp, triple_cmp, numbered_cmp}
use Rattle.tables_sql.specs.Contents.{session_path_cmp, is_pair, pair_of, is_object, object_of, member_of, is_triple}
use Rattle.tables_sql.specs.Contents.{target_of, is_profile, profile_of, is_generation, generation_of, is_piece}
use Rattle.tables_sql.specs.Contents.{piece_of, is_session_path, session_path_of}

pub contents_alike : (f g : Bytes → List Row) (p q t u : List Row)
    → AllByRecursion (λ x. f x.name ≡ g x.name) store_tables → p ≡ q → t ≡ u → contents_with f p t ≡ contents_with g q u
contents_alike f g p q t u same pieces temp_roots = λ i. record {
  meta = map_of texts_cmp is_pair pair_of (same.0 i);
  objects = map_of texts_cmp is_object object_of (same.1.0 i);
  refs = map_of pair_cmp is_pair member_of (same.1.1.0 i);
  outs = map_of pair_cmp is_triple target_of (same.1.1.1.0 i);
  permanent = map_of texts_cmp is_pair pair_of (same.1.1.1.1.0 i);
  user_roots = map_of pair_cmp is_triple target_of (same.1.1.1.1.1.0 i);
  profiles = map_of pair_cmp is_profile profile_of (same.1.1.1.1.1.1.0 i);
  generations = map_of triple_cmp is_generation generation_of (same.1.1.1.1.1.1.1.0 i);
  runtime = map_of pair_cmp is_pair member_of (same.1.1.1.1.1.1.1.1.0 i);
  pieces = map_of numbered_cmp is_piece piece_of (pieces i);
  temp_roots = map_of session_path_cmp is_session_path session_path_of (temp_roots i);
}
