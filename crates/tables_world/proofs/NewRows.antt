-- The rows of a database that was just made: no table but that of settings has one.
use Rattle.std.proofs.Common.{◌≡◌, ℕ, List, map, refl, sym, ap, subst}
use Rattle.std.specs.Prelude.{IsTrue}
use Rattle.std.specs.declared.cmp.Ordering.{Ordering}
use Rattle.std.specs.FinMap as finite
use Rattle.paths.specs.Names.{is_store_dir}
use Rattle.paths.specs.Root.{bytes_cmp}
use Rattle.tables_sql.specs.Contents.{triple_cmp}
use Rattle.model.specs.World.{Path, pair_cmp, temporary_cmp, Temporary, no_world}
use Rattle.model.specs.Sound.{IsSound}
use Rattle.tables_world.specs.Rows.{piece_cmp, SessionPath, session_path_cmp, new_rows, object_in, profile_in}
use Rattle.tables_world.specs.Rows.{temporary_in, world_of, IsSoundRows}
use Rattle.tables_schema.specs.declared.schema.Schema.{Schema}
use Rattle.model.proofs.Empty.{no_entry, no_key, no_entries}
use Rattle.tables_world.proofs.NewWorld.{new_world_sound}

-- no entry is left of none
none_left : {K X L Y : Type 0} (R : K → K → Ordering) (S : L → L → Ordering) (f : K × X → L × Y)
    → finite.from_entries {R = S} (map f (finite.entries (finite.empty {X = X} {R = R}))) ≡ finite.empty
none_left {K} {X} R S f = ap (λ es. finite.from_entries {R = S} (map f es)) (no_entries X R)

nothing : Unit {0}
nothing = tt

none_kept : finite.from_entries {R = temporary_cmp}
    (map (λ (x : Temporary). (x, nothing))
    (map temporary_in (map (λ (e : SessionPath × Unit {0}). e.0)
    (finite.entries (finite.empty {X = Unit {0}} {R = session_path_cmp})))))
    ≡ finite.empty {X = Unit {0}} {R = temporary_cmp}
none_kept =
    ap (λ (es : List (SessionPath × Unit {0})). finite.from_entries {R = temporary_cmp}
    (map (λ (x : Temporary). (x, nothing)) (map temporary_in (map (λ (e : SessionPath × Unit {0}). e.0) es))))
    (no_entries (Unit {0}) session_path_cmp)

pub reports_nothing : (schema : Schema) (dir : List ℕ) → world_of (new_rows schema dir) ≡ no_world
reports_nothing schema dir = λ i. record {
  objects = none_left bytes_cmp bytes_cmp (λ e. (e.0, object_in (new_rows schema dir) e.0 e.1)) i;
  permanent = finite.empty;
  user_roots = finite.empty;
  profiles = none_left pair_cmp pair_cmp (λ e. (e.0, profile_in (new_rows schema dir) e.0 e.1)) i;
  runtime = finite.empty;
  temporary = none_kept i;
}

pub new_rows_sound : (schema : Schema) (dir : List ℕ) → IsTrue (is_store_dir dir)
    → IsSoundRows schema dir (new_rows schema dir)
new_rows_sound schema dir h = record {
  directory = h;
  settings_are = refl;
  no_pieces = λ none. refl;
  no_temporary = λ none. refl;
  cut = λ present p o e. absurd (no_entry bytes_cmp p o e);
  hash = λ p o e. absurd (no_entry bytes_cmp p o e);
  address = λ p o text e. absurd (no_entry bytes_cmp p o e);
  pieces = λ p n e. absurd (no_key (List ℕ) piece_cmp (p, n) e);
  references = λ p r e. absurd (no_key (Unit {0}) pair_cmp (p, r) e);
  outputs = λ p name e. absurd (no_key Path pair_cmp (p, name) e);
  generations = λ owner name n e. absurd (no_key Path triple_cmp (owner, name, n) e);
  numbers = λ owner name n e. absurd (no_key Path triple_cmp (owner, name, n) e);
  current = λ owned n e. absurd (no_entry pair_cmp owned n e);
  sessions = λ k e. absurd (no_key (Unit {0}) session_path_cmp k e);
  world = subst (IsSound dir) (sym (reports_nothing schema dir)) (new_world_sound dir);
}
