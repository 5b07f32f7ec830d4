-- What each request that is done does to the world.
use Rattle.std.specs.Prelude.{ℕ, Bool, not, ◌&&◌, ◌==◌, if◌then◌else◌, List, Some, None}
use Rattle.std.specs.List.{filter}
use Rattle.std.specs.FinMap as finite
use Rattle.paths.specs.Root.{Set, set_of}
use Rattle.model.specs.World.{Path, Pair, pair_cmp, Profile, Temporary, temporary_cmp, World, has}
use Rattle.live.specs.Graph.{same, holds}
use Rattle.policy.specs.Settings.{Settings}
use Rattle.model.specs.Request.{Request, add_text, add_source, import_object, info, nar, ls, list, list_live, list_dead}
use Rattle.model.specs.Request.{list_roots, list_roots_of, set_permanent, drop_permanent, set_user_root, drop_user_root}
use Rattle.model.specs.Request.{set_profile, rollback, switch, delete_generation, replace_runtime, add_temp}
use Rattle.model.specs.Request.{end_session, collect, delete, report}
use Rattle.model.specs.Liveness.{lives, collected_paths, is_deleted_with}
use Rattle.model.specs.Adds.{Added, added_text, added_source, added_import}
use Rattle.model.specs.Profiles.{profile_at, set_to, switched, rolled_back, without_generation}

-- an object more, unless its path is valid already
abbrev pub with_object : World → Added → World
with_object w a = if has w a.path then w else record w { objects = finite.insert w.objects a.path a.object }

-- the objects alone whose paths pass the test
abbrev pub keeping : World → (Path → Bool) → World
keeping w test = record w { objects = finite.retain_keys w.objects test }

abbrev pub with_permanent : World → List ℕ → Path → World
with_permanent w name p = record w { permanent = finite.insert w.permanent name p }

abbrev pub without_permanent : World → List ℕ → World
without_permanent w name = record w { permanent = finite.remove w.permanent name }

abbrev pub with_user_root : World → Pair → Path → World
with_user_root w owned p = record w { user_roots = finite.insert w.user_roots owned p }

abbrev pub without_user_root : World → Pair → World
without_user_root w owned = record w { user_roots = finite.remove w.user_roots owned }

abbrev pub with_profile : World → Pair → Profile → World
with_profile w owned p = record w { profiles = finite.insert w.profiles owned p }

-- the pairs whose target is valid, as a set
abbrev pub valid_pairs : World → List Pair → Set pair_cmp
valid_pairs w pairs = set_of pair_cmp (filter (λ p. has w p.1) pairs)

abbrev pub with_runtime : World → Set pair_cmp → World
with_runtime w pairs = record w { runtime = pairs }

-- a path that a session keeps more
abbrev pub with_temporary : World → Temporary → World
with_temporary w t = record w { temporary = finite.insert w.temporary t tt }

-- whether it is this session that keeps it: its owner and its number are these
abbrev pub is_of_session : List ℕ → ℕ → Temporary → Bool
is_of_session owner session t = same t.owner owner && t.session == session

-- what a session keeps
abbrev pub entries_of_session : List ℕ → ℕ → Set temporary_cmp → Set temporary_cmp
entries_of_session owner session kept = finite.retain_keys kept (is_of_session owner session)

-- what the others keep
abbrev pub entries_without_session : List ℕ → ℕ → Set temporary_cmp → Set temporary_cmp
entries_without_session owner session kept = finite.retain_keys kept (λ t. not (is_of_session owner session t))

abbrev pub of_session : World → List ℕ → ℕ → Set temporary_cmp
of_session w owner session = entries_of_session owner session w.temporary

abbrev pub without_session : World → List ℕ → ℕ → World
without_session w owner session =
    record w { temporary = entries_without_session owner session w.temporary }

-- the world after a request that is done
abbrev pub effect : Settings → World → Request → World
effect s w (add_text name refs contents) = with_object w (added_text s.store_dir name refs contents)
effect s w (add_source name refs b) = with_object w (added_source s.store_dir name refs b)
effect s w (import_object i) = with_object w (added_import s.store_dir i)
effect s w (set_permanent name p) = with_permanent w name p
effect s w (drop_permanent name) = without_permanent w name
effect s w (set_user_root owner name p) = with_user_root w (owner, name) p
effect s w (drop_user_root owner name) = without_user_root w (owner, name)
effect s w (set_profile owner name p) = with_profile w (owner, name) (set_to (profile_at w (owner, name)) p)
effect s w (rollback owner name) = with_profile w (owner, name) (rolled_back (profile_at w (owner, name)))
effect s w (switch owner name n) = with_profile w (owner, name) (switched (profile_at w (owner, name)) n)
effect s w (delete_generation owner name n) =
    with_profile w (owner, name) (without_generation (profile_at w (owner, name)) n)
effect s w (replace_runtime pairs) = with_runtime w (valid_pairs w pairs)
effect s w (add_temp owner session p) = with_temporary w (record { owner = owner; session = session; path = p })
effect s w (end_session owner session) = without_session w owner session
effect s w (collect ignores None) = keeping w (lives s w)
effect s w (collect ignores (Some limit)) = keeping w (λ p. not (holds (collected_paths s w (Some limit)) p))
effect s w (delete named ignores) = keeping w (λ p. not (is_deleted_with w named p))
effect s w (info p) = w
effect s w (nar p) = w
effect s w (ls p) = w
effect s w list = w
effect s w list_live = w
effect s w list_dead = w
effect s w list_roots = w
effect s w (list_roots_of p) = w
effect s w report = w
