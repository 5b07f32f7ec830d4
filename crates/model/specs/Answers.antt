-- What each request that is done answers.
use Rattle.std.specs.Prelude.{ℕ, List, [], length, Option, Some, None, Result, Ok, Err, codes}
use Rattle.std.specs.FinMap as finite
use Rattle.sha2.specs.Sha256.{sha256}
use Rattle.nar.specs.declared.error.NarError.{NarError}
use Rattle.nar.specs.Tree.{Tree}
use Rattle.nar.specs.Listing.{listing}
use Rattle.nar.specs.Outcome.{outcome_of}
use Rattle.paths.specs.Path.{text_path, source_path}
use Rattle.model.specs.World.{Path, Object, World, all_paths, roots_of}
use Rattle.policy.specs.Settings.{Settings}
use Rattle.policy.specs.Caller.{Caller}
use Rattle.policy.specs.Class.{class_of}
use Rattle.model.specs.Request.{Request, add_text, add_source, import_object, info, nar, ls, list, list_live, list_dead}
use Rattle.model.specs.Request.{list_roots, list_roots_of, set_permanent, drop_permanent, set_user_root, drop_user_root}
use Rattle.model.specs.Request.{set_profile, rollback, switch, delete_generation, replace_runtime, add_temp}
use Rattle.model.specs.Request.{end_session, collect, delete, report}
use Rattle.model.specs.Reply.{Info, Answer, path, record_of, archive_of, listing_of, paths, roots, changed, generation}
use Rattle.model.specs.Reply.{runtime_count, temporary_count, freed, usage}
use Rattle.model.specs.Liveness.{roots_that_keep, live_paths, dead_paths, collected_paths, deleted_paths, bytes_in}
use Rattle.model.specs.Liveness.{usage_of}
use Rattle.model.specs.Seen.{seen}
use Rattle.model.specs.Profiles.{profile_at, number_for, rolled_back}
use Rattle.model.specs.Effects.{valid_pairs, of_session}

-- the record of an object
abbrev pub info_of : Path → Object → Info
info_of p o =
    record {
      path = p;
      hash = sha256 o.nar;
      size = length o.nar;
      references = finite.keys o.references;
      deriver = o.deriver;
      ca = o.ca;
    }

-- for a path that isn't valid the request is refused; these functions have a value for it too
abbrev pub record_at : Path → Option Object → Answer
record_at p (Some o) = record_of (info_of p o)
record_at p None = changed

abbrev pub archive_at : Option Object → List ℕ
archive_at (Some o) = o.nar
archive_at None = []

abbrev pub listing_at : Result Tree NarError → List ℕ
listing_at (Ok t) = listing (codes ".") t
listing_at (Err e) = []

-- the answer to a request that is done
abbrev pub answer : Settings → World → Caller → Request → Answer
answer s w c (add_text name refs contents) = path (text_path s.store_dir name refs contents)
answer s w c (add_source name refs b) = path (source_path s.store_dir name refs b)
answer s w c (import_object i) = path i.path
answer s w c (info p) = record_at p (finite.get w.objects p)
answer s w c (nar p) = archive_of (archive_at (finite.get w.objects p))
answer s w c (ls p) = listing_of (listing_at (outcome_of (archive_at (finite.get w.objects p))))
answer s w c list = paths (all_paths w)
answer s w c list_live = paths (live_paths s w)
answer s w c list_dead = paths (dead_paths s w)
answer s w c list_roots = roots (seen (class_of s c) (roots_of w))
answer s w c (list_roots_of p) = roots (seen (class_of s c) (roots_that_keep s w p))
answer s w c (set_permanent name p) = changed
answer s w c (drop_permanent name) = changed
answer s w c (set_user_root owner name p) = changed
answer s w c (drop_user_root owner name) = changed
answer s w c (set_profile owner name p) = generation (number_for (profile_at w (owner, name)) p)
answer s w c (rollback owner name) = generation (rolled_back (profile_at w (owner, name))).current
answer s w c (switch owner name n) = generation n
answer s w c (delete_generation owner name n) = changed
answer s w c (replace_runtime pairs) = runtime_count (finite.len (valid_pairs w pairs))
answer s w c (add_temp owner session p) = changed
answer s w c (end_session owner session) = temporary_count (finite.len (of_session w owner session))
answer s w c (collect ignores limit) = freed (collected_paths s w limit) (bytes_in w (collected_paths s w limit))
answer s w c (delete named ignores) = freed (deleted_paths w named) (bytes_in w (deleted_paths w named))
answer s w c report = usage (usage_of w (live_paths s w)) (usage_of w (dead_paths s w)) (usage_of w (all_paths w))
