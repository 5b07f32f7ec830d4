-- Worked texts, by computation, and the usage of a store that was just made.
use Rattle.std.proofs.Common.{◌≡◌, ℕ, List, [], map, not, refl, ap}
use Rattle.std.specs.Fmt.{digits}
use Rattle.std.specs.List.{filter}
use Rattle.paths.specs.Base32.{base32, digits_of}
use Rattle.model.specs.World.{Path, no_world, all_paths}
use Rattle.model.proofs.Empty.{no_entries}
use Rattle.model.specs.Reply.{usage}
use Rattle.model.specs.Liveness.{lives, usage_of}
use Rattle.report.specs.Replies.{answer_text}
use Rattle.report.specs.Laws.{ANewStoreUsesNothing}
use Rattle.report.specs.Worked.{HasWorkedDenials, HasWorkedRefusals, HasWorkedAnswers, HasWorkedUsage, HasWorkedNarinfo}

pub denials : HasWorkedDenials
denials = record { connect = refl; hidden = refl; seen = refl }

pub refusals : HasWorkedRefusals
unfolding digits
refusals = record {
  truncated = refl;
  bad_tag = refl;
  bad_padding = refl;
  bad_name = refl;
  not_sorted = refl;
  too_deep = refl;
  trailing = refl;
  too_large = refl;
  ca_mismatch = refl;
  malformed = refl;
  doubled = refl;
  not_valid = refl;
  reference = refl;
  hash = refl;
  self_reference = refl;
  no_root = refl;
  no_profile = refl;
  no_generation = refl;
  current = refl;
  no_older = refl;
  limit = refl;
  references = refl;
  root_name = refl;
  label = refl;
  session = refl;
  configuration = refl;
  head = refl;
  body = refl;
  memory = refl;
  size = refl;
  disk = refl;
}

pub answers : HasWorkedAnswers
unfolding digits
answers =
    record {
      path = refl;
      none = refl;
      two = refl;
      roots = refl;
      archive = refl;
      listing = refl;
      changed = refl;
      generation = refl;
      runtime = refl;
      temporary = refl;
      nothing = refl;
      freed = refl;
    }

pub usages : HasWorkedUsage
unfolding digits
usages = record { two = refl; wide = refl }

pub record_text : HasWorkedNarinfo
unfolding digits base32 digits_of
record_text = record { source = refl; derived = refl; both = refl }

-- ---- a store that was just made

no_paths : all_paths no_world ≡ []
no_paths = ap (map (λ e. e.0)) (no_entries _ _)

pub new_store : ANewStoreUsesNothing
unfolding digits
new_store s c = ap text no_paths
  where
    text : List Path → List ℕ
    text ps =
        answer_text s.store_dir (usage (usage_of no_world (filter (lives s no_world) ps))
        (usage_of no_world (filter (λ p. not (lives s no_world p)) ps)) (usage_of no_world ps))
