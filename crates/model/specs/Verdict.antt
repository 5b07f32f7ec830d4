-- What the rules say of a request, and what a denial shows.
use Rattle.std.specs.Prelude.{Option, Some, None, option_map}
use Rattle.std.specs.List.{find, list_any}
use Rattle.paths.specs.Root.{Root}
use Rattle.model.specs.World.{Path, Pair, World}
use Rattle.policy.specs.Settings.{Settings}
use Rattle.policy.specs.Caller.{Caller}
use Rattle.policy.specs.Class.{class_of}
use Rattle.policy.specs.declared.kinds.Rule.{Rule}
use Rattle.policy.specs.declared.kinds.Rule.TheVariants.{Connect, TrustedImport, TrustedPermanentRoot}
use Rattle.policy.specs.declared.kinds.Rule.TheVariants.{TrustedRuntimeRoots, OwnRoot, NoIgnoreLiveness, Live}
use Rattle.policy.specs.Rules as rules
use Rattle.model.specs.Request.{Request}
pub use Rattle.model.specs.Request.{operation_of, named_in}
use Rattle.model.specs.Liveness.{lives, first_root_of}
use Rattle.model.specs.Seen.{seen_root}

-- the first rule that doesn't allow the request
abbrev pub verdict : Settings → World → Caller → Request → Option Rule
verdict s w c q = rules.verdict (class_of s c) c (operation_of q) (list_any (lives s w) (named_in q))

-- the first root of a path, if there is a path
abbrev pub root_of_first : Settings → World → Option Path → Option Root
root_of_first s w None = None
root_of_first s w (Some p) = first_root_of s w p

-- What a denial shows: for `Live`, as the caller sees it, the first root of the first path that is live of the named,
-- in the order given.
abbrev pub shown : Settings → World → Caller → Request → Rule → Option Pair
shown s w c q Live = option_map (seen_root (class_of s c)) (root_of_first s w (find (lives s w) (named_in q)))
shown s w c q Connect = None
shown s w c q TrustedImport = None
shown s w c q TrustedPermanentRoot = None
shown s w c q TrustedRuntimeRoots = None
shown s w c q OwnRoot = None
shown s w c q NoIgnoreLiveness = None
