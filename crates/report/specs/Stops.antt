-- The lines of denials and failures, which say that a request wasn't done. Those of refusals are in `model`.
use Rattle.std.specs.Prelude.{ℕ, List, [], ◌++◌, codes, Option, Some, None}
use Rattle.paths.specs.StorePath.{full_path}
use Rattle.policy.specs.declared.kinds.Rule.{Rule}
use Rattle.policy.specs.Words.{rule_word}
use Rattle.model.specs.World.{Pair}
use Rattle.model.specs.Reply.{Failed}
use Rattle.model.specs.Failures.{failure_line, of_store}

-- ---- denials

-- a root as it is written: its label, and the full path of its target
abbrev pub root_text : List ℕ → Pair → List ℕ
root_text dir root = root.0 ++ codes " " ++ full_path dir root.1

-- what follows the word of the rule: the root that is shown, if one is
abbrev pub shown_text : List ℕ → Option Pair → List ℕ
shown_text dir None = []
shown_text dir (Some root) = codes " " ++ root_text dir root

-- the line of a denial
abbrev pub denial_text : List ℕ → Rule → Option Pair → List ℕ
denial_text dir rule root = codes "denied: " ++ rule_word rule ++ shown_text dir root ++ codes "\n"

-- the line of a denial that shows no root, which is the same in each directory
abbrev pub plain_denial : Rule → List ℕ
plain_denial rule = denial_text [] rule None

-- ---- failures

-- the line of a failure
abbrev pub failure_text : Failed → List ℕ
failure_text f = failure_line (of_store f)
