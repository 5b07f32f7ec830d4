-- The one table of refusals: the number and the name of each, and its line.
use Rattle.std.specs.Prelude.{ℕ, ◌==◌, List, [], ◌++◌, codes, cond, decimal}
use Rattle.policy.specs.Words.{key_word}
use Rattle.model.specs.declared.refusal.Refusal.{Refusal}
use Rattle.model.specs.declared.refusal.Refusal.TheVariants.{Truncated, BadTag, BadPadding, BadName, NotSorted, TooDeep}
use Rattle.model.specs.declared.refusal.Refusal.TheVariants.{Trailing, TooLarge, BadDigit, BadLength, Overflow}
use Rattle.model.specs.declared.refusal.Refusal.TheVariants.{BadStoreName, BadStoreDir, BadStorePath, BadCa, CaMismatch}
use Rattle.model.specs.declared.refusal.Refusal.TheVariants.{BadDerivation, DoubleOutput, BadConfig, BadCaller}
use Rattle.model.specs.declared.refusal.Refusal.TheVariants.{BadSchema, OtherStoreDir, NotValid, MissingReference}
use Rattle.model.specs.declared.refusal.Refusal.TheVariants.{NarHashMismatch, SelfReference, NoRoot, NoProfile}
use Rattle.model.specs.declared.refusal.Refusal.TheVariants.{NoGeneration, CurrentGeneration, NoOlderGeneration}
use Rattle.model.specs.declared.refusal.Refusal.TheVariants.{GenerationLimit, TooManyReferences, BadRootName, BadLabel}
use Rattle.model.specs.declared.refusal.Refusal.TheVariants.{BadHead, BadBodyLength, BodyTooLarge, NoRoute, BadMethod}
use Rattle.model.specs.declared.refusal.Refusal.TheVariants.{BadBodyHead, BadSession}

-- the number and the name of a refusal
abbrev pub number_and_name : Refusal → ℕ × List ℕ
number_and_name Truncated = (1, codes "truncated")
number_and_name BadTag = (2, codes "bad-tag")
number_and_name BadPadding = (3, codes "bad-padding")
number_and_name BadName = (4, codes "bad-name")
number_and_name NotSorted = (5, codes "not-sorted")
number_and_name TooDeep = (6, codes "too-deep")
number_and_name Trailing = (7, codes "trailing")
number_and_name TooLarge = (8, codes "too-large")
number_and_name BadDigit = (9, codes "bad-digit")
number_and_name BadLength = (10, codes "bad-length")
number_and_name Overflow = (11, codes "overflow")
number_and_name BadStoreName = (12, codes "bad-store-name")
number_and_name BadStoreDir = (13, codes "bad-store-dir")
number_and_name BadStorePath = (14, codes "bad-store-path")
number_and_name BadCa = (15, codes "bad-ca")
number_and_name CaMismatch = (16, codes "ca-mismatch")
number_and_name BadDerivation = (17, codes "bad-derivation")
number_and_name DoubleOutput = (18, codes "double-output")
number_and_name (BadConfig word) = (19, codes "bad-config")
number_and_name BadCaller = (20, codes "bad-caller")
number_and_name BadSchema = (21, codes "bad-schema")
number_and_name OtherStoreDir = (22, codes "other-store-dir")
number_and_name NotValid = (23, codes "not-valid")
number_and_name MissingReference = (24, codes "missing-reference")
number_and_name NarHashMismatch = (25, codes "nar-hash-mismatch")
number_and_name SelfReference = (26, codes "self-reference")
number_and_name NoRoot = (27, codes "no-root")
number_and_name NoProfile = (28, codes "no-profile")
number_and_name NoGeneration = (29, codes "no-generation")
number_and_name CurrentGeneration = (30, codes "current-generation")
number_and_name NoOlderGeneration = (31, codes "no-older-generation")
number_and_name GenerationLimit = (32, codes "generation-limit")
number_and_name TooManyReferences = (33, codes "too-many-references")
number_and_name BadRootName = (34, codes "bad-root-name")
number_and_name BadLabel = (35, codes "bad-label")
number_and_name BadHead = (36, codes "bad-head")
number_and_name BadBodyLength = (37, codes "bad-length")
number_and_name BodyTooLarge = (38, codes "too-large")
number_and_name NoRoute = (39, codes "no-route")
number_and_name BadMethod = (40, codes "bad-method")
number_and_name BadBodyHead = (41, codes "bad-body-head")
number_and_name BadSession = (42, codes "bad-session")

abbrev pub number : Refusal → ℕ
number r = (number_and_name r).0

abbrev pub name : Refusal → List ℕ
name r = (number_and_name r).1

-- what a refusal says besides its name: of a configuration the key word
abbrev pub detail : Refusal → List ℕ
detail (BadConfig word) = codes " " ++ key_word word
detail _ = []

-- the line of a refusal
abbrev pub refusal_line : Refusal → List ℕ
refusal_line r = codes "refused: " ++ decimal (number r) ++ codes " " ++ name r ++ detail r ++ codes "\n"

-- What the number of a refusal determines of its line: all of it, or of a configuration what comes before its key word.
abbrev pub known_text : Refusal → List ℕ
known_text r = cond (number r == 19) (codes "refused: " ++ decimal (number r) ++ codes " " ++ name r) (refusal_line r)
