-- Laws of the texts.
use Rattle.std.specs.Prelude.{◌≡◌, ℕ, Bool, not, ◌&&◌, ◌==◌, List, [], ◌∷◌, ◌++◌, codes, IsTrue}
use Rattle.std.specs.List.{list_all}
use Rattle.model.specs.World.{Path, Pair, World, no_world}
use Rattle.model.specs.Sound.{IsSound}
use Rattle.policy.specs.Settings.{Settings}
use Rattle.policy.specs.Caller.{Caller}
use Rattle.policy.specs.declared.error.KeyWord.TheVariants.{Syntax}
use Rattle.model.specs.Request.{Request, report}
use Rattle.model.specs.Reply.{Reply}
use Rattle.model.specs.Answers.{answer}
use Rattle.model.specs.Step.{Step}
use Rattle.model.specs.Reply.{IsDone}
use Rattle.model.specs.declared.refusal.Refusal.{Refusal}
use Rattle.model.specs.declared.refusal.Refusal.TheVariants.{Truncated, BadTag, BadPadding, BadName, NotSorted, TooDeep}
use Rattle.model.specs.declared.refusal.Refusal.TheVariants.{Trailing, TooLarge, BadDigit, BadLength, Overflow}
use Rattle.model.specs.declared.refusal.Refusal.TheVariants.{BadStoreName, BadStoreDir, BadStorePath, BadCa, CaMismatch}
use Rattle.model.specs.declared.refusal.Refusal.TheVariants.{BadDerivation, DoubleOutput, BadConfig, BadCaller}
use Rattle.model.specs.declared.refusal.Refusal.TheVariants.{BadSchema, OtherStoreDir, NotValid, MissingReference}
use Rattle.model.specs.declared.refusal.Refusal.TheVariants.{NarHashMismatch, SelfReference, NoRoot, NoProfile}
use Rattle.model.specs.declared.refusal.Refusal.TheVariants.{NoGeneration, CurrentGeneration, NoOlderGeneration}
use Rattle.model.specs.declared.refusal.Refusal.TheVariants.{GenerationLimit, TooManyReferences, BadRootName, BadLabel}
use Rattle.model.specs.declared.refusal.Refusal.TheVariants.{BadHead, BadBodyLength, BodyTooLarge, NoRoute, BadMethod}
use Rattle.model.specs.declared.refusal.Refusal.TheVariants.{BadBodyHead, BadSession}
use Rattle.model.specs.Refusals.{refusal_line}
use Rattle.report.specs.Replies.{paths_text, roots_text, answer_text, reply_text}

-- ---- the table

-- the refusals in the order of the table
abbrev pub refusals : List Refusal
refusals =
    Truncated
    ∷ BadTag
    ∷ BadPadding
    ∷ BadName
    ∷ NotSorted
    ∷ TooDeep
    ∷ Trailing
    ∷ TooLarge
    ∷ BadDigit
    ∷ BadLength
    ∷ Overflow
    ∷ BadStoreName
    ∷ BadStoreDir
    ∷ BadStorePath
    ∷ BadCa
    ∷ CaMismatch
    ∷ BadDerivation
    ∷ DoubleOutput
    ∷ BadConfig Syntax
    ∷ BadCaller
    ∷ BadSchema
    ∷ OtherStoreDir
    ∷ NotValid
    ∷ MissingReference
    ∷ NarHashMismatch
    ∷ SelfReference
    ∷ NoRoot
    ∷ NoProfile
    ∷ NoGeneration
    ∷ CurrentGeneration
    ∷ NoOlderGeneration
    ∷ GenerationLimit
    ∷ TooManyReferences
    ∷ BadRootName
    ∷ BadLabel
    ∷ BadHead
    ∷ BadBodyLength
    ∷ BodyTooLarge
    ∷ NoRoute
    ∷ BadMethod
    ∷ BadBodyHead
    ∷ BadSession
    ∷ []

-- two refusals with one line are the same
abbrev pub RefusalsDiffer : Type 0
RefusalsDiffer = (a b : Refusal) → refusal_line a ≡ refusal_line b → a ≡ b

-- ---- lines

-- no byte of the text is this one
abbrev pub omits : ℕ → List ℕ → Bool
omits byte text = list_all (λ b. not (b == byte)) text

-- a line: a line feed (10) ends it, and none comes before
pub record IsLine (text : List ℕ) : Type 0 where
  pub line : List ℕ
  pub ends : text ≡ line ++ codes "\n"
  pub one : IsTrue (omits 10 line)

abbrev pub RefusalsAreLines : Type 0
RefusalsAreLines = (r : Refusal) → IsLine (refusal_line r)

-- In a sound world every reply that isn't done is one line: no name, path or label puts a line feed into it.
abbrev pub StopsAreLines : Type 0
StopsAreLines = (s : Settings) (w : World) (c : Caller) (q : Request) (reply : Reply) (new : World)
    → IsTrue (omits 10 s.store_dir) → IsSound s.store_dir w → Step s w c q reply new → (IsDone reply → ⊥)
    → IsLine (reply_text s.store_dir reply)

-- ---- listings

-- no path has a line feed
abbrev pub are_unbroken : List Path → Bool
are_unbroken ps = list_all (omits 10) ps

-- no label has a space (32), and no target a line feed
abbrev pub are_plain : List Pair → Bool
are_plain roots = list_all (λ r. omits 32 r.0 && omits 10 r.1) roots

-- lists of paths or of roots with one text are the same
pub record ListingsDiffer (dir : List ℕ) : Type 0 where
  pub paths : (a b : List Path) → IsTrue (are_unbroken a) → IsTrue (are_unbroken b)
      → paths_text dir a ≡ paths_text dir b → a ≡ b
  pub roots : (a b : List Pair) → IsTrue (are_plain a) → IsTrue (are_plain b) → roots_text dir a ≡ roots_text dir b
      → a ≡ b

-- ---- a store that was just made

abbrev pub ANewStoreUsesNothing : Type 0
ANewStoreUsesNothing = (s : Settings) (c : Caller) → answer_text s.store_dir (answer s no_world c report)
    ≡ codes "class       paths            bytes\n"
    ++ codes "live            0                0\n"
    ++ codes "dead            0                0\n"
    ++ codes "total           0                0\n"
