-- Each refusal has a line of its own.
use Rattle.std.proofs.Common.{◌≡◌, ℕ, List, [], ◌∷◌, ◌++◌, codes, decimal, Some, Option, refl, sym, ap, ◌∙◌, IsTrue}
use Rattle.std.proofs.Common.{bytes_eq, map}
use Rattle.std.specs.List.{find, range_with_len}
use Rattle.std.specs.Fmt.{digits}
use Rattle.std.proofs.lemmas.Option.{same_Some}
use Rattle.policy.specs.declared.error.KeyWord.{KeyWord}
use Rattle.policy.specs.declared.error.KeyWord.TheVariants.{Syntax, UnknownKey, StoreDir, AllowedUsers, TrustedUsers}
use Rattle.policy.specs.declared.error.KeyWord.TheVariants.{KeepOutputs, KeepDerivations, Groups}
use Rattle.model.specs.declared.refusal.Refusal.{Refusal}
use Rattle.model.specs.declared.refusal.Refusal.TheVariants.{Truncated, BadTag, BadPadding, BadName, NotSorted, TooDeep}
use Rattle.model.specs.declared.refusal.Refusal.TheVariants.{Trailing, TooLarge, BadDigit, BadLength, Overflow}
use Rattle.model.specs.declared.refusal.Refusal.TheVariants.{BadStoreName, BadStoreDir, BadStorePath, BadCa, CaMismatch}
use Rattle.model.specs.declared.refusal.Refusal.TheVariants.{BadDerivation, DoubleOutput, BadConfig, BadCaller}
use Rattle.model.specs.declared.refusal.Refusal.TheVariants.{BadSchema, OtherStoreDir, NotValid, MissingReference}
use Rattle.model.specs.declared.refusal.Refusal.TheVariants.{NarHashMismatch, SelfReference, NoRoot, NoProfile}
use Rattle.model.specs.declared.refusal.Refusal.TheVariants.{NoGeneration, CurrentGeneration, NoOlderGeneration}
use Rattle.model.specs.declared.refusal.Refusal.TheVariants.{GenerationLimit, TooManyReferences, BadRootName, BadLabel}
use Rattle.model.specs.declared.refusal.Refusal.TheVariants.{BadHead, BadBodyLength, BodyTooLarge, NoRoute, BadMethod}
use Rattle.model.specs.declared.refusal.Refusal.TheVariants.{BadBodyHead, BadSession}
use Rattle.model.specs.Refusals.{number, name, detail, refusal_line}
use Rattle.report.specs.Laws.{refusals, omits, RefusalsAreLines, RefusalsDiffer}

pub numbered : map number refusals ≡ range_with_len 1 42
numbered = refl

-- ---- each is one line

prefix : Refusal → List ℕ
prefix r = codes "refused: " ++ decimal (number r) ++ codes " " ++ name r ++ detail r

of_word : (word : KeyWord) → IsTrue (omits 10 (prefix (BadConfig word)))
unfolding prefix digits
of_word Syntax = refl
of_word UnknownKey = refl
of_word StoreDir = refl
of_word AllowedUsers = refl
of_word TrustedUsers = refl
of_word KeepOutputs = refl
of_word KeepDerivations = refl
of_word Groups = refl

one : (r : Refusal) → IsTrue (omits 10 (prefix r))
unfolding prefix digits
one (BadConfig word) = of_word word
one Truncated = refl
one BadTag = refl
one BadPadding = refl
one BadName = refl
one NotSorted = refl
one TooDeep = refl
one Trailing = refl
one TooLarge = refl
one BadDigit = refl
one BadLength = refl
one Overflow = refl
one BadStoreName = refl
one BadStoreDir = refl
one BadStorePath = refl
one BadCa = refl
one CaMismatch = refl
one BadDerivation = refl
one DoubleOutput = refl
one BadCaller = refl
one BadSchema = refl
one OtherStoreDir = refl
one NotValid = refl
one MissingReference = refl
one NarHashMismatch = refl
one SelfReference = refl
one NoRoot = refl
one NoProfile = refl
one NoGeneration = refl
one CurrentGeneration = refl
one NoOlderGeneration = refl
one GenerationLimit = refl
one TooManyReferences = refl
one BadRootName = refl
one BadLabel = refl
one BadHead = refl
one BadBodyLength = refl
one BodyTooLarge = refl
one NoRoute = refl
one BadMethod = refl
one BadBodyHead = refl
one BadSession = refl

pub are_lines : RefusalsAreLines
unfolding prefix
are_lines r = record { line = prefix r; ends = refl; one = one r }

-- ---- each is another line

every : List Refusal
every =
    Truncated
    ∷ BadTag
    ∷ BadPadding
    ∷ BadName
    ∷ NotSorted
    ∷ TooDeep
    ∷ Trailing
    ∷ TooLarge
    ∷ BadDigit
    ∷ BadLength
    ∷ Overflow
    ∷ BadStoreName
    ∷ BadStoreDir
    ∷ BadStorePath
    ∷ BadCa
    ∷ CaMismatch
    ∷ BadDerivation
    ∷ DoubleOutput
    ∷ BadCaller
    ∷ BadSchema
    ∷ OtherStoreDir
    ∷ NotValid
    ∷ MissingReference
    ∷ NarHashMismatch
    ∷ SelfReference
    ∷ NoRoot
    ∷ NoProfile
    ∷ NoGeneration
    ∷ CurrentGeneration
    ∷ NoOlderGeneration
    ∷ GenerationLimit
    ∷ TooManyReferences
    ∷ BadRootName
    ∷ BadLabel
    ∷ BadHead
    ∷ BadBodyLength
    ∷ BodyTooLarge
    ∷ NoRoute
    ∷ BadMethod
    ∷ BadBodyHead
    ∷ BadSession
    ∷ BadConfig Syntax
    ∷ BadConfig UnknownKey
    ∷ BadConfig StoreDir
    ∷ BadConfig AllowedUsers
    ∷ BadConfig TrustedUsers
    ∷ BadConfig KeepOutputs
    ∷ BadConfig KeepDerivations
    ∷ BadConfig Groups
    ∷ []

-- the refusal that a line says
said : List ℕ → Option Refusal
said text = find (λ r. bytes_eq (refusal_line r) text) every

said_word : (word : KeyWord) → said (refusal_line (BadConfig word)) ≡ Some (BadConfig word)
unfolding said every digits
said_word Syntax = refl
said_word UnknownKey = refl
said_word StoreDir = refl
said_word AllowedUsers = refl
said_word TrustedUsers = refl
said_word KeepOutputs = refl
said_word KeepDerivations = refl
said_word Groups = refl

said_of : (r : Refusal) → said (refusal_line r) ≡ Some r
unfolding said every digits
said_of (BadConfig word) = said_word word
said_of Truncated = refl
said_of BadTag = refl
said_of BadPadding = refl
said_of BadName = refl
said_of NotSorted = refl
said_of TooDeep = refl
said_of Trailing = refl
said_of TooLarge = refl
said_of BadDigit = refl
said_of BadLength = refl
said_of Overflow = refl
said_of BadStoreName = refl
said_of BadStoreDir = refl
said_of BadStorePath = refl
said_of BadCa = refl
said_of CaMismatch = refl
said_of BadDerivation = refl
said_of DoubleOutput = refl
said_of BadCaller = refl
said_of BadSchema = refl
said_of OtherStoreDir = refl
said_of NotValid = refl
said_of MissingReference = refl
said_of NarHashMismatch = refl
said_of SelfReference = refl
said_of NoRoot = refl
said_of NoProfile = refl
said_of NoGeneration = refl
said_of CurrentGeneration = refl
said_of NoOlderGeneration = refl
said_of GenerationLimit = refl
said_of TooManyReferences = refl
said_of BadRootName = refl
said_of BadLabel = refl
said_of BadHead = refl
said_of BadBodyLength = refl
said_of BodyTooLarge = refl
said_of NoRoute = refl
said_of BadMethod = refl
said_of BadBodyHead = refl
said_of BadSession = refl

pub differ : RefusalsDiffer
differ a b e = same_Some a b (sym (said_of a) ∙ ap said e ∙ said_of b)
