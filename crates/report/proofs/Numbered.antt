-- Refusals by their numbers.
use Rattle.std.proofs.Common.{◌≡◌, ◌≢◌, ℕ, ◌+◌, List, [], ◌++◌, Result, Ok, Err, ◌==◌, get_or, codes, refl, sym, ap}
use Rattle.std.proofs.Common.{◌∙◌, ◌<◌}
use Rattle.std.specs.Prelude.{OnOk, is_ok, if◌then◌else◌}
use Rattle.std.specs.List.{find}
use Rattle.std.specs.Option.{option_map_or}
use Rattle.std.specs.Fmt.{digits}
use Rattle.std.proofs.lemmas.List.{get_or-map}
use Rattle.std.proofs.lemmas.List.FromFn.{get_or-range_with_len}
use Rattle.policy.specs.declared.error.KeyWord.{KeyWord}
use Rattle.policy.specs.declared.error.KeyWord.TheVariants.{Syntax}
use Rattle.model.specs.declared.refusal.Refusal.{Refusal}
use Rattle.model.specs.declared.refusal.Refusal.TheVariants.{Truncated, BadTag, BadPadding, BadName, NotSorted, TooDeep}
use Rattle.model.specs.declared.refusal.Refusal.TheVariants.{Trailing, TooLarge, BadDigit, BadLength, Overflow}
use Rattle.model.specs.declared.refusal.Refusal.TheVariants.{BadStoreName, BadStoreDir, BadStorePath, BadCa, CaMismatch}
use Rattle.model.specs.declared.refusal.Refusal.TheVariants.{BadDerivation, DoubleOutput, BadConfig, BadCaller}
use Rattle.model.specs.declared.refusal.Refusal.TheVariants.{BadSchema, OtherStoreDir, NotValid, MissingReference}
use Rattle.model.specs.declared.refusal.Refusal.TheVariants.{NarHashMismatch, SelfReference, NoRoot, NoProfile}
use Rattle.model.specs.declared.refusal.Refusal.TheVariants.{NoGeneration, CurrentGeneration, NoOlderGeneration}
use Rattle.model.specs.declared.refusal.Refusal.TheVariants.{GenerationLimit, TooManyReferences, BadRootName, BadLabel}
use Rattle.model.specs.declared.refusal.Refusal.TheVariants.{BadHead, BadBodyLength, BodyTooLarge, NoRoute, BadMethod}
use Rattle.model.specs.declared.refusal.Refusal.TheVariants.{BadBodyHead, BadSession}
use Rattle.model.specs.Refusals.{number, known_text, refusal_line}
use Rattle.report.specs.Laws.{refusals}
use Rattle.report.proofs.Table.{numbered}

-- the refusal at a place of the table has the number after that place
pub number_at : (i : ℕ) → i < 42 → (d : Refusal) → number (get_or refusals i d) ≡ 1 + i
number_at i below d =
    sym (get_or-map number refusals i d 0 below) ∙ ap (λ ns. get_or ns i 0) numbered
    ∙ get_or-range_with_len 1 42 i 0 below

-- what is known of a line hangs on the number alone
text_by : ℕ → List ℕ
text_by n = option_map_or known_text (find (λ r. number r == n) refusals) []

text_at : (r : Refusal) → known_text r ≡ text_by (number r)
unfolding text_by
text_at Truncated = refl
text_at BadTag = refl
text_at BadPadding = refl
text_at BadName = refl
text_at NotSorted = refl
text_at TooDeep = refl
text_at Trailing = refl
text_at TooLarge = refl
text_at BadDigit = refl
text_at BadLength = refl
text_at Overflow = refl
text_at BadStoreName = refl
text_at BadStoreDir = refl
text_at BadStorePath = refl
text_at BadCa = refl
text_at CaMismatch = refl
text_at BadDerivation = refl
text_at DoubleOutput = refl
text_at (BadConfig word) = refl
text_at BadCaller = refl
text_at BadSchema = refl
text_at OtherStoreDir = refl
text_at NotValid = refl
text_at MissingReference = refl
text_at NarHashMismatch = refl
text_at SelfReference = refl
text_at NoRoot = refl
text_at NoProfile = refl
text_at NoGeneration = refl
text_at CurrentGeneration = refl
text_at NoOlderGeneration = refl
text_at GenerationLimit = refl
text_at TooManyReferences = refl
text_at BadRootName = refl
text_at BadLabel = refl
text_at BadHead = refl
text_at BadBodyLength = refl
text_at BodyTooLarge = refl
text_at NoRoute = refl
text_at BadMethod = refl
text_at BadBodyHead = refl
text_at BadSession = refl

-- so refusals of one number have the same
pub same_text : (a b : Refusal) → number a ≡ number b → known_text a ≡ known_text b
same_text a b e = text_at a ∙ ap text_by e ∙ sym (text_at b)

pub configured : (r : Refusal) → number r ≡ 19 → codes "refused: 19 bad-config" ≡ known_text r
unfolding digits
configured r e = sym (same_text r (BadConfig Syntax) e)

-- of a refusal that is of no configuration the whole line is known
pub whole : (r : Refusal) → ((word : KeyWord) → r ≢ BadConfig word) → refusal_line r ≡ known_text r
whole Truncated other = refl
whole BadTag other = refl
whole BadPadding other = refl
whole BadName other = refl
whole NotSorted other = refl
whole TooDeep other = refl
whole Trailing other = refl
whole TooLarge other = refl
whole BadDigit other = refl
whole BadLength other = refl
whole Overflow other = refl
whole BadStoreName other = refl
whole BadStoreDir other = refl
whole BadStorePath other = refl
whole BadCa other = refl
whole CaMismatch other = refl
whole BadDerivation other = refl
whole DoubleOutput other = refl
whole (BadConfig word) other = absurd (other word refl)
whole BadCaller other = refl
whole BadSchema other = refl
whole OtherStoreDir other = refl
whole NotValid other = refl
whole MissingReference other = refl
whole NarHashMismatch other = refl
whole SelfReference other = refl
whole NoRoot other = refl
whole NoProfile other = refl
whole NoGeneration other = refl
whole CurrentGeneration other = refl
whole NoOlderGeneration other = refl
whole GenerationLimit other = refl
whole TooManyReferences other = refl
whole BadRootName other = refl
whole BadLabel other = refl
whole BadHead other = refl
whole BadBodyLength other = refl
whole BodyTooLarge other = refl
whole NoRoute other = refl
whole BadMethod other = refl
whole BadBodyHead other = refl
whole BadSession other = refl

-- bytes that were appended, by a call that may be refused memory
pub appended : {T E : Type 0} (result : Result T E) (old new bytes : List ℕ)
    → new ≡ (if is_ok result then old ++ bytes else old) → OnOk result (new ≡ old ++ bytes)
appended (Ok x) old new bytes e = e
appended (Err fault) old new bytes e = tt
