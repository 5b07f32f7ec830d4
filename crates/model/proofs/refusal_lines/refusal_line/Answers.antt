use Rattle.std.proofs.Common.{sym, ap}
use Rattle.std.specs.Fmt.{digits}
use Rattle.model.specs.Refusals.{refusal_line}
use Rattle.model.proofs.refusal_lines.refusal_line.Goals as goal

pub returns-in-Truncated : goal.returns-in-Truncated
unfolding digits
returns-in-Truncated c = ap refusal_line (sym c.in-Truncated.is)

pub returns-in-BadTag : goal.returns-in-BadTag
unfolding digits
returns-in-BadTag c = ap refusal_line (sym c.in-BadTag.is)

pub returns-in-BadPadding : goal.returns-in-BadPadding
unfolding digits
returns-in-BadPadding c = ap refusal_line (sym c.in-BadPadding.is)

pub returns-in-BadName : goal.returns-in-BadName
unfolding digits
returns-in-BadName c = ap refusal_line (sym c.in-BadName.is)

pub returns-in-NotSorted : goal.returns-in-NotSorted
unfolding digits
returns-in-NotSorted c = ap refusal_line (sym c.in-NotSorted.is)

pub returns-in-TooDeep : goal.returns-in-TooDeep
unfolding digits
returns-in-TooDeep c = ap refusal_line (sym c.in-TooDeep.is)

pub returns-in-Trailing : goal.returns-in-Trailing
unfolding digits
returns-in-Trailing c = ap refusal_line (sym c.in-Trailing.is)

pub returns-in-TooLarge : goal.returns-in-TooLarge
unfolding digits
returns-in-TooLarge c = ap refusal_line (sym c.in-TooLarge.is)

pub returns-in-BadDigit : goal.returns-in-BadDigit
unfolding digits
returns-in-BadDigit c = ap refusal_line (sym c.in-BadDigit.is)

pub returns-in-BadLength : goal.returns-in-BadLength
unfolding digits
returns-in-BadLength c = ap refusal_line (sym c.in-BadLength.is)

pub returns-in-Overflow : goal.returns-in-Overflow
unfolding digits
returns-in-Overflow c = ap refusal_line (sym c.in-Overflow.is)

pub returns-in-BadStoreName : goal.returns-in-BadStoreName
unfolding digits
returns-in-BadStoreName c = ap refusal_line (sym c.in-BadStoreName.is)

pub returns-in-BadStoreDir : goal.returns-in-BadStoreDir
unfolding digits
returns-in-BadStoreDir c = ap refusal_line (sym c.in-BadStoreDir.is)

pub returns-in-BadStorePath : goal.returns-in-BadStorePath
unfolding digits
returns-in-BadStorePath c = ap refusal_line (sym c.in-BadStorePath.is)

pub returns-in-BadCa : goal.returns-in-BadCa
unfolding digits
returns-in-BadCa c = ap refusal_line (sym c.in-BadCa.is)

pub returns-in-CaMismatch : goal.returns-in-CaMismatch
unfolding digits
returns-in-CaMismatch c = ap refusal_line (sym c.in-CaMismatch.is)

pub returns-in-BadDerivation : goal.returns-in-BadDerivation
unfolding digits
returns-in-BadDerivation c = ap refusal_line (sym c.in-BadDerivation.is)

pub returns-in-DoubleOutput : goal.returns-in-DoubleOutput
unfolding digits
returns-in-DoubleOutput c = ap refusal_line (sym c.in-DoubleOutput.is)

pub returns-in-BadCaller : goal.returns-in-BadCaller
unfolding digits
returns-in-BadCaller c = ap refusal_line (sym c.in-BadCaller.is)

pub returns-in-BadSchema : goal.returns-in-BadSchema
unfolding digits
returns-in-BadSchema c = ap refusal_line (sym c.in-BadSchema.is)

pub returns-in-OtherStoreDir : goal.returns-in-OtherStoreDir
unfolding digits
returns-in-OtherStoreDir c = ap refusal_line (sym c.in-OtherStoreDir.is)

pub returns-in-NotValid : goal.returns-in-NotValid
unfolding digits
returns-in-NotValid c = ap refusal_line (sym c.in-NotValid.is)

pub returns-in-MissingReference : goal.returns-in-MissingReference
unfolding digits
returns-in-MissingReference c = ap refusal_line (sym c.in-MissingReference.is)

pub returns-in-NarHashMismatch : goal.returns-in-NarHashMismatch
unfolding digits
returns-in-NarHashMismatch c = ap refusal_line (sym c.in-NarHashMismatch.is)

pub returns-in-SelfReference : goal.returns-in-SelfReference
unfolding digits
returns-in-SelfReference c = ap refusal_line (sym c.in-SelfReference.is)

pub returns-in-NoRoot : goal.returns-in-NoRoot
unfolding digits
returns-in-NoRoot c = ap refusal_line (sym c.in-NoRoot.is)

pub returns-in-NoProfile : goal.returns-in-NoProfile
unfolding digits
returns-in-NoProfile c = ap refusal_line (sym c.in-NoProfile.is)

pub returns-in-NoGeneration : goal.returns-in-NoGeneration
unfolding digits
returns-in-NoGeneration c = ap refusal_line (sym c.in-NoGeneration.is)

pub returns-in-CurrentGeneration : goal.returns-in-CurrentGeneration
unfolding digits
returns-in-CurrentGeneration c = ap refusal_line (sym c.in-CurrentGeneration.is)

pub returns-in-NoOlderGeneration : goal.returns-in-NoOlderGeneration
unfolding digits
returns-in-NoOlderGeneration c = ap refusal_line (sym c.in-NoOlderGeneration.is)

pub returns-in-GenerationLimit : goal.returns-in-GenerationLimit
unfolding digits
returns-in-GenerationLimit c = ap refusal_line (sym c.in-GenerationLimit.is)

pub returns-in-TooManyReferences : goal.returns-in-TooManyReferences
unfolding digits
returns-in-TooManyReferences c = ap refusal_line (sym c.in-TooManyReferences.is)

pub returns-in-BadRootName : goal.returns-in-BadRootName
unfolding digits
returns-in-BadRootName c = ap refusal_line (sym c.in-BadRootName.is)

pub returns-in-BadLabel : goal.returns-in-BadLabel
unfolding digits
returns-in-BadLabel c = ap refusal_line (sym c.in-BadLabel.is)

pub returns-in-BadHead : goal.returns-in-BadHead
unfolding digits
returns-in-BadHead c = ap refusal_line (sym c.in-BadHead.is)

pub returns-in-BadBodyLength : goal.returns-in-BadBodyLength
unfolding digits
returns-in-BadBodyLength c = ap refusal_line (sym c.in-BadBodyLength.is)

pub returns-in-BodyTooLarge : goal.returns-in-BodyTooLarge
unfolding digits
returns-in-BodyTooLarge c = ap refusal_line (sym c.in-BodyTooLarge.is)

pub returns-in-NoRoute : goal.returns-in-NoRoute
unfolding digits
returns-in-NoRoute c = ap refusal_line (sym c.in-NoRoute.is)

pub returns-in-BadMethod : goal.returns-in-BadMethod
unfolding digits
returns-in-BadMethod c = ap refusal_line (sym c.in-BadMethod.is)

pub returns-in-BadBodyHead : goal.returns-in-BadBodyHead
unfolding digits
returns-in-BadBodyHead c = ap refusal_line (sym c.in-BadBodyHead.is)

pub returns-in-BadSession : goal.returns-in-BadSession
unfolding digits
returns-in-BadSession c = ap refusal_line (sym c.in-BadSession.is)
