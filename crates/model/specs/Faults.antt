-- The refusals of what is wrong with an archive, or with a derivation text. Out of memory is neither, and has none.
use Rattle.std.specs.Prelude.{Option, Some, None}
use Rattle.nar.specs.declared.error.NarError.{NarError}
use Rattle.nar.specs.declared.error.NarError.TheVariants as archive
use Rattle.drv.specs.declared.error.DrvError.{DrvError}
use Rattle.drv.specs.declared.error.DrvError.TheVariants as text
use Rattle.model.specs.declared.refusal.Refusal.{Refusal}
use Rattle.model.specs.declared.refusal.Refusal.TheVariants.{Truncated, BadTag, BadPadding, BadName, NotSorted, TooDeep}
use Rattle.model.specs.declared.refusal.Refusal.TheVariants.{Trailing, TooLarge, BadDerivation, DoubleOutput}

abbrev pub archive_refusal : NarError → Option Refusal
archive_refusal archive.Truncated = Some Truncated
archive_refusal archive.BadTag = Some BadTag
archive_refusal archive.BadPadding = Some BadPadding
archive_refusal archive.BadName = Some BadName
archive_refusal archive.NotSorted = Some NotSorted
archive_refusal archive.TooDeep = Some TooDeep
archive_refusal archive.Trailing = Some Trailing
archive_refusal archive.TooLarge = Some TooLarge
archive_refusal archive.Memory = None

abbrev pub derivation_refusal : DrvError → Option Refusal
derivation_refusal text.BadDerivation = Some BadDerivation
derivation_refusal text.DoubleOutput = Some DoubleOutput
derivation_refusal text.Memory = None
