-- What `clap` calls the faults that it doesn't find itself.
use Rattle.clap.specs.declared.error.ErrorKind.{ErrorKind}
use Rattle.clap.specs.declared.error.ErrorKind.TheVariants.{MissingSubcommand, InvalidValue, MissingRequiredArgument}
use Rattle.clap.specs.declared.error.ErrorKind.TheVariants.{TooManyValues, ArgumentConflict, ValueValidation}
use Rattle.tool_words.specs.declared.error.UsageFault.{UsageFault}
use Rattle.tool_words.specs.declared.error.UsageFault.TheVariants.{NoSubcommand, UnknownAction, MissingValue}
use Rattle.tool_words.specs.declared.error.UsageFault.TheVariants.{ExtraValue, OwnerOfPermanent, BadLimit}
use Rattle.tool_words.specs.declared.error.UsageFault.TheVariants.{ConnectionsWithoutPort}

-- the kind of a fault
abbrev pub usage_kind : UsageFault → ErrorKind
usage_kind NoSubcommand = MissingSubcommand
usage_kind (UnknownAction of) = InvalidValue
usage_kind (MissingValue of) = MissingRequiredArgument
usage_kind (ExtraValue of) = TooManyValues
usage_kind OwnerOfPermanent = ArgumentConflict
usage_kind BadLimit = ValueValidation
usage_kind ConnectionsWithoutPort = MissingRequiredArgument
