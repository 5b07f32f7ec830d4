-- The stop for each library error.
use Rattle.paths.specs.declared.store_name.NameError.{NameError}
use Rattle.paths.specs.declared.store_name.NameError.TheVariants as name
use Rattle.paths.specs.declared.store_path.StorePathError.{StorePathError}
use Rattle.paths.specs.declared.store_path.StorePathError.TheVariants as path
use Rattle.policy.specs.declared.error.CallerError.{CallerError}
use Rattle.policy.specs.declared.error.CallerError.TheVariants as caller
use Rattle.policy.specs.declared.error.ConfigError.{ConfigError}
use Rattle.policy.specs.declared.error.ConfigError.TheVariants as config
use Rattle.wire_bodies.specs.declared.error.BodyError.{BodyError}
use Rattle.wire_bodies.specs.declared.error.BodyError.TheVariants as body
use Rattle.model.specs.declared.failures.Failure.TheVariants.{Memory}
use Rattle.model.specs.declared.refusal.Refusal.TheVariants.{BadStoreName, BadStorePath, BadConfig, BadCaller}
use Rattle.model.specs.declared.refusal.Refusal.TheVariants.{BadBodyHead}
use Rattle.tool_pure.specs.declared.stops.Stop.{Stop}
use Rattle.tool_pure.specs.declared.stops.Stop.TheVariants.{Refused, Failed}

abbrev pub name_stop : NameError → Stop
name_stop name.BadStoreName = Refused BadStoreName
name_stop name.Memory = Failed Memory

abbrev pub path_stop : StorePathError → Stop
path_stop path.BadStorePath = Refused BadStorePath
path_stop path.Memory = Failed Memory

abbrev pub caller_stop : CallerError → Stop
caller_stop caller.BadCaller = Refused BadCaller
caller_stop caller.Memory = Failed Memory

abbrev pub config_stop : ConfigError → Stop
config_stop (config.Bad word) = Refused (BadConfig word)
config_stop config.Memory = Failed Memory

abbrev pub body_stop : BodyError → Stop
body_stop body.BadBodyHead = Refused BadBodyHead
body_stop body.Memory = Failed Memory
