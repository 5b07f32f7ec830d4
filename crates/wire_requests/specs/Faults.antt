-- Why a message isn't a request, by the fault of a path in its target or of its body.
use Rattle.paths.specs.declared.store_path.StorePathError.{StorePathError}
use Rattle.paths.specs.declared.store_path.StorePathError.TheVariants as path
use Rattle.wire_bodies.specs.declared.error.BodyError.{BodyError}
use Rattle.wire_bodies.specs.declared.error.BodyError.TheVariants as body
use Rattle.wire_requests.specs.declared.error.AskError.{AskError}
use Rattle.wire_requests.specs.declared.error.AskError.TheVariants.{BadPath, BadBodyHead, Memory}

abbrev pub path_fault : StorePathError → AskError
path_fault path.BadStorePath = BadPath
path_fault path.Memory = Memory

abbrev pub body_fault : BodyError → AskError
body_fault body.BadBodyHead = BadBodyHead
body_fault body.Memory = Memory
