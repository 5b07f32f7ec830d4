-- The error of a body whose value has a fault.
use Rattle.paths.specs.declared.store_path.StorePathError.{StorePathError}
use Rattle.paths.specs.declared.store_path.StorePathError.TheVariants as path
use Rattle.paths.specs.declared.store_name.NameError.{NameError}
use Rattle.paths.specs.declared.store_name.NameError.TheVariants as name
use Rattle.paths.specs.declared.digits.Base32Error.{Base32Error}
use Rattle.paths.specs.declared.digits.Base32Error.TheVariants as digits
use Rattle.paths.specs.declared.content_address.CaError.{CaError}
use Rattle.paths.specs.declared.content_address.CaError.TheVariants as address
use Rattle.wire_bodies.specs.declared.error.BodyError.{BodyError}
use Rattle.wire_bodies.specs.declared.error.BodyError.TheVariants.{BadBodyHead, Memory}

abbrev pub path_fault : StorePathError → BodyError
path_fault path.BadStorePath = BadBodyHead
path_fault path.Memory = Memory

abbrev pub name_fault : NameError → BodyError
name_fault name.BadStoreName = BadBodyHead
name_fault name.Memory = Memory

abbrev pub digits_fault : Base32Error → BodyError
digits_fault digits.Memory = Memory
digits_fault _ = BadBodyHead

abbrev pub address_fault : CaError → BodyError
address_fault address.BadCa = BadBodyHead
address_fault address.Memory = Memory
