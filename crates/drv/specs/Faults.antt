-- What a fault of a value says of a text.
use Rattle.paths.specs.declared.store_path.StorePathError.{StorePathError}
use Rattle.paths.specs.declared.store_path.StorePathError.TheVariants as path
use Rattle.paths.specs.declared.store_name.NameError.{NameError}
use Rattle.paths.specs.declared.store_name.NameError.TheVariants as name
use Rattle.drv.specs.declared.error.DrvError.{DrvError}
use Rattle.drv.specs.declared.error.DrvError.TheVariants.{BadDerivation, Memory}

abbrev pub path_fault : StorePathError → DrvError
path_fault path.BadStorePath = BadDerivation
path_fault path.Memory = Memory

abbrev pub name_fault : NameError → DrvError
name_fault name.BadStoreName = BadDerivation
name_fault name.Memory = Memory
