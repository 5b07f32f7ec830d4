-- How a fault of a derivation text stops a request: with its refusal, or with a failure if it is that memory was
-- refused.
use Rattle.std.specs.Option.{option_map_or}
use Rattle.drv.specs.declared.error.DrvError.{DrvError}
use Rattle.model.specs.Faults.{derivation_refusal}
use Rattle.tables_sql.specs.declared.failure.Failed.TheVariants.{Memory}
use Rattle.store_types.specs.declared.replies.Stop.{Stop}
use Rattle.store_types.specs.declared.replies.Stop.TheVariants.{Refused, Failed}

abbrev pub derivation_stop : DrvError → Stop
derivation_stop fault = option_map_or Refused (derivation_refusal fault) (Failed Memory)
