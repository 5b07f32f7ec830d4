-- An import whose archive has arrived, as contracts see it.
use Rattle.model.specs.Request as asked
use Rattle.store_adds.specs.declared.delivered.Delivered.{Delivered}
use Rattle.store_types.specs.declared.requests.Imported.{Imported}

-- an import whose archive has arrived, as the import of the request
abbrev pub delivered_view : Delivered → asked.Imported
delivered_view d =
    record {
      path = d.path;
      nar_hash = d.nar_hash;
      refs = d.refs.items;
      deriver = d.deriver;
      ca = d.ca;
      nar = d.nar.pieces;
    }
