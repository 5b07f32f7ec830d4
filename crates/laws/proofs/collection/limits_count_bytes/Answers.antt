use Rattle.model.proofs.Limited.{collects_by_bytes}
use Rattle.laws.proofs.collection.limits_count_bytes.Goals as goal

pub returns : goal.returns
returns c = collects_by_bytes
