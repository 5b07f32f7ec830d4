use Rattle.tables.proofs.InTheWay.{refuses_the_rest}
use Rattle.tables.proofs.laws.no_store_is_the_rest.Goals as goal

pub returns : goal.returns
returns c = refuses_the_rest
