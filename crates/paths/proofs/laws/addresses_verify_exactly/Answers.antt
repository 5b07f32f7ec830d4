use Rattle.paths.proofs.Made.{verifying, texts-verify, sources-verify}
use Rattle.paths.proofs.laws.addresses_verify_exactly.Goals as goal

pub returns-clause-exact : goal.returns-clause-exact
returns-clause-exact c = verifying

pub returns-clause-text : goal.returns-clause-text
returns-clause-text c = texts-verify

pub returns-clause-source : goal.returns-clause-source
returns-clause-source c = sources-verify
