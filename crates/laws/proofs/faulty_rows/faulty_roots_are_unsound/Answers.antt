use Rattle.laws.proofs.FaultyRoots.{faulty_permanent, faulty_user_roots, faulty_runtime}
use Rattle.laws.proofs.faulty_rows.faulty_roots_are_unsound.Goals as goal

pub returns-clause-permanent : goal.returns-clause-permanent
returns-clause-permanent c = faulty_permanent

pub returns-clause-user_roots : goal.returns-clause-user_roots
returns-clause-user_roots c = faulty_user_roots

pub returns-clause-runtime : goal.returns-clause-runtime
returns-clause-runtime c = faulty_runtime
