use Rattle.laws.proofs.RootChanges.{sets_permanent, drops_permanent, sets_user_roots, drops_user_roots, replaces}
use Rattle.laws.proofs.roots.roots_change_exactly.Goals as goal

pub returns-clause-set_permanent : goal.returns-clause-set_permanent
returns-clause-set_permanent c = sets_permanent

pub returns-clause-drop_permanent : goal.returns-clause-drop_permanent
returns-clause-drop_permanent c = drops_permanent

pub returns-clause-set_user : goal.returns-clause-set_user
returns-clause-set_user c = sets_user_roots

pub returns-clause-drop_user : goal.returns-clause-drop_user
returns-clause-drop_user c = drops_user_roots

pub returns-clause-runtime : goal.returns-clause-runtime
returns-clause-runtime c = replaces
