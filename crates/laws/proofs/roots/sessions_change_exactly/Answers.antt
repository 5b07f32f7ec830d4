use Rattle.laws.proofs.RootChanges.{adds_for_sessions, ends_sessions}
use Rattle.laws.proofs.roots.sessions_change_exactly.Goals as goal

pub returns-clause-add_temporary : goal.returns-clause-add_temporary
returns-clause-add_temporary c = adds_for_sessions

pub returns-clause-end_session : goal.returns-clause-end_session
returns-clause-end_session c = ends_sessions
