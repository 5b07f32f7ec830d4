use Rattle.laws.proofs.Schemas.{schemas_differ, pieces_count_from_one, sessions_keep_in_bounds}
use Rattle.laws.proofs.rows.schemas_have_their_rows.Goals as goal

pub returns-clause-schemas : goal.returns-clause-schemas
returns-clause-schemas c = schemas_differ

pub returns-clause-pieces : goal.returns-clause-pieces
returns-clause-pieces c = pieces_count_from_one

pub returns-clause-sessions : goal.returns-clause-sessions
returns-clause-sessions c = sessions_keep_in_bounds
