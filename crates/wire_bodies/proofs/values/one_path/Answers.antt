use Rattle.wire_bodies.specs.Kinds.{path_text}
use Rattle.wire_bodies.proofs.ValueLemmas.{single_one}
use Rattle.wire_bodies.proofs.values.one_path.Goals as goal

pub returns-in-One : goal.returns-in-One
returns-in-One c = rw (single_one (path_text c.args.dir.now) _ c.in-One.text c.in-One.ensures) c.path_of.ensures
