use Rattle.std.specs.Prelude.{codes}
use Rattle.std.proofs.lemmas.Str.Pattern.{starts_text}
use Rattle.tables_recognize.proofs.files.is_uri.Goals as goal

pub returns : goal.returns
returns c = starts_text c.starts_with.result (codes "file:") c.args.path.now c.starts_with.ensures.cases
