use Rattle.std.proofs.Common.{sym, ap, ◌∙◌}
use Rattle.paths.specs.StorePath.{is_base_name}
use Rattle.tables_load_objects.proofs.texts.path_of.Goals as goal

pub returns-in_ok-shared-in-Some : goal.returns-in_ok-shared-in-Some
returns-in_ok-shared-in-Some c = (
  c.in_ok-shared-in-Some.ensures.cases ∙ sym c.in-Some.ensures.found,
  ap is_base_name c.in-Some.ensures.found ∙ c.as_str-base.ensures.valid,
)
