use Rattle.std.proofs.Common.{◌∙◌}
use Rattle.policy.proofs.TableKeys.{has_only_keys-view}
use Rattle.policy.proofs.keys.has_only_keys.Goals as goal

pub returns : goal.returns
returns c = c.all_are_keys.ensures ∙ has_only_keys-view c.args.table.now.entries
