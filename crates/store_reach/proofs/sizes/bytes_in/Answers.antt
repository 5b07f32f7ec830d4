use Rattle.std.proofs.Common.{◌∙◌}
use Rattle.store_reach.proofs.Sized.{bytes_reported}
use Rattle.store_reach.proofs.sizes.bytes_in.Goals as goal

pub returns : goal.returns
returns c w is = c.sum_of.ensures ∙ bytes_reported w c.args.outline.now is c.args.paths.now
