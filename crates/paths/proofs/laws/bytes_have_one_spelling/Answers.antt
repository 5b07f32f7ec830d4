use Rattle.std.proofs.Common.{subst, sym}
use Rattle.paths.specs.Base32.{Spells}
use Rattle.paths.proofs.Spelling.{spelled, base32-spells}
use Rattle.paths.proofs.laws.bytes_have_one_spelling.Goals as goal

pub returns : goal.returns
returns c = λ text bytes are. (spelled text bytes, λ e. subst (λ t. Spells t bytes) (sym e) (base32-spells bytes are))
